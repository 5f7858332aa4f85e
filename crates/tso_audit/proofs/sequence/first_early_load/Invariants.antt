use Rattle.std.proofs.Common.{◌≡◌, ℕ, ◌<◌, length, take}
use Rattle.lf_model.specs.Operation.{of_core}
use Rattle.lf_model.specs.Order.{LoadOpAt}
use Rattle.lf_model.specs.Places.{AtPlace}
use Rattle.tso_audit.proofs.LargestNumber.{Keeps}
use Rattle.tso_audit.proofs.sequence.first_early_load.Given as goal

abbrev pub invariant-loop-i : goal.invariant-loop-i
invariant-loop-i l = record { size : length l.next ≡ 8; keeps : Keeps of_core l.next (take l.i l.order); held : (j : ℕ) → j < l.i → AtPlace LoadOpAt l.order j }
