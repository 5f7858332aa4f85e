use Rattle.std.proofs.Common.{◌≡◌, ℕ, ◌<◌, length, take}
use Rattle.tso_audit.specs.LastPlaces.{store_of}
use Rattle.lf_model.specs.Order.{StoreStoreAt}
use Rattle.lf_model.specs.Places.{AtPlace}
use Rattle.tso_audit.proofs.LargestNumber.{Keeps}
use Rattle.tso_audit.proofs.sequence.first_early_store.Given as goal

abbrev pub invariant-loop-i : goal.invariant-loop-i
invariant-loop-i l = record { size : length l.next ≡ 8; keeps : Keeps store_of l.next (take l.i l.order); held : (j : ℕ) → j < l.i → AtPlace StoreStoreAt l.order j }
