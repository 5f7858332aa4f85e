use Rattle.std.proofs.Common.{ℕ, ◌<◌}
use Rattle.lf_model.specs.Once.{OnceAtOrder}
use Rattle.lf_model.specs.Places.{AtPlace}
use Rattle.tso_audit.proofs.parts.first_foreign_operation.Given as goal

abbrev pub invariant-loop-i : goal.invariant-loop-i
invariant-loop-i l = (j : ℕ) → j < l.i → AtPlace (OnceAtOrder l.cores) l.order j
