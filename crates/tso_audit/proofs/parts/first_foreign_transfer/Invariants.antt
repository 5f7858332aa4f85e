use Rattle.std.proofs.Common.{ℕ, ◌<◌}
use Rattle.lf_model.specs.Once.{OnceAtTransfer}
use Rattle.tso_audit.proofs.parts.first_foreign_transfer.Given as goal

abbrev pub invariant-loop-i : goal.invariant-loop-i
invariant-loop-i l = (j : ℕ) → j < l.i → OnceAtTransfer l.cores l.transfers j
