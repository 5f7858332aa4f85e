use Rattle.std.proofs.Common.{ℕ, ◌<◌}
use Rattle.lf_model.specs.Once.{OnceAtCore}
use Rattle.tso_audit.proofs.parts.first_unnumbered_core.Given as goal

abbrev pub invariant-loop-c : goal.invariant-loop-c
invariant-loop-c l = (j : ℕ) → j < l.c → OnceAtCore l.order j
