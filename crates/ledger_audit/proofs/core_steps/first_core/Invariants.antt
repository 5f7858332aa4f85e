use Rattle.std.proofs.Common.{ℕ, ◌<◌}
use Rattle.lf_model.specs.Ledger.Rule.{StepsAt}
use Rattle.ledger_audit.proofs.core_steps.first_core.Given as goal

abbrev pub invariant-loop-core : goal.invariant-loop-core
invariant-loop-core l = (j : ℕ) → j < l.core → StepsAt l.setup l.trace j
