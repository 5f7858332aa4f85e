use Rattle.std.proofs.Common.{ℕ, ◌<◌, ◌≡◌}
use Rattle.lf_model.specs.Records.CoreRules.{ThreadAt}
use Rattle.tso_thread.proofs.execution.first_core_without_thread.Given as goal

abbrev pub invariant-loop-core : goal.invariant-loop-core
invariant-loop-core l = (l.results ≡ l.trace.cores) × ((j : ℕ) → j < l.core → ThreadAt l.program.setup.now l.trace j)
