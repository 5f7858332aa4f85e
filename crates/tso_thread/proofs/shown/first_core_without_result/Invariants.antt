use Rattle.std.proofs.Common.{ℕ, ◌<◌, ◌≡◌}
use Rattle.lf_model.specs.Records.CoreRules.{ResultAt}
use Rattle.tso_thread.proofs.shown.first_core_without_result.Given as goal

abbrev pub invariant-loop-core : goal.invariant-loop-core
invariant-loop-core l = (l.results ≡ l.trace.cores) × ((j : ℕ) → j < l.core → ResultAt l.program.setup.now l.trace j)
