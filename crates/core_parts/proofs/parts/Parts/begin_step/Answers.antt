use Rattle.std.proofs.Common.{ap}
use Rattle.core_parts.proofs.Begins.{can_run_begun}
use Rattle.core_parts.proofs.CoreBegun.{core_begun}
use Rattle.core_parts.specs.Strikes.{own_flips}
use Rattle.core_parts.specs.declared.arrays.Arrays.{Arrays}
use Rattle.core_parts.proofs.parts.Parts.begin_step.Goals as goal

pub strike_due-requires-clause-units : goal.strike_due-requires-clause-units
strike_due-requires-clause-units c = c.requires.runs.units

pub strike_due-requires-clause-came : goal.strike_due-requires-clause-came
strike_due-requires-clause-came c = c.requires.runs.came

pub returns-clause-runs : goal.returns-clause-runs
returns-clause-runs c = can_run_begun c.args.self.now c.requires.runs c.strike_due.new.arrays c.strike_due.ensures.struck c.strike_due.ensures.units c.strike_due.ensures.came

pub returns-clause-core : goal.returns-clause-core
returns-clause-core c = λ a is.
    core_begun a c.args.self.now (record c.args.self.now { arrays = c.strike_due.new.arrays }) (own_flips c.args.self.now.record.core c.args.self.now.site.flips) c.args.self.now.record.steps
    (ap (λ (arrays : Arrays). record c.args.self.now { arrays = arrays }) c.strike_due.ensures.struck) is
