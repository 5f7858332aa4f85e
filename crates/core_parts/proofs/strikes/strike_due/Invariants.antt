use Rattle.std.proofs.Common.{length}
use Rattle.core_parts.specs.Strikes.{IsAlong}
use Rattle.core_parts.proofs.strikes.strike_due.Given as goal

abbrev pub invariant-due : goal.invariant-due
invariant-due l = IsAlong l.made.steps l.fn.arrays l.fn.plan l.arrays l.plan

abbrev pub decreases-due : goal.decreases-due
decreases-due l = length l.plan
