use Rattle.std.proofs.Common.{length}
use Rattle.replay_arrays.specs.Striking.{IsAlong}
use Rattle.replay_arrays.proofs.strikes.strike_due.Given as goal

abbrev pub invariant-due : goal.invariant-due
invariant-due l = IsAlong l.core l.fn.script.value l.step l.fn.parts l.fn.plan l.parts l.plan

abbrev pub decreases-due : goal.decreases-due
decreases-due l = length l.plan
