use Rattle.std.proofs.Common.{length}
use Rattle.bus_memory.specs.Strikes.{IsAlong}
use Rattle.bus_memory.proofs.strike.strike_due.Given as goal

abbrev pub invariant-due : goal.invariant-due
invariant-due l = IsAlong l.turn l.fn.memory l.fn.plan l.memory l.plan

abbrev pub decreases-due : goal.decreases-due
decreases-due l = length l.plan
