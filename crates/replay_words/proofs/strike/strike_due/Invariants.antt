use Rattle.std.proofs.Common.{length}
use Rattle.replay_words.specs.Striking.{IsAlong}
use Rattle.replay_words.proofs.strike.strike_due.Given as goal

abbrev pub invariant-due : goal.invariant-due
invariant-due l = IsAlong l.fn.script.value l.fn.places l.turn l.fn.units l.fn.plan l.units l.plan

abbrev pub decreases-due : goal.decreases-due
decreases-due l = length l.plan
