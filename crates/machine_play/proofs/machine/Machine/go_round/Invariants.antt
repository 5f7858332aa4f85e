use Rattle.std.proofs.Common.{ℕ}
use Rattle.machine_play.specs.Moved.{GoesRound, left_in}
use Rattle.machine_play.proofs.machine.Machine.go_round.Given as goal

abbrev pub invariant-loop-self : goal.invariant-loop-self
invariant-loop-self l = (count : ℕ) × GoesRound count l.fn.self l.self

abbrev pub decreases-loop-self : goal.decreases-loop-self
decreases-loop-self l = left_in l.self
