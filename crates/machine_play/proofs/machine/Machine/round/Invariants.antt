use Rattle.machine_play.proofs.EventRuns.{IsInRound}
use Rattle.machine_play.proofs.machine.Machine.round.Given as goal

abbrev pub invariant-loop-number : goal.invariant-loop-number
invariant-loop-number l = IsInRound l.number l.fn.self l.self
