use Rattle.lf_model.specs.Promise.Follows.{event_times}
use Rattle.machine_play.specs.Moved.{IsMoved}
use Rattle.machine_play.proofs.machine.Machine.scheduled.Given as goal

abbrev pub invariant-loop : goal.invariant-loop
invariant-loop l = IsMoved (event_times l.counter l.e) l.fn.self l.self
