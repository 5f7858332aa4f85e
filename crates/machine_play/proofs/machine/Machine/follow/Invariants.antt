use Rattle.std.proofs.Common.{take, fold}
use Rattle.lf_model.specs.Promise.Follows.{scheduled}
use Rattle.machine_play.specs.Moved.{IsMoved}
use Rattle.machine_play.proofs.machine.Machine.follow.Given as goal

abbrev pub invariant-loop-e : goal.invariant-loop-e
invariant-loop-e l = IsMoved (λ a. fold scheduled a (take l.e-index l.events)) l.fn.self l.self
