use Rattle.lf_model.specs.Effects.{effect}
use Rattle.lf_model.specs.Instructions.{instruction_of}
use Rattle.lf_model.specs.Step.{state_of}
use Rattle.tso_thread.proofs.ReplayTouches.{ops_kept}
use Rattle.tso_thread.proofs.running.instruction.Goals as goal
use Rattle.tso_thread.specs.ReplayInside.{answering_in, seen_in}
use Rattle.tso_thread.specs.ReplayState.{replay_answers}
use Rattle.v8_exec.specs.Touching.{touches_of}

pub returns-in-Some-clause-ops : goal.returns-in-Some-clause-ops
returns-in-Some-clause-ops c =
    let r = c.args.replay.now in
    ops_kept (answering_in r) (answering_in c.exec.new.p)
    (touches_of (replay_answers (answering_in r)) c.args.arch.now.ctl.cwp (effect (seen_in r).site (state_of c.args.arch.now (seen_in r)) (instruction_of c.in-Some.word)) c.exec.result)
    c.exec.ensures.touches
