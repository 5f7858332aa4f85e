use Rattle.std.proofs.lemmas.Option.{slice_get-get_or}
use Rattle.machine_play.proofs.EventRuns.{none_moves, schedule_next, schedule_all}
use Rattle.machine_play.proofs.machine.Machine.follow.Goals as goal

pub loop-e-init : goal.loop-e-init
loop-e-init c = none_moves c.args.self.now c.requires

pub scheduled-requires : goal.scheduled-requires
scheduled-requires c = c.loop-e.invariant.machine

pub loop-e-preserved : goal.loop-e-preserved
loop-e-preserved c = schedule_next c.args.events.now c.loop-e.e-index _ c.args.self.now c.loop-e.self c.scheduled.new.self
    (slice_get-get_or c.args.events.now c.loop-e.e-index _ c.loop-e-test.true)
    c.loop-e.invariant c.scheduled.ensures

pub returns : goal.returns
returns c = schedule_all c.args.events.now c.loop-e.e-index c.args.self.now c.loop-e.self c.loop-e-test.false c.loop-e.invariant
