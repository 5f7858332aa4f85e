use Rattle.std.proofs.Common.{◌≡◌, length, arith, ap}
use Rattle.machine_play.specs.MachineValue.{MachineValue}
use Rattle.machine_play.proofs.EventRuns.{round_starts, round_next, round_ends}
use Rattle.machine_play.proofs.machine.Machine.round.Goals as goal

pub loop-number-init : goal.loop-number-init
loop-number-init c = round_starts c.args.self.now c.requires

pub core_event-requires : goal.core_event-requires
core_event-requires c = c.loop-number.invariant.moved.machine

pub loop-number-preserved : goal.loop-number-preserved
loop-number-preserved c = round_next c.loop-number.number c.args.self.now c.loop-number.self c.core_event.new.self c.loop-number.invariant c.core_event.ensures.moved c.core_event.ensures.advances

pub scrub_event-requires : goal.scrub_event-requires
scrub_event-requires c = c.loop-number.invariant.moved.machine

pub returns-clause-moved : goal.returns-clause-moved
returns-clause-moved c =
    let all : c.loop-number.number ≡ length c.args.self.now.cores =
    omega (arith, c.loop-number-test.false, c.loop-number.auto.number-end, c.len-number-end.ensures, c.self.inside.cores.ok.0, ap (λ (m : MachineValue). length m.cores) c.self.view_is) in
    (round_ends c.loop-number.number c.args.self.now c.loop-number.self c.scrub_event.new.self all c.loop-number.invariant c.scrub_event.ensures.moved c.scrub_event.ensures.advances).0

pub returns-clause-advances : goal.returns-clause-advances
returns-clause-advances c =
    let all : c.loop-number.number ≡ length c.args.self.now.cores =
    omega (arith, c.loop-number-test.false, c.loop-number.auto.number-end, c.len-number-end.ensures, c.self.inside.cores.ok.0, ap (λ (m : MachineValue). length m.cores) c.self.view_is) in
    (round_ends c.loop-number.number c.args.self.now c.loop-number.self c.scrub_event.new.self all c.loop-number.invariant c.scrub_event.ensures.moved c.scrub_event.ensures.advances).1
