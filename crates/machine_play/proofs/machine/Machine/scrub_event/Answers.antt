use Rattle.std.proofs.Common.{arith}
use Rattle.machine_play.specs.MachineInside.{seen}
use Rattle.machine_play.proofs.ScrubMoves.{turn_moved, turn_advances}
use Rattle.machine_play.proofs.machine.Machine.scrub_event.Goals as goal

pub returns-then-turns_left-gt0-clause-moved : goal.returns-then-turns_left-gt0-clause-moved
returns-then-turns_left-gt0-clause-moved c =
    let inside = c.self.inside in
    turn_moved c.args.self.now c.requires (seen inside) c.self.view_is (omega (arith, c.if-turns_left-gt0.true, c.turns_left.ensures)) c.step.new.self c.step.new.bus
    c.step.ensures.made c.step.ensures.walk c.step.ensures.ok

pub returns-then-turns_left-gt0-clause-advances : goal.returns-then-turns_left-gt0-clause-advances
returns-then-turns_left-gt0-clause-advances c =
    let inside = c.self.inside in
    turn_advances c.args.self.now c.requires (seen inside) c.self.view_is (omega (arith, c.if-turns_left-gt0.true, c.turns_left.ensures)) c.step.new.self c.step.new.bus
    c.step.ensures.made c.step.ensures.walk c.step.ensures.ok
