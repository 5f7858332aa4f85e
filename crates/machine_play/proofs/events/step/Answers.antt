use Rattle.std.proofs.Common.{false, ap, inl, inr}
use Rattle.leon_core.specs.CoreInside.{in_step}
use Rattle.machine_play.proofs.OneCoreMoves.{steps_alone, need_unscheduled, need_comes, need_phase, joins_then, with_turn}
use Rattle.machine_play.proofs.events.step.Goals as goal

pub bus_step-requires-clause-joins : goal.bus_step-requires-clause-joins
bus_step-requires-clause-joins c =
    let local = c.local_step in
    joins_then c.args.core.now local.new.self c.args.bus.now.log c.args.bus.now.transfers c.requires.beside.core.joins local.ensures.moves.keeps local.ensures.ok

pub returns-in-Need : goal.returns-in-Need
returns-in-Need c =
    let old = c.args.core.now in
    let local = c.local_step in
    let turn = c.in-Need.turn in
    let made = c.bus_step.ensures in
    inr (with_turn old local.new.self (need_comes old local.result turn c.in-Need.is local.new.self local.ensures.moves) turn c.bus_step.new.self c.args.bus.now c.bus_step.new.bus c.bus_step.result
    made.answer made.moves made.stores made.adds made.ok made.bus_ok false
    (need_unscheduled old local.result turn c.in-Need.is c.args.bus.now.log c.args.bus.now.transfers c.requires.beside.core.joins local.ensures.answer)
    c.requires.runs (ap in_step (need_phase old local.result turn c.in-Need.is local.new.self local.ensures.moves)))

pub returns-in_default : goal.returns-in_default
returns-in_default c =
    let local = c.local_step in
    inl (steps_alone c.args.core.now local.result local.new.self c.args.bus.now local.ensures.moves c.requires.runs (λ turn is. c.in_default.not-Need turn is) local.ensures.ok)
