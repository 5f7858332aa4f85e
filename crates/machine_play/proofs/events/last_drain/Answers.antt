use Rattle.std.proofs.Common.{refl}
use Rattle.lf_model.specs.declared.bus.Why.TheVariants.{End}
use Rattle.lf_model.specs.declared.step.Turn.TheVariants.{Drain}
use Rattle.machine_play.proofs.OneCoreMoves.{comes_at_once, all_made, at_end}
use Rattle.machine_play.proofs.events.last_drain.Goals as goal

pub returns : goal.returns
returns c =
    let old = c.args.core.now in
    let made = c.bus_step.ensures in
    at_end old old (comes_at_once old old (record { setup = refl; core = refl }) refl refl) (Drain End) c.bus_step.new.self c.args.bus.now c.bus_step.new.bus c.bus_step.result
    made.answer made.moves made.stores made.adds made.ok made.bus_ok refl refl c.requires.drains (all_made old c.requires.beside.core.rests c.requires.drains)
