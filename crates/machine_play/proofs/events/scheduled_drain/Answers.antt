use Rattle.std.proofs.Common.{true, refl, ap}
use Rattle.core_parts.specs.Completes.{Keeps}
use Rattle.core_parts.specs.CoreValue.{CoreValue}
use Rattle.leon_core.specs.CoreInside.{in_step}
use Rattle.leon_core.specs.Moves.{store_steps}
use Rattle.lf_model.specs.declared.bus.Why.TheVariants.{Sched}
use Rattle.lf_model.specs.declared.step.Turn.TheVariants.{Drain}
use Rattle.machine_play.proofs.OneCoreMoves.{comes_at_once, joins_then, with_turn}
use Rattle.machine_play.proofs.events.scheduled_drain.Goals as goal

pub bus_step-requires-clause-joins : goal.bus_step-requires-clause-joins
bus_step-requires-clause-joins c =
    let start = c.start_step in
    let kept : Keeps c.args.core.now start.new.self = record { setup = ap (λ (v : CoreValue). v.setup) start.ensures.started; core = ap (λ (v : CoreValue). v.arch.core) start.ensures.started } in
    joins_then c.args.core.now start.new.self c.args.bus.now.log c.args.bus.now.transfers c.requires.beside.core.joins kept start.ensures.ok

pub returns : goal.returns
returns c =
    let old = c.args.core.now in
    let start = c.start_step in
    let made = c.bus_step.ensures in
    let kept : Keeps old start.new.self = record { setup = ap (λ (v : CoreValue). v.setup) start.ensures.started; core = ap (λ (v : CoreValue). v.arch.core) start.ensures.started } in
    with_turn old start.new.self
    (comes_at_once old start.new.self kept (ap (λ (v : CoreValue). v.steps) start.ensures.started) (ap (λ (v : CoreValue). store_steps v.ops) start.ensures.started))
    (Drain Sched) c.bus_step.new.self c.args.bus.now c.bus_step.new.bus c.bus_step.result made.answer made.moves made.stores made.adds made.ok made.bus_ok true refl
    c.requires.runs (ap (λ (v : CoreValue). in_step v.phase) start.ensures.started)
