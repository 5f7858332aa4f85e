use Rattle.std.proofs.Common.{◌∙◌, sym, subst, arith}
use Rattle.std.proofs.lemmas.Option.{slice_get_read, slice_get_past}
use Rattle.lf_model.specs.Promise.Turns.{event_made}
use Rattle.lf_model.specs.declared.setup.Actor.TheVariants.{Drain}
use Rattle.machine_play.specs.MachineInside.{seen}
use Rattle.machine_play.specs.MachineValue.{MachineValue, with_core_turn}
use Rattle.machine_play.specs.Moved.{IsSound, IsMoved}
use Rattle.machine_play.proofs.MachineMoves.{none_drained, core_drained}
use Rattle.machine_play.proofs.machine.Machine.drain_event.Goals as goal

pub returns-then-number-len : goal.returns-then-number-len
returns-then-number-len c =
    let inside = c.self.inside in
    let old = c.index_mut.result.now in
    subst (λ (m : MachineValue). IsMoved (λ a. event_made c.args.number a Drain) m (with_core_turn c.args.number c.drain_core.new.core c.drain_core.new.bus (seen inside))) c.self.view_is
    (core_drained (seen inside) (subst IsSound (sym c.self.view_is) c.requires) c.args.number old
    (slice_get_read inside.cores.items c.len.result c.args.number old (c.len.ensures ∙ inside.cores.ok.0) c.if-number-len.true c.index_mut.ensures.value)
    c.drain_core.new.core c.drain_core.new.bus c.drain_core.ensures)

pub returns-else-number-len : goal.returns-else-number-len
returns-else-number-len c =
    let inside = c.self.inside in
    subst (λ (m : MachineValue). IsMoved (λ a. event_made c.args.number a Drain) m m) c.self.view_is
    (none_drained (seen inside) (subst IsSound (sym c.self.view_is) c.requires) c.args.number
    (slice_get_past inside.cores.items c.args.number (omega (arith, c.if-number-len.false, c.len.ensures, inside.cores.ok.0))))
