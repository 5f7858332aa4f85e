use Rattle.std.proofs.Common.{◌∙◌, refl, sym, subst, arith, inl}
use Rattle.std.proofs.lemmas.Option.{slice_get_read, slice_get_past}
use Rattle.lf_model.specs.Promise.Turns.{event_made}
use Rattle.lf_model.specs.declared.setup.Actor.TheVariants.{Core}
use Rattle.machine_play.specs.MachineInside.{seen}
use Rattle.machine_play.specs.MachineValue.{MachineValue, with_core_turn}
use Rattle.machine_play.specs.Moved.{IsSound, IsMoved, IsCoreOver, Advances}
use Rattle.machine_play.proofs.MachineMoves.{none_moved, none_over, core_moved, core_advances}
use Rattle.machine_play.proofs.machine.Machine.core_event.Goals as goal

pub returns-then-number-len-clause-moved : goal.returns-then-number-len-clause-moved
returns-then-number-len-clause-moved c =
    let inside = c.self.inside in
    let old = c.index_mut.result.now in
    subst (λ (m : MachineValue). IsMoved (λ a. event_made c.args.number a Core) m (with_core_turn c.args.number c.move_core.new.core c.move_core.new.bus (seen inside))) c.self.view_is
    (core_moved (seen inside) (subst IsSound (sym c.self.view_is) c.requires) c.args.number old
    (slice_get_read inside.cores.items c.len.result c.args.number old (c.len.ensures ∙ inside.cores.ok.0) c.if-number-len.true c.index_mut.ensures.value)
    c.move_core.new.core c.move_core.new.bus c.move_core.ensures)

pub returns-then-number-len-clause-advances : goal.returns-then-number-len-clause-advances
returns-then-number-len-clause-advances c =
    let inside = c.self.inside in
    let old = c.index_mut.result.now in
    subst (λ (m : MachineValue). Advances (IsCoreOver c.args.number m) m (with_core_turn c.args.number c.move_core.new.core c.move_core.new.bus (seen inside))) c.self.view_is
    (core_advances (seen inside) (subst IsSound (sym c.self.view_is) c.requires) c.args.number old
    (slice_get_read inside.cores.items c.len.result c.args.number old (c.len.ensures ∙ inside.cores.ok.0) c.if-number-len.true c.index_mut.ensures.value)
    c.move_core.new.core c.move_core.new.bus c.move_core.ensures)

pub returns-else-number-len-clause-moved : goal.returns-else-number-len-clause-moved
returns-else-number-len-clause-moved c =
    let inside = c.self.inside in
    subst (λ (m : MachineValue). IsMoved (λ a. event_made c.args.number a Core) m m) c.self.view_is
    (none_moved (seen inside) (subst IsSound (sym c.self.view_is) c.requires) c.args.number
    (slice_get_past inside.cores.items c.args.number (omega (arith, c.if-number-len.false, c.len.ensures, inside.cores.ok.0))))

pub returns-else-number-len-clause-advances : goal.returns-else-number-len-clause-advances
returns-else-number-len-clause-advances c =
    let inside = c.self.inside in
    subst (λ (m : MachineValue). Advances (IsCoreOver c.args.number m) m m) c.self.view_is
    (inl (
      none_over (seen inside) (subst IsSound (sym c.self.view_is) c.requires) c.args.number
          (slice_get_past inside.cores.items c.args.number (omega (arith, c.if-number-len.false, c.len.ensures, inside.cores.ok.0))),
      refl,
    ))
