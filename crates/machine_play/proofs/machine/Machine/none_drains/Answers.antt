use Rattle.std.proofs.Common.{◌∙◌, sym, subst, arith}
use Rattle.std.proofs.lemmas.Option.{slice_get_read, slice_get_past}
use Rattle.lf_model.specs.Promise.Turns.{event_made}
use Rattle.lf_model.specs.declared.setup.Actor.TheVariants.{Drain}
use Rattle.machine_play.specs.MachineInside.{seen}
use Rattle.machine_play.specs.MachineValue.{MachineValue}
use Rattle.machine_play.specs.Moved.{IsSound, IsMoved}
use Rattle.machine_play.proofs.MachineMoves.{none_drained, ended_drained, none_waits, none_waits_drained}
use Rattle.machine_play.proofs.machine.Machine.none_drains.Goals as goal

pub returns-then-has_ended : goal.returns-then-has_ended
returns-then-has_ended c ended =
    let inside = c.self.inside in
    let core = c.index.result.now in
    subst (λ (m : MachineValue). IsMoved (λ a. event_made c.args.number a Drain) m m) c.self.view_is
    (ended_drained (seen inside) (subst IsSound (sym c.self.view_is) c.requires) c.args.number core
    (slice_get_read inside.cores.items c.len.result c.args.number core (c.len.ensures ∙ inside.cores.ok.0) c.if-number-len.true c.index.ensures)
    (sym c.has_ended.ensures ∙ ended))

pub returns-else-has_ended : goal.returns-else-has_ended
returns-else-has_ended c none =
    let inside = c.self.inside in
    let core = c.index-else-has_ended.result.now in
    subst (λ (m : MachineValue). IsMoved (λ a. event_made c.args.number a Drain) m m) c.self.view_is
    (none_waits_drained (seen inside) (subst IsSound (sym c.self.view_is) c.requires) c.args.number core
    (slice_get_read inside.cores.items c.len.result c.args.number core (c.len.ensures ∙ inside.cores.ok.0) c.if-number-len.true c.index-else-has_ended.ensures)
    (none_waits core c.waiting.result c.waiting.ensures none))

pub returns-else-number-len : goal.returns-else-number-len
returns-else-number-len c none =
    let inside = c.self.inside in
    subst (λ (m : MachineValue). IsMoved (λ a. event_made c.args.number a Drain) m m) c.self.view_is
    (none_drained (seen inside) (subst IsSound (sym c.self.view_is) c.requires) c.args.number
    (slice_get_past inside.cores.items c.args.number (omega (arith, c.if-number-len.false, c.len.ensures, inside.cores.ok.0))))
