use Rattle.std.proofs.Common.{◌∙◌, sym, subst, arith}
use Rattle.std.proofs.lemmas.Option.{slice_get_read, slice_get_past}
use Rattle.lf_model.specs.Promise.Turns.{event_made}
use Rattle.lf_model.specs.declared.setup.Actor.TheVariants.{Core}
use Rattle.machine_play.specs.MachineInside.{seen}
use Rattle.machine_play.specs.MachineValue.{MachineValue}
use Rattle.machine_play.specs.Moved.{IsSound, IsMoved}
use Rattle.machine_play.proofs.MachineMoves.{none_moved, ended_moved}
use Rattle.machine_play.proofs.machine.Machine.core_is_over.Goals as goal

pub returns-then-number-len : goal.returns-then-number-len
returns-then-number-len c over =
    let inside = c.self.inside in
    let core = c.index.result.now in
    subst (λ (m : MachineValue). IsMoved (λ a. event_made c.args.number a Core) m m) c.self.view_is
    (ended_moved (seen inside) (subst IsSound (sym c.self.view_is) c.requires) c.args.number core
    (slice_get_read inside.cores.items c.len.result c.args.number core (c.len.ensures ∙ inside.cores.ok.0) c.if-number-len.true c.index.ensures)
    (sym c.has_ended.ensures ∙ over))

pub returns-else-number-len : goal.returns-else-number-len
returns-else-number-len c over =
    let inside = c.self.inside in
    subst (λ (m : MachineValue). IsMoved (λ a. event_made c.args.number a Core) m m) c.self.view_is
    (none_moved (seen inside) (subst IsSound (sym c.self.view_is) c.requires) c.args.number
    (slice_get_past inside.cores.items c.args.number (omega (arith, c.if-number-len.false, c.len.ensures, inside.cores.ok.0))))
