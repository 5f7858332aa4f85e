use Rattle.std.proofs.Common.{ℕ, ◌<◌, length, sym, ap, ◌∙◌, subst}
use Rattle.lf_model.specs.Course.Arrays.{struck_by}
use Rattle.replay_units.specs.Units.{Units, befallen}
use Rattle.replay_caches.specs.SlotsInside.{seen}
use Rattle.replay_caches.specs.SlotsState.{IsToCome}
use Rattle.replay_caches.proofs.SlotLists.{to_come}
use Rattle.replay_caches.proofs.SlotsLemmas.{few, is_unit, seen_befallen}
use Rattle.replay_caches.proofs.slots.Slots.strike.Goals as goal

pub unit-requires-clause-slot : goal.unit-requires-clause-slot
unit-requires-clause-slot c =
    let lt : c.args.i < length (seen c.self.inside).slots = rw (← c.self.view_is) at c.requires.slot in
    few c.self.inside c.self.invariant c.args.i lt

pub strike-requires-clause-unit : goal.strike-requires-clause-unit
strike-requires-clause-unit c =
    let lt : c.args.i < length (seen c.self.inside).slots = rw (← c.self.view_is) at c.requires.slot in
    subst (λ (u : ℕ). u < length c.self.inside.units.histories) (sym c.unit.ensures) (is_unit c.self.inside c.self.invariant c.args.i lt c.args.part c.args.byte c.requires.byte)

pub strike-requires-clause-once : goal.strike-requires-clause-once
strike-requires-clause-once c =
    let none : IsToCome c.args.number (seen c.self.inside).slots = rw (← c.self.view_is) at c.requires.once in
    to_come c.self.inside.units.histories c.self.inside.stored.items c.self.invariant.units c.args.number none

pub returns : goal.returns
returns c =
    let s = c.self.inside in
    let lt : c.args.i < length (seen c.self.inside).slots = rw (← c.self.view_is) at c.requires.slot in
    rw (← c.self.view_is)
    (ap (λ (u : Units). seen (record { stored = s.stored; units = u })) (c.strike.ensures ∙ ap (λ (n : ℕ). befallen (struck_by c.args.number c.args.bit) n s.units) c.unit.ensures)
    ∙ seen_befallen s c.self.invariant c.args.i lt c.args.part c.args.byte (struck_by c.args.number c.args.bit) c.requires.byte)
