use Rattle.std.proofs.Common.{◌≡◌, ℕ, ◌<◌, true, length, sym, ap, ◌∙◌, subst}
use Rattle.lf_model.specs.Caches.Slot.{history_at}
use Rattle.lf_model.specs.Flips.{is_struck_byte}
use Rattle.replay_units.specs.Units.{Units, befallen, found}
use Rattle.replay_caches.specs.Part.{histories_in}
use Rattle.replay_caches.specs.SlotsInside.{seen}
use Rattle.replay_caches.specs.SlotsState.{slot_in}
use Rattle.replay_caches.proofs.RunLemmas.{check_struck, check_same}
use Rattle.replay_caches.proofs.SlotsLemmas.{few, is_unit, seen_befallen, struck_small}
use Rattle.replay_caches.proofs.slots.Slots.check.Goals as goal

pub unit-requires-clause-slot : goal.unit-requires-clause-slot
unit-requires-clause-slot c =
    let lt : c.args.i < length (seen c.self.inside).slots = rw (← c.self.view_is) at c.requires in
    few c.self.inside c.self.invariant c.args.i lt

pub unit-requires-clause-byte : goal.unit-requires-clause-byte
unit-requires-clause-byte c =
    let lt : c.args.i < length (seen c.self.inside).slots = rw (← c.self.view_is) at c.requires in
    let tested : is_struck_byte (history_at c.args.byte (histories_in c.args.part (slot_in c.args.i c.args.self.now))) ≡ true = sym c.is_struck.ensures ∙ c.if-is_struck.true in
    let struck = rw (← c.self.view_is) at tested in
    struck_small c.self.inside c.self.invariant c.args.i lt c.args.part c.args.byte struck

pub find-requires : goal.find-requires
find-requires c =
    let lt : c.args.i < length (seen c.self.inside).slots = rw (← c.self.view_is) at c.requires in
    let tested : is_struck_byte (history_at c.args.byte (histories_in c.args.part (slot_in c.args.i c.args.self.now))) ≡ true = sym c.is_struck.ensures ∙ c.if-is_struck.true in
    let struck = rw (← c.self.view_is) at tested in
    let small = struck_small c.self.inside c.self.invariant c.args.i lt c.args.part c.args.byte struck in
    record { unit = subst (λ (u : ℕ). u < length c.self.inside.units.histories) (sym c.unit.ensures) (is_unit c.self.inside c.self.invariant c.args.i lt c.args.part c.args.byte small) }

pub returns-then-is_struck : goal.returns-then-is_struck
returns-then-is_struck c =
    let s = c.self.inside in
    let lt : c.args.i < length (seen c.self.inside).slots = rw (← c.self.view_is) at c.requires in
    let tested : is_struck_byte (history_at c.args.byte (histories_in c.args.part (slot_in c.args.i c.args.self.now))) ≡ true = sym c.is_struck.ensures ∙ c.if-is_struck.true in
    let struck = rw (← c.self.view_is) at tested in
    let small = struck_small c.self.inside c.self.invariant c.args.i lt c.args.part c.args.byte struck in
    rw (← c.self.view_is)
    (ap (λ (u : Units). seen (record { stored = s.stored; units = u })) (c.find.ensures ∙ ap (λ (n : ℕ). befallen found n s.units) c.unit.ensures)
    ∙ seen_befallen s c.self.invariant c.args.i lt c.args.part c.args.byte found small
    ∙ check_struck c.args.part c.args.byte c.args.i (seen s) struck)

pub returns-else-is_struck : goal.returns-else-is_struck
returns-else-is_struck c = sym (check_same c.args.part c.args.byte c.args.i c.args.self.now (sym c.is_struck.ensures ∙ c.if-is_struck.false))
