use Rattle.std.proofs.Common.{ℕ, ◌<◌, ◌≤◌, length, sym, ap, ◌∙◌, subst, arith}
use Rattle.lf_model.specs.Caches.Slot.{written}
use Rattle.replay_units.specs.Units.{Units, befallen}
use Rattle.replay_caches.specs.Part.{size_of}
use Rattle.replay_caches.specs.SlotsInside.{seen}
use Rattle.replay_caches.proofs.SlotsLemmas.{few, is_unit, seen_befallen, none_befallen}
use Rattle.replay_caches.proofs.slots.Slots.write.Goals as goal

pub unit-requires-clause-slot : goal.unit-requires-clause-slot
unit-requires-clause-slot c =
    let lt : c.args.i < length (seen c.self.inside).slots = rw (← c.self.view_is) at c.requires in
    few c.self.inside c.self.invariant c.args.i lt

pub write-requires : goal.write-requires
write-requires c =
    let lt : c.args.i < length (seen c.self.inside).slots = rw (← c.self.view_is) at c.requires in
    let small : c.args.byte < size_of c.args.part = omega (arith, c.if-byte-size.true, c.size.ensures) in
    record { unit = subst (λ (u : ℕ). u < length c.self.inside.units.histories) (sym c.unit.ensures) (is_unit c.self.inside c.self.invariant c.args.i lt c.args.part c.args.byte small) }

pub returns-then-byte-size : goal.returns-then-byte-size
returns-then-byte-size c =
    let s = c.self.inside in
    let lt : c.args.i < length (seen c.self.inside).slots = rw (← c.self.view_is) at c.requires in
    let small : c.args.byte < size_of c.args.part = omega (arith, c.if-byte-size.true, c.size.ensures) in
    rw (← c.self.view_is)
    (ap (λ (u : Units). seen (record { stored = s.stored; units = u })) (c.write.ensures ∙ ap (λ (n : ℕ). befallen written n s.units) c.unit.ensures)
    ∙ seen_befallen s c.self.invariant c.args.i lt c.args.part c.args.byte written small)

pub returns-else-byte-size : goal.returns-else-byte-size
returns-else-byte-size c =
    let lt : c.args.i < length (seen c.self.inside).slots = rw (← c.self.view_is) at c.requires in
    let past : size_of c.args.part ≤ c.args.byte = omega (arith, c.if-byte-size.false, c.size.ensures) in
    rw (← c.self.view_is) (sym (none_befallen c.self.inside c.self.invariant c.args.i lt c.args.part c.args.byte written past))
