use Rattle.std.proofs.Common.{ℕ, ◌<◌, ◌≤◌, length, sym, ap, ◌∙◌, subst, arith}
use Rattle.lf_model.specs.Flips.{is_struck_byte}
use Rattle.replay_caches.specs.Part.{size_of}
use Rattle.replay_caches.specs.SlotsInside.{seen}
use Rattle.replay_caches.proofs.SlotsLemmas.{few, is_unit, past_part, struck_is}
use Rattle.replay_caches.proofs.slots.Slots.is_struck.Goals as goal

pub returns-then-byte-size : goal.returns-then-byte-size
returns-then-byte-size c =
    let lt : c.args.i < length (seen c.self.inside).slots = rw (← c.self.view_is) at c.requires in
    let past : size_of c.args.part ≤ c.args.byte = omega (arith, c.if-byte-size.true, c.size.ensures) in
    rw (← c.self.view_is) (ap is_struck_byte (sym (past_part c.self.inside c.self.invariant c.args.i lt c.args.part c.args.byte past)))

pub unit-requires-clause-slot : goal.unit-requires-clause-slot
unit-requires-clause-slot c =
    let lt : c.args.i < length (seen c.self.inside).slots = rw (← c.self.view_is) at c.requires in
    few c.self.inside c.self.invariant c.args.i lt

pub is_struck-requires : goal.is_struck-requires
is_struck-requires c =
    let lt : c.args.i < length (seen c.self.inside).slots = rw (← c.self.view_is) at c.requires in
    let small : c.args.byte < size_of c.args.part = omega (arith, c.if-byte-size.false, c.size.ensures) in
    record { unit = subst (λ (u : ℕ). u < length c.self.inside.units.histories) (sym c.unit.ensures) (is_unit c.self.inside c.self.invariant c.args.i lt c.args.part c.args.byte small) }

pub returns : goal.returns
returns c =
    let lt : c.args.i < length (seen c.self.inside).slots = rw (← c.self.view_is) at c.requires in
    let small : c.args.byte < size_of c.args.part = omega (arith, c.if-byte-size.false, c.size.ensures) in
    rw (← c.self.view_is) (c.is_struck.ensures ∙ struck_is c.self.inside c.self.invariant c.args.i lt c.args.part c.args.byte c.unit.result c.unit.ensures small)
