use Rattle.std.proofs.Common.{◌<◌, length, map, arith}
use Rattle.std.proofs.lemmas.List.{length-map}
use Rattle.lf_model.specs.Caches.Slot.{dropped_by_byte}
use Rattle.parity_slots.specs.Kept.{slot_of}
use Rattle.parity_slots.proofs.SlotsLemmas.{few, units, follows, seen_changed}
use Rattle.parity_slots.proofs.cache_slots.Slots.drop_by_byte.Goals as goal

pub invariant_of-self : goal.invariant_of-self
invariant_of-self c =
    let s = c.self.inside in
    let place : c.args.i < length (map slot_of s.slots.items) = rw (← c.self.view_is) at c.requires.slot in
    let within : c.args.i < length s.slots.items = omega (arith, place, length-map s.slots.items slot_of) in
    let read = c.index_mut.ensures.value in
    record {
      few = few s c.args.i read within c.drop_by_byte.new.self c.drop_by_byte.new.ledger c.self.invariant;
      units = units s c.args.i read within c.drop_by_byte.new.self c.drop_by_byte.new.ledger c.self.invariant c.drop_by_byte.ensures.keeps;
      follows = follows s c.args.i read within c.drop_by_byte.new.self c.drop_by_byte.new.ledger c.self.invariant (λ h on. rw c.drop_by_byte.ensures.slot (c.drop_by_byte.ensures.follows h on));
    }

pub returns : goal.returns
returns c =
    let s = c.self.inside in
    let place : c.args.i < length (map slot_of s.slots.items) = rw (← c.self.view_is) at c.requires.slot in
    let within : c.args.i < length s.slots.items = omega (arith, place, length-map s.slots.items slot_of) in
    let read = c.index_mut.ensures.value in
    rw (← c.self.view_is) (seen_changed s c.args.i read within (dropped_by_byte c.args.addr c.args.len) c.drop_by_byte.new.self c.drop_by_byte.new.ledger c.drop_by_byte.ensures.keeps.flips c.drop_by_byte.ensures.slot)
