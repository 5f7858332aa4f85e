use Rattle.std.proofs.Common.{◌<◌, length, map, refl, arith}
use Rattle.std.proofs.lemmas.List.{length-map}
use Rattle.parity_slots.specs.SlotState.{used_in}
use Rattle.parity_units.proofs.EventLemmas.{keeps_same}
use Rattle.parity_slots.specs.Kept.{slot_of}
use Rattle.parity_slots.proofs.SlotsLemmas.{few, units, follows, seen_changed}
use Rattle.parity_slots.proofs.cache_slots.Slots.set_used.Goals as goal

pub invariant_of-self : goal.invariant_of-self
invariant_of-self c =
    let s = c.self.inside in
    let place : c.args.i < length (map slot_of s.slots.items) = rw (← c.self.view_is) at c.requires in
    let within : c.args.i < length s.slots.items = omega (arith, place, length-map s.slots.items slot_of) in
    let read = c.index_mut.ensures.value in
    record {
      few = few s c.args.i read within c.set_used.new.self s.ledger c.self.invariant;
      units = units s c.args.i read within c.set_used.new.self s.ledger c.self.invariant (keeps_same s.ledger);
      follows = follows s c.args.i read within c.set_used.new.self s.ledger c.self.invariant (λ h on. rw c.set_used.ensures on);
    }

pub returns : goal.returns
returns c =
    let s = c.self.inside in
    let place : c.args.i < length (map slot_of s.slots.items) = rw (← c.self.view_is) at c.requires in
    let within : c.args.i < length s.slots.items = omega (arith, place, length-map s.slots.items slot_of) in
    let read = c.index_mut.ensures.value in
    rw (← c.self.view_is) (seen_changed s c.args.i read within (used_in c.args.at) c.set_used.new.self s.ledger refl c.set_used.ensures)
