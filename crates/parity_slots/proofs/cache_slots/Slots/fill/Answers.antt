use Rattle.std.proofs.Common.{◌<◌, length, map, sym, ap, ◌∙◌, arith}
use Rattle.std.proofs.lemmas.List.{length-map}
use Rattle.parity_slots.specs.SlotState.{SlotState, filled_state}
use Rattle.parity_slots.specs.SlotsState.{with_state}
use Rattle.parity_slots.specs.Kept.{slot_of, seen}
use Rattle.parity_slots.proofs.SlotsLemmas.{few, units, follows, seen_with, state_here}
use Rattle.parity_slots.proofs.cache_slots.Slots.fill.Goals as goal

pub invariant_of-self : goal.invariant_of-self
invariant_of-self c =
    let s = c.self.inside in
    let place : c.args.i < length (map slot_of s.slots.items) = rw (← c.self.view_is) at c.requires.slot in
    let within : c.args.i < length s.slots.items = omega (arith, place, length-map s.slots.items slot_of) in
    let read = c.index_mut.ensures.value in
    record {
      few = few s c.args.i read within c.fill.new.self c.fill.new.ledger c.self.invariant;
      units = units s c.args.i read within c.fill.new.self c.fill.new.ledger c.self.invariant c.fill.ensures.keeps;
      follows = follows s c.args.i read within c.fill.new.self c.fill.new.ledger c.self.invariant (λ h on. rw c.fill.ensures.slot (c.fill.ensures.follows h on));
    }

pub returns : goal.returns
returns c =
    let s = c.self.inside in
    let place : c.args.i < length (map slot_of s.slots.items) = rw (← c.self.view_is) at c.requires.slot in
    let within : c.args.i < length s.slots.items = omega (arith, place, length-map s.slots.items slot_of) in
    let read = c.index_mut.ensures.value in
    rw (← c.self.view_is)
    (seen_with s c.args.i read within c.fill.new.self c.fill.new.ledger c.fill.ensures.keeps.flips
    ∙ ap (λ (t : SlotState). with_state t c.args.i (seen s)) (c.fill.ensures.slot ∙ ap (filled_state c.args.addr c.args.valid c.args.words.now) (sym (state_here s c.args.i read within))))
