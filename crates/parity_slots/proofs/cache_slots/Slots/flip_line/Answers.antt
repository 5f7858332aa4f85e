use Rattle.std.proofs.Common.{◌+◌, ◌<◌, length, map, ◌∙◌, arith}
use Rattle.std.proofs.lemmas.List.{length-map}
use Rattle.parity_slots.specs.Kept.{slot_of}
use Rattle.parity_slots.specs.SlotState.{line_flipped}
use Rattle.parity_slots.proofs.SlotsLemmas.{few, units, seen_changed, answer_noted, gains_unit}
use Rattle.parity_slots.proofs.cache_slots.Slots.flip_line.Goals as goal

pub note_flip-requires-clause-answer : goal.note_flip-requires-clause-answer
note_flip-requires-clause-answer c =
    let s = c.self.inside in
    let place : c.args.i < length (map slot_of s.slots.items) = rw (← c.self.view_is) at c.requires.slot in
    let within : c.args.i < length s.slots.items = omega (arith, place, length-map s.slots.items slot_of) in
    let read = c.index_mut.ensures.value in
    c.flip_line-answer.ensures.answer ∙ answer_noted s c.args.i read within c.self.invariant (c.args.byte + 4) (omega (arith, c.requires.byte))

pub invariant_of-self : goal.invariant_of-self
invariant_of-self c =
    let s = c.self.inside in
    let place : c.args.i < length (map slot_of s.slots.items) = rw (← c.self.view_is) at c.requires.slot in
    let within : c.args.i < length s.slots.items = omega (arith, place, length-map s.slots.items slot_of) in
    let read = c.index_mut.ensures.value in
    let gains = gains_unit s c.args.i read within c.flip_line-answer.new.self (c.args.byte + 4) c.args.number c.args.bit (omega (arith, c.requires.byte)) c.flip_line-answer.ensures.gains in
    record {
      few = few s c.args.i read within c.flip_line-answer.new.self c.note_flip.new.ledger c.self.invariant;
      units = units s c.args.i read within c.flip_line-answer.new.self c.note_flip.new.ledger c.self.invariant c.note_flip.ensures.keeps;
      follows = c.note_flip.ensures.follows c.args.bit _ _ gains c.self.invariant.follows;
    }

pub returns-clause-struck : goal.returns-clause-struck
returns-clause-struck c =
    let s = c.self.inside in
    let place : c.args.i < length (map slot_of s.slots.items) = rw (← c.self.view_is) at c.requires.slot in
    let within : c.args.i < length s.slots.items = omega (arith, place, length-map s.slots.items slot_of) in
    let read = c.index_mut.ensures.value in
    rw (← c.self.view_is) (seen_changed s c.args.i read within (line_flipped c.args.byte c.args.number c.args.bit) c.flip_line-answer.new.self c.note_flip.new.ledger c.note_flip.ensures.keeps.flips c.flip_line-answer.ensures.struck)
