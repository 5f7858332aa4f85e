use Rattle.std.proofs.Common.{◌≡◌, [], ◌∷◌, map, refl, arith}
use Rattle.lf_model.specs.Caches.Slot.{tag_of, written}
use Rattle.parity_slots.specs.ParityWords.{bytes_in}
use Rattle.parity_slots.specs.SlotState.{SlotState, bytes_of}
use Rattle.parity_slots.specs.Inside.{IsSlotOf}
use Rattle.parity_slots.specs.Units.{with_units}
use Rattle.parity_slots.proofs.ByteRows.{row_written}
use Rattle.parity_slots.proofs.SlotLemmas.{tag_units, line_units, follows_tag, follows_line}
use Rattle.parity_slots.proofs.FillLemmas.{tag_fits, bytes_fit}
use Rattle.parity_slots.proofs.WordRows.{fresh_tag}
use Rattle.parity_units.specs.Bytes.{fresh_byte}
use Rattle.parity_units.specs.declared.events.Event.TheVariants.{Write}
use Rattle.parity_slots.proofs.cache_slot.Slot.fill.Goals as goal

pub invariant_of-self : goal.invariant_of-self
invariant_of-self c =
    let inside = c.self.inside in
    let is = c.self.invariant in
    let tag : bytes_in 4 (c.fresh-self-inside.result ∷ []) ≡ map fresh_byte (tag_of c.args.addr c.args.valid) =
    fresh_tag c.fresh-self-inside.result c.tag_of.result c.args.addr c.args.valid c.tag_of.ensures (omega arith) (omega arith) c.fresh-self-inside.ensures.bytes in
    rw c.change.ensures.value (record {
      tag_bytes = rw tag (row_written inside.state.slot.tag inside.state.slot.tag_histories (bytes_in 4 (inside.tag ∷ [])) (tag_of c.args.addr c.args.valid) is.tag_bytes refl (λ i lt. tag_fits c.args.addr c.args.valid (omega arith) i));
      line_bytes = rw c.fresh_line-self-inside.ensures (row_written inside.state.bytes inside.state.slot.line_histories (bytes_in 32 inside.line) (bytes_of c.args.words.now) is.line_bytes refl (λ i lt. bytes_fit c.args.words.now i lt));
      line_length = omega arith;
      last_used = is.last_used;
    })

pub returns-clause-follows : goal.returns-clause-follows
returns-clause-follows c =
    let inside = c.self.inside in
    let is = c.self.invariant in
    let between : SlotState = record inside.state { slot = record inside.state.slot { tag = tag_of c.args.addr c.args.valid; tag_histories = map written inside.state.slot.tag_histories } } in
    let tag : bytes_in 4 (c.fresh-self-inside.result ∷ []) ≡ map fresh_byte (tag_of c.args.addr c.args.valid) =
    fresh_tag c.fresh-self-inside.result c.tag_of.result c.args.addr c.args.valid c.tag_of.ensures (omega arith) (omega arith) c.fresh-self-inside.ensures.bytes in
    let is_between : IsSlotOf between c.fresh-self-inside.result inside.line inside.used = record {
      tag_bytes = rw tag (row_written inside.state.slot.tag inside.state.slot.tag_histories (bytes_in 4 (inside.tag ∷ [])) (tag_of c.args.addr c.args.valid) is.tag_bytes refl (λ i lt. tag_fits c.args.addr c.args.valid (omega arith) i));
      line_bytes = is.line_bytes;
      line_length = is.line_length;
      last_used = is.last_used;
    } in
    rw (← c.self.view_is) (λ h follows.
    follows_line between c.fresh-self-inside.result inside.line inside.used is_between c.args.first h Write c.note_words.new.ledger
    (c.note_words.ensures.follows (with_units c.args.first between.slot h)
    (line_units between c.fresh-self-inside.result inside.line inside.used is_between c.args.first h)
    (follows_tag inside.state inside.tag inside.line inside.used is c.args.first h Write c.note_word.new.ledger
    (c.note_word.ensures.follows (with_units c.args.first inside.state.slot h)
    (tag_units inside.state inside.tag inside.line inside.used is c.args.first h) follows))))
