use Rattle.std.proofs.Common.{◌≡◌, ◌^◌, ◌<◌, [], ◌∷◌, slice_set, sym, ap, ◌∙◌}
use Rattle.parity_units.specs.Bytes.{flipped_byte, answer_of}
use Rattle.parity_units.specs.Events.{byte_at}
use Rattle.parity_units.specs.declared.byte.ParityByte.{ParityByte}
use Rattle.parity_slots.specs.ParityWords.{byte_in, bytes_in}
use Rattle.parity_slots.proofs.ByteRows.{row_byte_struck}
use Rattle.parity_slots.proofs.SlotLemmas.{tag_mark}
use Rattle.parity_slots.proofs.UnitLemmas.{gains_tag}
use Rattle.parity_slots.proofs.WordLemmas.{byte_fits, flipped_fits, byte_of_words, byte_of_word}
use Rattle.parity_slots.proofs.WordRows.{set_one}
use Rattle.parity_slots.proofs.cache_slot.Slot.flip_tag.Goals as goal

pub invariant_of-self : goal.invariant_of-self
invariant_of-self c =
    let inside = c.self.inside in
    let is = c.self.invariant in
    let here : byte_in c.with_byte-self-inside.result c.args.place ≡ flipped_byte c.args.bit (byte_at (bytes_in 4 (inside.tag ∷ [])) c.args.place) =
    c.with_byte-self-inside.ensures.here ∙ c.flip-answer.ensures.flipped ∙ ap (flipped_byte c.args.bit) (c.byte-byte.ensures ∙ sym (byte_of_words 4 (inside.tag ∷ []) c.args.place c.requires.place ∙ byte_of_word inside.tag c.args.place c.requires.place)) in
    let same : bytes_in 4 (c.with_byte-self-inside.result ∷ []) ≡ slice_set (bytes_in 4 (inside.tag ∷ [])) c.args.place (flipped_byte c.args.bit (byte_at (bytes_in 4 (inside.tag ∷ [])) c.args.place)) =
    set_one inside.tag c.with_byte-self-inside.result c.args.place (flipped_byte c.args.bit (byte_at (bytes_in 4 (inside.tag ∷ [])) c.args.place)) c.requires.place here c.with_byte-self-inside.ensures.others in
    rw c.change.ensures.value (record {
      tag_bytes = rw same (row_byte_struck inside.state.slot.tag inside.state.slot.tag_histories (bytes_in 4 (inside.tag ∷ [])) is.tag_bytes c.args.place c.args.number c.args.bit c.requires.place c.requires.bit);
      line_bytes = is.line_bytes;
      line_length = is.line_length;
      last_used = is.last_used;
    })

pub with_byte-self-inside-requires-clause-fits : goal.with_byte-self-inside-requires-clause-fits
with_byte-self-inside-requires-clause-fits c =
    let inside = c.self.inside in
    let fits : c.byte-byte.result.bits < 2 ^ 9 = rw c.byte-byte.ensures (byte_fits inside.tag c.args.place) in
    rw c.flip-answer.ensures.flipped (flipped_fits c.args.bit c.byte-byte.result fits c.requires.bit)

pub returns-clause-answer : goal.returns-clause-answer
returns-clause-answer c =
    let inside = c.self.inside in
    rw (← c.self.view_is)
    (c.flip-answer.ensures.answer
    ∙ ap answer_of (ap (λ (b : ParityByte). b.struck) c.byte-byte.ensures ∙ tag_mark inside.state inside.tag inside.line inside.used c.self.invariant c.args.place c.requires.place))

pub returns-clause-gains : goal.returns-clause-gains
returns-clause-gains c =
    let inside = c.self.inside in
    let is = c.self.invariant in
    rw (← c.self.view_is, c.change.ensures.value) (gains_tag inside.state.slot c.args.place c.args.number c.args.bit c.requires.place is.tag_bytes.all_histories)
