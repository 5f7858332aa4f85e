use Rattle.std.proofs.Common.{◌≡◌, ◌/◌, ◌%◌, ◌^◌, ◌<◌, slice_set, length-set, sym, ap, ◌∙◌, arith}
use Rattle.parity_units.specs.Bytes.{flipped_byte, answer_of}
use Rattle.parity_units.specs.Events.{byte_at}
use Rattle.parity_units.specs.declared.byte.ParityByte.{ParityByte}
use Rattle.parity_slots.specs.ParityWords.{byte_in, word_at, bytes_in}
use Rattle.parity_slots.proofs.ByteRows.{row_byte_struck}
use Rattle.parity_slots.proofs.SlotLemmas.{line_mark}
use Rattle.parity_slots.proofs.UnitLemmas.{gains_line}
use Rattle.parity_slots.proofs.WordLemmas.{byte_fits, flipped_fits, byte_of_words}
use Rattle.parity_slots.proofs.WordRows.{set_among}
use Rattle.parity_slots.proofs.cache_slot.Slot.flip_line.Goals as goal

pub invariant_of-self : goal.invariant_of-self
invariant_of-self c =
    let inside = c.self.inside in
    let is = c.self.invariant in
    let here : byte_in c.with_byte.result (c.args.place % 4) ≡ flipped_byte c.args.bit (byte_at (bytes_in 32 inside.line) c.args.place) =
    c.with_byte.ensures.here ∙ c.flip-answer.ensures.flipped ∙ ap (flipped_byte c.args.bit) (c.byte-byte.ensures ∙ sym (byte_of_words 32 inside.line c.args.place c.requires.place)) in
    let same : bytes_in 32 (slice_set inside.line (c.args.place / 4) c.with_byte.result) ≡ slice_set (bytes_in 32 inside.line) c.args.place (flipped_byte c.args.bit (byte_at (bytes_in 32 inside.line) c.args.place)) =
    set_among 32 inside.line c.args.place (flipped_byte c.args.bit (byte_at (bytes_in 32 inside.line) c.args.place)) c.with_byte.result (omega (arith, is.line_length)) c.requires.place here c.with_byte.ensures.others in
    rw c.change.ensures.value (record {
      tag_bytes = is.tag_bytes;
      line_bytes = rw same (row_byte_struck inside.state.bytes inside.state.slot.line_histories (bytes_in 32 inside.line) is.line_bytes c.args.place c.args.number c.args.bit c.requires.place c.requires.bit);
      line_length = length-set inside.line (c.args.place / 4) c.with_byte.result ∙ is.line_length;
      last_used = is.last_used;
    })

pub with_byte-requires-clause-fits : goal.with_byte-requires-clause-fits
with_byte-requires-clause-fits c =
    let inside = c.self.inside in
    let fits : c.byte-byte.result.bits < 2 ^ 9 = rw c.byte-byte.ensures (byte_fits (word_at inside.line (c.args.place / 4)) (c.args.place % 4)) in
    rw c.flip-answer.ensures.flipped (flipped_fits c.args.bit c.byte-byte.result fits c.requires.bit)

pub returns-clause-answer : goal.returns-clause-answer
returns-clause-answer c =
    let inside = c.self.inside in
    rw (← c.self.view_is)
    (c.flip-answer.ensures.answer
    ∙ ap answer_of (ap (λ (b : ParityByte). b.struck) c.byte-byte.ensures ∙ line_mark inside.state inside.tag inside.line inside.used c.self.invariant c.args.place c.requires.place))

pub returns-clause-gains : goal.returns-clause-gains
returns-clause-gains c =
    let inside = c.self.inside in
    let is = c.self.invariant in
    rw (← c.self.view_is, c.change.ensures.value) (gains_line inside.state.slot c.args.place c.args.number c.args.bit c.requires.place is.line_bytes.all_histories)
