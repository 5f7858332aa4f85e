use Rattle.std.proofs.Common.{◌≡◌, ◌+◌, ◌/◌, ◌≤◌, slice_set, length-set, ◌∙◌, arith}
use Rattle.parity_code.proofs.ParityLemmas.{code-lt}
use Rattle.parity_units.specs.Bytes.{fresh_byte}
use Rattle.parity_units.specs.declared.events.Event.TheVariants.{Write}
use Rattle.parity_slots.specs.ParityWords.{bytes_in}
use Rattle.parity_slots.specs.Units.{with_units}
use Rattle.parity_slots.proofs.ByteRows.{row_byte_written}
use Rattle.parity_slots.proofs.SlotLemmas.{line_unit, follows_run}
use Rattle.parity_slots.proofs.WordRows.{set_among}
use Rattle.parity_slots.proofs.cache_slot.Slot.store_byte.Goals as goal

pub invariant_of-self : goal.invariant_of-self
invariant_of-self c =
    let inside = c.self.inside in
    let is = c.self.invariant in
    let same : bytes_in 32 (slice_set inside.line (c.args.place / 4) c.with_byte.result) ≡ slice_set (bytes_in 32 inside.line) c.args.place (fresh_byte c.args.byte) =
    set_among 32 inside.line c.args.place (fresh_byte c.args.byte) c.with_byte.result (omega (arith, is.line_length)) c.requires.place
    (c.with_byte.ensures.here ∙ c.fresh.ensures) c.with_byte.ensures.others in
    rw c.change.ensures.value (record {
      tag_bytes = is.tag_bytes;
      line_bytes = rw same (row_byte_written inside.state.bytes inside.state.slot.line_histories (bytes_in 32 inside.line) is.line_bytes c.args.place c.args.byte (omega arith));
      line_length = length-set inside.line (c.args.place / 4) c.with_byte.result ∙ is.line_length;
      last_used = is.last_used;
    })

pub with_byte-requires-clause-fits : goal.with_byte-requires-clause-fits
with_byte-requires-clause-fits c = rw c.fresh.ensures (code-lt c.args.byte (omega arith))

pub returns-clause-follows : goal.returns-clause-follows
returns-clause-follows c =
    let inside = c.self.inside in
    let is = c.self.invariant in
    let fits : c.args.place + 1 ≤ 32 = omega (arith, c.requires.place) in
    rw (← c.self.view_is) (λ h follows.
    follows_run inside.state inside.tag inside.line inside.used is c.args.first h Write c.note_byte.new.ledger c.args.place 1 fits
    (c.note_byte.ensures.follows (with_units c.args.first inside.state.slot h)
    (line_unit inside.state inside.tag inside.line inside.used is c.args.first h c.args.place c.requires.place) follows))
