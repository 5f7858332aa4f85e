use Rattle.std.proofs.Common.{ℕ, zero, suc, ◌<◌, ◌^◌, [], ◌∷◌, refl, lit<}
use Rattle.std.specs.Prelude.{slice_index}
use Rattle.parity_units.specs.declared.events.Event.TheVariants.{Write}
use Rattle.parity_slots.specs.ParityWords.{bytes_in}
use Rattle.parity_slots.specs.Units.{with_units}
use Rattle.parity_slots.proofs.ByteRows.{row_written}
use Rattle.parity_slots.proofs.SlotLemmas.{tag_units, follows_tag}
use Rattle.parity_slots.proofs.WordRows.{fresh_tag}
use Rattle.parity_slots.proofs.cache_slot.Slot.drop_line.Goals as goal

zero_bytes : (i : ℕ) → slice_index (0 ∷ 0 ∷ 0 ∷ 0 ∷ []) i < 2 ^ 8
zero_bytes zero = lit< tt
zero_bytes (suc zero) = lit< tt
zero_bytes (suc (suc zero)) = lit< tt
zero_bytes (suc (suc (suc zero))) = lit< tt
zero_bytes (suc (suc (suc (suc i)))) = lit< tt

pub invariant_of-self : goal.invariant_of-self
invariant_of-self c =
    let inside = c.self.inside in
    let is = c.self.invariant in
    rw c.change.ensures.value (record {
      tag_bytes =
          rw (fresh_tag c.fresh-self-inside.result 0 0 0 refl (lit< tt) (lit< tt) c.fresh-self-inside.ensures.bytes)
          (row_written inside.state.slot.tag inside.state.slot.tag_histories (bytes_in 4 (inside.tag ∷ [])) (0 ∷ 0 ∷ 0 ∷ 0 ∷ []) is.tag_bytes refl (λ i lt. zero_bytes i));
      line_bytes = is.line_bytes;
      line_length = is.line_length;
      last_used = is.last_used;
    })

pub returns-clause-follows : goal.returns-clause-follows
returns-clause-follows c =
    let inside = c.self.inside in
    rw (← c.self.view_is) (λ h follows.
    follows_tag inside.state inside.tag inside.line inside.used c.self.invariant c.args.first h Write c.note_word.new.ledger
    (c.note_word.ensures.follows (with_units c.args.first inside.state.slot h)
    (tag_units inside.state inside.tag inside.line inside.used c.self.invariant c.args.first h) follows))
