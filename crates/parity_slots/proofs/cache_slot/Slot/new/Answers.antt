use Rattle.std.proofs.Common.{ℕ, refl, sym, ap, ◌∙◌, lit<}
use Rattle.std.specs.Prelude.{replicate}
use Rattle.std.proofs.lemmas.List.{get_or-replicate}
use Rattle.lf_model.specs.Operation.{byte_of}
use Rattle.parity_slots.specs.ParityWords.{byte_in, no_word}
use Rattle.parity_slots.specs.declared.parity_word.ParityWord.{ParityWord}
use Rattle.parity_slots.proofs.ByteRows.{row_new}
use Rattle.parity_slots.proofs.WordRows.{fresh_tag, fresh_words}
use Rattle.parity_units.specs.Bytes.{fresh_byte}
use Rattle.parity_slots.proofs.cache_slot.Slot.new.Goals as goal

pub invariant_of-result : goal.invariant_of-result
invariant_of-result c = rw c.of.ensures.value (record {
  tag_bytes = rw (fresh_tag c.fresh.result 0 0 0 refl (lit< tt) (lit< tt) c.fresh.ensures.bytes) (row_new 4);
  line_bytes = rw (fresh_words (replicate 8 0) (replicate 8 c.fresh-2.result) (λ w k lt few.
      ap (λ (word : ParityWord). byte_in word k) (get_or-replicate 8 w c.fresh-2.result no_word lt)
      ∙ c.fresh-2.ensures.bytes k few
      ∙ ap (λ (n : ℕ). fresh_byte (byte_of n 4 k)) (sym (get_or-replicate 8 w 0 0 lt)))) (row_new 32);
  line_length = refl;
  last_used = refl;
})
