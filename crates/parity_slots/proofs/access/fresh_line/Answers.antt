use Rattle.std.proofs.Common.{◌≡◌, ℕ, slice_index, slice_set, sym, ap, ◌∙◌, subst, inl, inr, arith}
use Rattle.std.proofs.lemmas.Bool.{cases_eq}
use Rattle.std.proofs.lemmas.List.{length-set, get_or-set_same, get_or-set_other}
use Rattle.lf_model.specs.Operation.{byte_of}
use Rattle.parity_slots.specs.ParityWords.{byte_in, no_word, word_at}
use Rattle.parity_slots.specs.declared.parity_word.ParityWord.{ParityWord}
use Rattle.parity_slots.proofs.WordRows.{fresh_words}
use Rattle.parity_units.specs.Bytes.{fresh_byte}
use Rattle.parity_slots.proofs.access.fresh_line.Goals as goal

pub loop-i-preserved : goal.loop-i-preserved
loop-i-preserved c =
    let inv = c.loop-i.invariant in
    record {
      line_length = length-set c.loop-i.line c.loop-i.i c.fresh.result ∙ inv.line_length;
      filled = λ w k lt few. elim (cases_eq w c.loop-i.i) [
        | inl here ↦
            subst (λ (j : ℕ). byte_in (word_at (slice_set c.loop-i.line c.loop-i.i c.fresh.result) j) k ≡ fresh_byte (byte_of (slice_index c.args.words.now j) 4 k)) (sym here)
            (ap (λ (word : ParityWord). byte_in word k) (get_or-set_same c.loop-i.line c.loop-i.i c.fresh.result no_word (omega (arith, inv.line_length, c.loop-i-test.true)))
            ∙ c.fresh.ensures.bytes k few)
        | inr other ↦
            ap (λ (word : ParityWord). byte_in word k) (get_or-set_other c.loop-i.line c.loop-i.i w c.fresh.result no_word other)
            ∙ inv.filled w k (omega (arith, lt, other)) few
      ];
    }

pub returns : goal.returns
returns c = fresh_words c.args.words.now c.loop-i.line (λ w k lt few. c.loop-i.invariant.filled w k (omega (arith, lt, c.loop-i-test.false)) few)
