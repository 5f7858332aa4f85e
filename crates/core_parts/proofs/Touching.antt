-- The arrays that an instruction works on go by the touches of the definitions, and a register read changes no answer.
use Rattle.std.proofs.Common.{◌≡◌, ◌==◌, ℕ, true, false, Bool, List, [], ◌∷◌, Some, None, fold, length, refl, ap, if◌then◌else◌}
use Rattle.std.proofs.Math.Seq.{map-set_same}
use Rattle.std.proofs.lemmas.Bool.{eqb-true}
use Rattle.core_parts.specs.PortState.{PortState, arrays_in, touch, bad_syndrome, answers}
use Rattle.lf_model.specs.Caches.Slot.{history_at}
use Rattle.lf_model.specs.Course.Arrays.{read_back}
use Rattle.lf_model.specs.Course.Touches.{touched}
use Rattle.lf_model.specs.Flips.{Moment, turned_bits, is_bad_word, is_fixed_word, syndrome}
use Rattle.lf_model.specs.Flips.How.{ByReadBack}
use Rattle.lf_model.specs.Flips.Moment.{Written}
use Rattle.lf_model.specs.declared.flip.Flip.{Flip}
use Rattle.lf_model.specs.declared.touch.Touch.{Touch}
use Rattle.lf_model.specs.declared.touch.Touch.TheVariants.{ReadCell}

-- a cell with one turned bit is not bad
fixed_is_good : (h : List Moment) → is_fixed_word h ≡ true → is_bad_word h ≡ false
fixed_is_good h fixed = ap (λ n. n == 2) (eqb-true (length (turned_bits h)) 1 fixed)

none_if : (bad : Bool) (x : ℕ) → bad ≡ false → None ≡ (if bad then Some x else None)
none_if false x good = refl
none_if true x good = cc

-- a write-back leaves a good cell good
same_by : (fixed : Bool) (h : List Moment) → is_fixed_word h ≡ fixed → bad_syndrome (if fixed then Written ByReadBack ∷ h else h) ≡ bad_syndrome h
same_by false h not_fixed = refl
same_by true h fixed = none_if (is_bad_word h) (syndrome h) (fixed_is_good h fixed)

read_back_same : (h : List Moment) → bad_syndrome (read_back h) ≡ bad_syndrome h
read_back_same h = same_by (is_fixed_word h) h refl

module _ (flips : List (ℕ × Flip)) where
  pub arrays_after : (s : PortState) (ts : List Touch) → arrays_in (fold (touch flips) s ts) ≡ fold (touched flips) (arrays_in s) ts
  arrays_after s [] = refl
  arrays_after s (t ∷ ts) = arrays_after (touch flips s t) ts

  -- which cells read bad, and with which syndromes, is as before a read
  pub answers_read : (s : PortState) (cell : ℕ) → answers (touch flips s (ReadCell cell)) ≡ answers s
  answers_read s cell = ap (λ bad. record (answers s) { bad = bad })
      (map-set_same bad_syndrome s.cells cell (read_back (history_at cell s.cells)) [] (read_back_same (history_at cell s.cells)))
