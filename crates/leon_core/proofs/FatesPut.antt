-- The fates of a script's flips, put into a list one after the other.
use Rattle.std.proofs.Common.{◌≡◌, ℕ, zero, suc, ◌+◌, ◌<◌, ◌≤◌, List, [], ◌∷◌, ◌++◌, length, map, take, get_or, Some, refl, sym, ap, ap₂, ◌∙◌, arith}
use Rattle.std.specs.Prelude.{slice_get}
use Rattle.std.specs.List.{range_with_len, zip}
use Rattle.std.proofs.lemmas.List.{take_all, take_more}
use Rattle.lf_model.specs.NumberedFlips.{numbered_flips}
use Rattle.lf_model.specs.declared.flip.Flip.{Flip}
use Rattle.lf_model.specs.declared.trace.Fate.{Fate}

some_at : {X : Type 0} (xs : List X) (i : ℕ) → i < length xs → (x : X) × (slice_get xs i ≡ Some x)
some_at [] i lt = absurd (omega arith)
some_at (x ∷ xs) zero lt = (x, refl)
some_at (x ∷ xs) (suc i) lt = some_at xs i (omega (arith, lt))

module _ (fate_by : ℕ × Flip → Fate) (script : List Flip) where
  abbrev whole : List Fate
  whole = map fate_by (numbered_flips script)

  length_from : (k : ℕ) (flips : List Flip) → length (map fate_by (zip (range_with_len k (length flips)) flips)) ≡ length flips
  length_from k [] = refl
  length_from k (flip ∷ flips) = ap suc (length_from (k + 1) flips)

  length_whole : length whole ≡ length script
  length_whole = length_from 0 script

  at_from : (k i : ℕ) (flips : List Flip) (d : Fate) (flip : Flip) → slice_get flips i ≡ Some flip
      → get_or (map fate_by (zip (range_with_len k (length flips)) flips)) i d ≡ fate_by (k + i, flip)
  at_from k i [] d flip is = cc
  at_from k zero (f ∷ flips) d flip is = let e : f ≡ flip = cc in let same : k ≡ k + 0 = omega arith in ap₂ (λ (n : ℕ) (g : Flip). fate_by (n, g)) same e
  at_from k (suc i) (f ∷ flips) d flip is = at_from (k + 1) i flips d flip is ∙ (let e : k + 1 + i ≡ k + suc i = omega arith in ap (λ (n : ℕ). fate_by (n, flip)) e)

  -- one more is put
  pub put_next : (fates : List Fate) (i : ℕ) (fate : Fate) → fates ≡ take i whole → i < length script → ((flip : Flip) → slice_get script i ≡ Some flip → fate ≡ fate_by (i, flip))
      → fates ++ fate ∷ [] ≡ take (i + 1) whole
  put_next fates i fate so_far lt is =
      let flip = some_at script i lt in
      let here : get_or whole i fate ≡ fate_by (i, flip.0) = at_from 0 i script fate flip.0 flip.1 ∙ (let e : 0 + i ≡ i = omega arith in ap (λ (n : ℕ). fate_by (n, flip.0)) e) in
      ap₂ (λ (front : List Fate) (last : Fate). front ++ last ∷ []) so_far (is flip.0 flip.1 ∙ sym here)
      ∙ sym (take_more whole i fate (rw length_whole lt))

  -- all are
  pub put_all : (fates : List Fate) (i : ℕ) → fates ≡ take i whole → length script ≤ i → fates ≡ whole
  put_all fates i so_far le = so_far ∙ take_all i whole (rw length_whole le)
