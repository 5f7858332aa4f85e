-- The words of a line that are noted, one after the other.
use Rattle.std.proofs.Common.{◌≡◌, ℕ, zero, suc, ◌+◌, ◌*◌, Bool, true, false, not, cond, nat_eq, List, [], ◌∷◌, ◌++◌, map, slice_index, ap, ◌∙◌, arith}
use Rattle.std.specs.Prelude.{filter}
use Rattle.std.specs.List.{range_with_len}
use Rattle.std.proofs.lemmas.List.{map-append, append-nil}
use Rattle.std.proofs.lemmas.List.Elements.{filter-append}

-- those of the first words of a line that are not clean, by their syndromes
abbrev pub noted_to : ℕ → List ℕ → ℕ → List ℕ
noted_to line syndromes count = map (λ place. line + 4 * place) (filter (λ place. not (nat_eq (slice_index syndromes place) 0)) (range_with_len 0 count))

-- the numbers from one on, and one more
pub range_more : (a n : ℕ) → range_with_len a (n + 1) ≡ range_with_len a n ++ (a + n) ∷ []
range_more a zero = ap (λ (k : ℕ). k ∷ []) (let e : a ≡ a + 0 = omega arith in e)
range_more a (suc n) =
    ap (range_with_len a) (let e : suc n + 1 ≡ suc (n + 1) = omega arith in e)
    ∙ ap (λ (xs : List ℕ). a ∷ xs) (range_more (a + 1) n ∙ ap (λ (k : ℕ). range_with_len (a + 1) n ++ k ∷ []) (let e : a + 1 + n ≡ a + suc n = omega arith in e))

module _ (line : ℕ) (syndromes : List ℕ) (n : ℕ) where
  more : noted_to line syndromes (n + 1) ≡ noted_to line syndromes n ++ map (λ place. line + 4 * place) (cond (not (nat_eq (slice_index syndromes n) 0)) (n ∷ []) [])
  more =
      ap (λ (places : List ℕ). map (λ place. line + 4 * place) (filter (λ place. not (nat_eq (slice_index syndromes place) 0)) places))
      (range_more 0 n ∙ ap (λ (k : ℕ). range_with_len 0 n ++ k ∷ []) (let e : 0 + n ≡ n = omega arith in e))
      ∙ ap (map (λ place. line + 4 * place)) (filter-append (λ place. not (nat_eq (slice_index syndromes place) 0)) (range_with_len 0 n) (n ∷ []))
      ∙ map-append (λ place. line + 4 * place) (filter (λ place. not (nat_eq (slice_index syndromes place) 0)) (range_with_len 0 n)) _

  -- this one is clean, or is not
  pub noted_clean : nat_eq (slice_index syndromes n) 0 ≡ true → noted_to line syndromes (n + 1) ≡ noted_to line syndromes n
  noted_clean clean = more ∙ ap (λ (b : Bool). noted_to line syndromes n ++ map (λ place. line + 4 * place) (cond (not b) (n ∷ []) [])) clean ∙ append-nil (noted_to line syndromes n)

  pub noted_unclean : nat_eq (slice_index syndromes n) 0 ≡ false → noted_to line syndromes (n + 1) ≡ noted_to line syndromes n ++ (line + 4 * n) ∷ []
  noted_unclean unclean = more ∙ ap (λ (b : Bool). noted_to line syndromes n ++ map (λ place. line + 4 * place) (cond (not b) (n ∷ []) [])) unclean
