-- Places of a list that are written one after the other.
use Rattle.std.proofs.Common.{◌≡◌, ◌||◌, ◌==◌, ◌⊎◌, ℕ, ◌+◌, ◌<◌, ◌≤◌, Bool, true, false, List, [], ◌∷◌, length, slice_index, slice_index_or, slice_set, refl, sym, ap, ◌∙◌, subst, arith, inl, inr}
use Rattle.std.specs.Prelude.{fold, filter}
use Rattle.std.specs.List.{list_any, range_with_len}
use Rattle.std.proofs.lemmas.Bool.{cases_Bool, cases_eq, eqb-true, eq-eqb}
use Rattle.std.proofs.lemmas.List.{get_or-set_same, get_or-set_other, length-set}
use Rattle.lf_model.proofs.HitLemmas.{true_not_false}
use Rattle.lf_model.proofs.LineLemmas.{or_case, or_left, or_right, among}

right : (a b : Bool) → (a || b) ≡ false → b ≡ false
right true true e = e
right true false e = refl
right false b e = e

module _ {X : Type 0} (put : List X → ℕ → X) where
  abbrev pub all_put : List ℕ → List X → List X
  all_put ws xs = fold (λ ys w. slice_set ys w (put ys w)) xs ws

  pub others_kept : (ws : List ℕ) (xs : List X) (p : ℕ) (d : X) → list_any (λ j. j == p) ws ≡ false → slice_index_or (all_put ws xs) p d ≡ slice_index_or xs p d
  others_kept [] xs p d none = refl
  others_kept (w ∷ ws) xs p d none = elim (cases_eq p w) [
    | inl same ↦ absurd (true_not_false (sym (or_left (w == p) (list_any (λ j. j == p) ws) (eq-eqb w p (sym same))) ∙ none))
    | inr other ↦ others_kept ws (slice_set xs w (put xs w)) p d (right (w == p) (list_any (λ j. j == p) ws) none) ∙ get_or-set_other xs w p (put xs w) d other
  ]

  pub as_long : (ws : List ℕ) (xs : List X) → length (all_put ws xs) ≡ length xs
  as_long [] xs = refl
  as_long (w ∷ ws) xs = as_long ws (slice_set xs w (put xs w)) ∙ length-set xs w (put xs w)

module _ (value : ℕ → ℕ) where
  pub put_there : (ws xs : List ℕ) (p : ℕ) → list_any (λ j. j == p) ws ≡ true → p < length xs → slice_index (all_put (λ (ys : List ℕ) w. value w) ws xs) p ≡ value p
  put_there [] xs p any lt = absurd cc
  put_there (w ∷ ws) xs p any lt = elim (cases_Bool (list_any (λ j. j == p) ws)) [
    | inl later ↦ put_there ws (slice_set xs w (value w)) p later (subst (λ (n : ℕ). p < n) (sym (length-set xs w (value w))) lt)
    | inr none ↦ elim (or_case (w == p) (list_any (λ j. j == p) ws) any) [
      | inl here ↦
          let is = eqb-true w p here in
          others_kept (λ (ys : List ℕ) v. value v) ws (slice_set xs w (value w)) p 0 none
          ∙ ap (λ (k : ℕ). slice_index_or (slice_set xs w (value w)) k 0) (sym is)
          ∙ get_or-set_same xs w (value w) 0 (subst (λ (k : ℕ). k < length xs) (sym is) lt)
          ∙ ap value is
      | inr later ↦ absurd (true_not_false (sym later ∙ none))
    ]
  ]

-- the places of a range that pass a test
pub passes : (q : ℕ → Bool) (ws : List ℕ) (p : ℕ) → q p ≡ true → list_any (λ j. j == p) ws ≡ true → list_any (λ j. j == p) (filter q ws) ≡ true
passes q [] p good any = any
passes q (w ∷ ws) p good any = elim (cases_Bool (q w)) [
  | inl kept ↦ rw kept (elim (or_case (w == p) (list_any (λ j. j == p) ws) any) [
    | inl here ↦ or_left (w == p) (list_any (λ j. j == p) (filter q ws)) here
    | inr later ↦ or_right (w == p) (list_any (λ j. j == p) (filter q ws)) (passes q ws p good later)
  ])
  | inr left ↦ rw left (elim (or_case (w == p) (list_any (λ j. j == p) ws) any) [
    | inl here ↦ absurd (true_not_false (sym good ∙ (ap q (sym (eqb-true w p here)) ∙ left)))
    | inr later ↦ passes q ws p good later
  ])
]

pub none_passes : (q : ℕ → Bool) (ws : List ℕ) (p : ℕ) → list_any (λ j. j == p) ws ≡ false → list_any (λ j. j == p) (filter q ws) ≡ false
none_passes q [] p none = none
none_passes q (w ∷ ws) p none = elim (cases_Bool (q w)) [
  | inl kept ↦ rw kept (joined (w == p) (list_any (λ j. j == p) ws) (list_any (λ j. j == p) (filter q ws)) none (none_passes q ws p (right (w == p) (list_any (λ j. j == p) ws) none)))
  | inr left ↦ rw left (none_passes q ws p (right (w == p) (list_any (λ j. j == p) ws) none))
]
  where
    joined : (a b c : Bool) → (a || b) ≡ false → c ≡ false → (a || c) ≡ false
    joined true b c e none = e
    joined false b c e none = none

pub not_among : (p first n : ℕ) → (p < first) ⊎ (first + n ≤ p) → list_any (λ j. j == p) (range_with_len first n) ≡ false
not_among p first n out = elim (cases_Bool (list_any (λ j. j == p) (range_with_len first n))) [
  | inl any ↦ let h = among p first n any in absurd (outside h.0 h.1 out)
  | inr none ↦ none
]
  where
    outside : first ≤ p → p < first + n → (p < first) ⊎ (first + n ≤ p) → ⊥
    outside from below (inl under) = omega (arith, from, under)
    outside from below (inr past) = omega (arith, below, past)
