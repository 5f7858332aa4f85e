-- A list whose elements are of n owners, at most b of each owner, has at most n times b elements.
use Rattle.std.proofs.Common.{◌≡◌, ◌*◌, ◌<◌, ◌≤◌, ◌==◌, ℕ, zero, suc, Bool, true, false, not, List, [], ◌∷◌, length, filter, refl, ap, arith, add-one}
use Rattle.std.proofs.Math.Nat.{suc-mul}
use Rattle.std.proofs.lemmas.Bool.{eqb-false}
use Rattle.std.proofs.lemmas.List.Filters.{length-filter_both}
use Rattle.std.specs.List.{AllByRecursion as Each}
use Rattle.lf_model.proofs.EachLemmas.{each_both}
use Rattle.run_trace.proofs.Lists.{filter_swap, each_pass, each_filter}

pub fewer : {X : Type 0} (p : X → Bool) (xs : List X) → length (filter p xs) ≤ length xs
fewer p xs = omega (arith, length-filter_both p (λ x. not (p x)) (λ x. refl) xs)

pub not_true : (b : Bool) → not b ≡ true → b ≡ false
not_true true e = absurd (cc)
not_true false e = refl

module _ {X : Type 0} (owner : X → ℕ) where
  abbrev pub of_owner : ℕ → X → Bool
  of_owner c x = owner x == c

  pub shared : (b n : ℕ) (xs : List X) → Each (λ x. owner x < n) xs → ((c : ℕ) → c < n → length (filter (of_owner c) xs) ≤ b) → length xs ≤ n * b
  shared b zero [] below share = omega arith
  shared b zero (x ∷ xs) below share = absurd (omega (arith, below.0))
  shared b (suc n) xs below share =
      let rest = filter (λ x. not (of_owner n x)) xs in
      let parts = length-filter_both (of_owner n) (λ x. not (of_owner n x)) (λ x. refl) xs in
      let few = shared b n rest
      (each_both (λ x. owner x < suc n) (λ x. not (of_owner n x) ≡ true) (λ x. owner x < n) rest
      (λ x within other. let differs = eqb-false (owner x) n (not_true (of_owner n x) other) in less (owner x) n within differs)
      (each_filter (λ x. owner x < suc n) (λ x. not (of_owner n x)) xs below)
      (each_pass (λ x. not (of_owner n x)) xs))
      (λ c within. let swapped = ap (λ ys. length ys) (filter_swap (of_owner c) (λ x. not (of_owner n x)) xs) in
      let fewer_left = fewer (λ x. not (of_owner n x)) (filter (of_owner c) xs) in
      omega (arith, swapped, fewer_left, share c (omega (arith, within, add-one n)))) in
      omega (arith, parts, few, share n (omega (arith, add-one n)), suc-mul n b)
    where
      less : (a n : ℕ) → a < suc n → (a ≡ n → ⊥) → a < n
      less a n within differs = omega (arith, within, differs, add-one n)
