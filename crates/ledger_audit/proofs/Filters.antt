-- Tests of the elements that pass another test, or two.
use Rattle.std.proofs.Common.{◌≡◌, ◌∙◌, ◌&&◌, ◌||◌, not, Bool, List, [], ◌∷◌, length, filter, count_by, ap, refl, sym, inl, inr}
use Rattle.std.specs.List.{list_all, list_any}
use Rattle.std.proofs.lemmas.Bool.{cases_Bool}
use Rattle.std.proofs.lemmas.List.Sums.{length-filter}

pub filter_filter : {X : Type 0} (p q : X → Bool) (xs : List X) → filter p (filter q xs) ≡ filter (λ x. q x && p x) xs
filter_filter p q [] = refl
filter_filter p q (x ∷ xs) = elim (cases_Bool (q x)) [
  | inl passes ↦ elim (cases_Bool (p x)) [
    | inl too ↦ rw (passes, too) (ap (λ ys. x ∷ ys) (filter_filter p q xs))
    | inr not ↦ rw (passes, not) (filter_filter p q xs)
  ]
  | inr fails ↦ rw fails (filter_filter p q xs)
]

pub count_filter : {X : Type 0} (p q : X → Bool) (xs : List X) → count_by p (filter q xs) ≡ count_by (λ x. q x && p x) xs
count_filter p q xs = sym (length-filter p (filter q xs)) ∙ (ap length (filter_filter p q xs) ∙ length-filter (λ x. q x && p x) xs)

pub all_filter : {X : Type 0} (p q : X → Bool) (xs : List X) → list_all p (filter q xs) ≡ list_all (λ x. not (q x) || p x) xs
all_filter p q [] = refl
all_filter p q (x ∷ xs) = elim (cases_Bool (q x)) [
  | inl passes ↦ rw passes (ap (λ b. p x && b) (all_filter p q xs))
  | inr fails ↦ rw fails (all_filter p q xs)
]

pub any_filter : {X : Type 0} (p q : X → Bool) (xs : List X) → list_any p (filter q xs) ≡ list_any (λ x. q x && p x) xs
any_filter p q [] = refl
any_filter p q (x ∷ xs) = elim (cases_Bool (q x)) [
  | inl passes ↦ rw passes (ap (λ b. p x || b) (any_filter p q xs))
  | inr fails ↦ rw fails (any_filter p q xs)
]

-- ---- of the elements that pass two tests

pub length_both : {X : Type 0} (q r : X → Bool) (xs : List X) → length (filter q (filter r xs)) ≡ count_by (λ x. r x && q x) xs
length_both q r xs = ap length (filter_filter q r xs) ∙ length-filter (λ x. r x && q x) xs

module _ {X : Type 0} (p q r : X → Bool) (xs : List X) where
  pub count_both : count_by p (filter q (filter r xs)) ≡ count_by (λ x. (r x && q x) && p x) xs
  count_both = ap (λ ys. count_by p ys) (filter_filter q r xs) ∙ count_filter p (λ x. r x && q x) xs

  pub all_both : list_all p (filter q (filter r xs)) ≡ list_all (λ x. not (r x && q x) || p x) xs
  all_both = ap (λ ys. list_all p ys) (filter_filter q r xs) ∙ all_filter p (λ x. r x && q x) xs

  pub any_both : list_any p (filter q (filter r xs)) ≡ list_any (λ x. (r x && q x) && p x) xs
  any_both = ap (λ ys. list_any p ys) (filter_filter q r xs) ∙ any_filter p (λ x. r x && q x) xs
