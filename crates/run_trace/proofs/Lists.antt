-- Lists: filters, what holds of each element, and an element of two lists joined.
use Rattle.std.proofs.Common.{◌≡◌, ◌∙◌, ◌&&◌, ◌++◌, ◌⊎◌, Bool, true, false, List, [], ◌∷◌, filter, refl, ap, sym, inl, inr}
use Rattle.std.proofs.lemmas.Bool.{cases_Bool}
use Rattle.std.specs.List.{AllByRecursion as Each}

pub filter_all : {X : Type 0} (p : X → Bool) (xs : List X) → Each (λ x. p x ≡ true) xs → filter p xs ≡ xs
filter_all p [] h = refl
filter_all p (x ∷ xs) h = rw h.0 (ap (λ ys. x ∷ ys) (filter_all p xs h.1))

pub filter_filter : {X : Type 0} (p q : X → Bool) (xs : List X) → filter p (filter q xs) ≡ filter (λ x. q x && p x) xs
filter_filter p q [] = refl
filter_filter p q (x ∷ xs) = elim (cases_Bool (q x)) [
  | inl passes ↦ elim (cases_Bool (p x)) [
    | inl too ↦ rw (passes, too) (ap (λ ys. x ∷ ys) (filter_filter p q xs))
    | inr not ↦ rw (passes, not) (filter_filter p q xs)
  ]
  | inr fails ↦ rw fails (filter_filter p q xs)
]

and_swap : (a b : Bool) → (a && b) ≡ (b && a)
and_swap true true = refl
and_swap true false = refl
and_swap false true = refl
and_swap false false = refl

pub filter_by : {X : Type 0} (p q : X → Bool) (xs : List X) → ((x : X) → p x ≡ q x) → filter p xs ≡ filter q xs
filter_by p q [] same = refl
filter_by p q (x ∷ xs) same = elim (cases_Bool (q x)) [
  | inl passes ↦ rw (same x, passes) (ap (λ ys. x ∷ ys) (filter_by p q xs same))
  | inr fails ↦ rw (same x, fails) (filter_by p q xs same)
]

pub filter_swap : {X : Type 0} (p q : X → Bool) (xs : List X) → filter p (filter q xs) ≡ filter q (filter p xs)
filter_swap p q xs = filter_filter p q xs ∙ (filter_by (λ x. q x && p x) (λ x. p x && q x) xs (λ x. and_swap (q x) (p x)) ∙ sym (filter_filter q p xs))

-- ---- what holds of each element

pub each_pass : {X : Type 0} (p : X → Bool) (xs : List X) → Each (λ x. p x ≡ true) (filter p xs)
each_pass p [] = tt
each_pass p (x ∷ xs) = elim (cases_Bool (p x)) [
  | inl passes ↦ rw passes (passes, each_pass p xs)
  | inr fails ↦ rw fails (each_pass p xs)
]

pub each_filter : {X : Type 0} (P : X → Type 0) (p : X → Bool) (xs : List X) → Each P xs → Each P (filter p xs)
each_filter P p [] h = tt
each_filter P p (x ∷ xs) h = elim (cases_Bool (p x)) [
  | inl passes ↦ rw passes (h.0, each_filter P p xs h.1)
  | inr fails ↦ rw fails (each_filter P p xs h.1)
]

-- of the elements that pass a test
pub each_of : {X : Type 0} (P : X → Type 0) (p : X → Bool) (xs : List X) → Each P (filter p xs) → Each (λ x. p x ≡ true → P x) xs
each_of P p [] h = tt
each_of P p (x ∷ xs) h = elim (cases_Bool (p x)) [
  | inl passes ↦ let k = rw passes at h in (λ pass. k.0, each_of P p xs k.1)
  | inr fails ↦ let k = rw fails at h in (λ pass. absurd (no_pass (sym fails ∙ pass)), each_of P p xs k)
]
  where
    no_pass : false ≡ true → ⊥
    no_pass e = cc

pub each_all : {X : Type 0} (P : X → Type 0) (xs : List X) → ((x : X) → P x) → Each P xs
each_all P [] h = tt
each_all P (x ∷ xs) h = (h x, each_all P xs h)

-- ---- an element of two lists joined

pub record InFirst {X : Type 0} (xs ys pre : List X) (r : X) (post : List X) : Type 0 where
  pub mid : List X
  pub first : xs ≡ pre ++ (r ∷ mid)
  pub after : post ≡ mid ++ ys

pub record InSecond {X : Type 0} (xs ys pre : List X) (r : X) (post : List X) : Type 0 where
  pub mid : List X
  pub before : pre ≡ xs ++ mid
  pub second : ys ≡ mid ++ (r ∷ post)

pub split_append : {X : Type 0} (xs ys pre : List X) (r : X) (post : List X) → xs ++ ys ≡ pre ++ (r ∷ post) → InFirst xs ys pre r post ⊎ InSecond xs ys pre r post
split_append {X} [] ys pre r post e = inr (record { mid = pre; before = refl; second = e })
split_append {X} (x ∷ xs) ys [] r post e = inl (record { mid = xs; first = cc; after = cc })
split_append {X} (x ∷ xs) ys (p ∷ pre) r post e = elim (split_append xs ys pre r post tails) [
  | inl h ↦ let first : xs ≡ pre ++ (r ∷ h.mid) = h.first in inl (record { mid = h.mid; first = cc; after = h.after })
  | inr h ↦ let before : pre ≡ xs ++ h.mid = h.before in inr (record { mid = h.mid; before = cc; second = h.second })
]
  where
    tails : xs ++ ys ≡ pre ++ (r ∷ post)
    tails = cc
