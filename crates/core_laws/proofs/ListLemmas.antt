-- Lists that grow at their end, what stands at an index, and what holds of each element.
use Rattle.std.proofs.Common.{◌≡◌, ◌∙◌, ◌+◌, ◌<◌, ℕ, zero, suc, Bool, true, cond, List, [], ◌∷◌, ◌++◌, Option, Some, None, length, take, map, filter, refl, ap, subst, inl, inr, arith}
use Rattle.std.proofs.lemmas.Bool.{cases_Bool}
use Rattle.std.proofs.lemmas.List.Sums.{sum_by-append}
use Rattle.std.specs.List.{count_by, slice_get}
use Rattle.std.specs.List.{AllByRecursion as Each}
use Rattle.std.specs.Option.{IfSome}

pub count_append : {X : Type 0} (p : X → Bool) (xs ys : List X) → count_by p (xs ++ ys) ≡ count_by p xs + count_by p ys
count_append p xs ys = sum_by-append (λ x. cond (p x) 1 0) xs ys

-- ---- at an index

-- what stands in the first of two lists
pub get_first : {X : Type 0} (xs ys : List X) (k : ℕ) → k < length xs → slice_get (xs ++ ys) k ≡ slice_get xs k
get_first [] ys k within = absurd (omega arith)
get_first (x ∷ xs) ys zero within = refl
get_first (x ∷ xs) ys (suc k) within = get_first xs ys k (omega arith)

-- what stands in the second
pub get_second : {X : Type 0} (xs ys : List X) (k : ℕ) → slice_get (xs ++ ys) (length xs + k) ≡ slice_get ys k
get_second [] ys k = ap (slice_get ys) (omega arith)
get_second (x ∷ xs) ys k = let more : suc (length xs) + k ≡ suc (length xs + k) = omega arith in ap (slice_get (x ∷ (xs ++ ys))) more ∙ get_second xs ys k

-- what stands behind a list stands at its length
pub get_behind : {X : Type 0} (xs ys : List X) (x : X) → slice_get (xs ++ x ∷ ys) (length xs) ≡ Some x
get_behind [] ys x = refl
get_behind (y ∷ xs) ys x = get_behind xs ys x

-- what holds of an element holds of it by what it is
pub if_there : {X : Type 0} (found : Option X) (P Q : X → Type 0) → IfSome found P → ((x : X) → found ≡ Some x → P x → Q x) → IfSome found Q
if_there None P Q h f = tt
if_there (Some x) P Q h f = f x refl h

-- ---- of each element

pub each_get : {X : Type 0} (P : X → Type 0) (xs : List X) (k : ℕ) (x : X) → Each P xs → slice_get xs k ≡ Some x → P x
each_get P [] k x h there = absurd cc
each_get P (y ∷ xs) zero x h there = let same : y ≡ x = cc in subst P same h.0
each_get P (y ∷ xs) (suc k) x h there = each_get P xs k x h.1 there

pub each_from_get : {X : Type 0} (P : X → Type 0) (xs : List X) → ((k : ℕ) → IfSome (slice_get xs k) P) → Each P xs
each_from_get P [] h = tt
each_from_get P (x ∷ xs) h = (h 0, each_from_get P xs (λ k. h (suc k)))

pub each_take : {X : Type 0} (P : X → Type 0) (n : ℕ) (xs : List X) → Each P xs → Each P (take n xs)
each_take P zero xs h = tt
each_take P (suc n) [] h = tt
each_take P (suc n) (x ∷ xs) h = (h.0, each_take P n xs h.1)

pub each_map : {X Y : Type 0} (P : Y → Type 0) (f : X → Y) (xs : List X) → Each (λ x. P (f x)) xs → Each P (map f xs)
each_map P f [] h = tt
each_map P f (x ∷ xs) h = (h.0, each_map P f xs h.1)

pub each_filter : {X : Type 0} (P : X → Type 0) (p : X → Bool) (xs : List X) → Each P xs → Each P (filter p xs)
each_filter P p [] h = tt
each_filter P p (x ∷ xs) h = elim (cases_Bool (p x)) [
  | inl is_so ↦ rw is_so (h.0, each_filter P p xs h.1)
  | inr not_so ↦ rw not_so (each_filter P p xs h.1)
]

-- what a test kept passed it
pub each_passes : {X : Type 0} (p : X → Bool) (xs : List X) → Each (λ x. p x ≡ true) (filter p xs)
each_passes p [] = tt
each_passes p (x ∷ xs) = elim (cases_Bool (p x)) [
  | inl is_so ↦ rw is_so (is_so, each_passes p xs)
  | inr not_so ↦ rw not_so (each_passes p xs)
]

-- what holds of those that a test keeps
pub each_unfilter : {X : Type 0} (P : X → Type 0) (p : X → Bool) (xs : List X) → Each P (filter p xs) → Each (λ x. p x ≡ true → P x) xs
each_unfilter P p [] h = tt
each_unfilter P p (x ∷ xs) h = elim (cases_Bool (p x)) [
  | inl is_so ↦ let kept = rw is_so at h in (λ passes. kept.0, each_unfilter P p xs kept.1)
  | inr not_so ↦ ((λ passes. absurd (cc)), each_unfilter P p xs (rw not_so at h))
]

-- a test that all pass keeps all
pub filter_all : {X : Type 0} (p : X → Bool) (xs : List X) → Each (λ x. p x ≡ true) xs → filter p xs ≡ xs
filter_all p [] h = refl
filter_all p (x ∷ xs) h = rw h.0 (ap (λ ys. x ∷ ys) (filter_all p xs h.1))

pub each_every : {X : Type 0} (P : X → Type 0) (xs : List X) → ((x : X) → P x) → Each P xs
each_every P [] f = tt
each_every P (x ∷ xs) f = (f x, each_every P xs f)

-- a test that only elements pass which pass another
pub filter_within : {X : Type 0} (p q : X → Bool) (xs : List X) → ((x : X) → p x ≡ true → q x ≡ true) → filter p (filter q xs) ≡ filter p xs
filter_within p q [] f = refl
filter_within p q (x ∷ xs) f = elim (cases_Bool (q x)) [
  | inl is_so ↦ elim (cases_Bool (p x)) [
    | inl passes ↦ rw (is_so, passes) (ap (λ ys. x ∷ ys) (filter_within p q xs f))
    | inr fails ↦ rw (is_so, fails) (filter_within p q xs f)
  ]
  | inr not_so ↦ elim (cases_Bool (p x)) [
    | inl passes ↦ let so = f x passes in absurd (cc)
    | inr fails ↦ rw (not_so, fails) (filter_within p q xs f)
  ]
]
