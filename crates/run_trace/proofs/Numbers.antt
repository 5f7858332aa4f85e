-- The numbers of a core's operations: 0, 1, 2 and so on, so that they rise in each part of the list.
use Rattle.std.proofs.Common.{◌≡◌, ◌∙◌, ◌+◌, ◌≤◌, ◌<◌, ◌++◌, ℕ, zero, suc, Bool, true, false, nat_lt, List, [], ◌∷◌, take, filter, slice_get, Option, Some, None, IfSome, refl, ap, sym, inl, inr, arith, add-one}
use Rattle.std.proofs.lemmas.Bool.{cases_Bool, lt-ltb, ltb-true}
use Rattle.std.specs.Prelude.{⊤}
use Rattle.std.specs.List.{AllByRecursion as Each}
use Rattle.lf_model.proofs.EachLemmas.{each_second, each_weaker, each_both, filter_none}
use Rattle.lf_model.specs.Operation.{kind_enters, kind_stores, kind_is_lost, enters, stores, is_lost}
use Rattle.lf_model.specs.declared.bus.OpKind.{OpKind}
use Rattle.lf_model.specs.declared.bus.OpKind.TheVariants.{Load, Store, Atomic, Lost}
use Rattle.lf_model.specs.declared.trace.Op.{Op}

-- numbered n, n + 1 and so on
abbrev pub Numbered : ℕ → List Op → Type 0
Numbered n [] = ⊤
Numbered n (o ∷ os) = (o.k ≡ n) × Numbered (n + 1) os

-- each number at least n, and above those before
abbrev pub Rising : ℕ → List Op → Type 0
Rising n [] = ⊤
Rising n (o ∷ os) = (n ≤ o.k) × Rising (o.k + 1) os

abbrev pub below : ℕ → Op → Bool
below k o = nat_lt o.k k

pub numbered_by : (n : ℕ) (os : List Op) → ((j : ℕ) → IfSome (slice_get os j) (λ o. o.k ≡ n + j)) → Numbered n os
numbered_by n [] h = tt
numbered_by n (o ∷ os) h = (omega (arith, h 0), numbered_by (n + 1) os (λ j. shifted j (slice_get os j) (h (suc j))))
  where
    shifted : (j : ℕ) (found : Option Op) → IfSome found (λ o. o.k ≡ n + suc j) → IfSome found (λ o. o.k ≡ n + 1 + j)
    shifted j None k = tt
    shifted j (Some x) k = omega (arith, k, add-one j)

pub rising_weaker : (m n : ℕ) (os : List Op) → m ≤ n → Rising n os → Rising m os
rising_weaker m n [] le h = tt
rising_weaker m n (o ∷ os) le h = (omega (arith, le, h.0), h.1)

pub rising_filter : (p : Op → Bool) (m n : ℕ) (os : List Op) → m ≤ n → Numbered n os → Rising m (filter p os)
rising_filter p m n [] le h = tt
rising_filter p m n (o ∷ os) le h = elim (cases_Bool (p o)) [
  | inl passes ↦ rw passes (omega (arith, le, h.0), rising_filter p (o.k + 1) (n + 1) os (omega (arith, h.0)) h.1)
  | inr fails ↦ rw fails (rising_filter p m (n + 1) os (omega (arith, le)) h.1)
]

pub rising_from : (n : ℕ) (os : List Op) → Rising n os → Each (λ o. n ≤ o.k) os
rising_from n [] h = tt
rising_from n (o ∷ os) h = (h.0, each_weaker (λ (x : Op). o.k + 1 ≤ x.k) (λ (x : Op). n ≤ x.k) os (λ x above. omega (arith, h.0, above)) (rising_from (o.k + 1) os h.1))

pub smaller_before : (n : ℕ) (pre : List Op) (r : Op) (post : List Op) → Rising n (pre ++ (r ∷ post)) → Each (λ o. o.k < r.k) pre
smaller_before n [] r post h = tt
smaller_before n (o ∷ pre) r post h =
    let above = each_second (λ (x : Op). o.k + 1 ≤ x.k) pre (r ∷ post) (rising_from (o.k + 1) (pre ++ (r ∷ post)) h.1) in
    (omega (arith, above.0), smaller_before (o.k + 1) pre r post h.1)

pub larger_after : (n : ℕ) (pre : List Op) (r : Op) (post : List Op) → Rising n (pre ++ (r ∷ post)) → Each (λ o. r.k < o.k) post
larger_after n [] r post h = each_weaker (λ (x : Op). r.k + 1 ≤ x.k) (λ (x : Op). r.k < x.k) post (λ x above. omega (arith, above)) (rising_from (r.k + 1) post h.1)
larger_after n (o ∷ pre) r post h = larger_after (o.k + 1) pre r post h.1

pub numbered_from : (n : ℕ) (os : List Op) → Numbered n os → Each (λ o. n ≤ o.k) os
numbered_from n [] h = tt
numbered_from n (o ∷ os) h = (omega (arith, h.0), each_weaker (λ (x : Op). n + 1 ≤ x.k) (λ (x : Op). n ≤ x.k) os (λ x above. omega (arith, above)) (numbered_from (n + 1) os h.1))

pub not_below : (a b : ℕ) → b ≤ a → nat_lt a b ≡ false
not_below a b le = elim (cases_Bool (nat_lt a b)) [
  | inl is ↦ absurd (omega (arith, ltb-true a b is, le))
  | inr not ↦ not
]

-- the operations below a number are the first ones
pub first_below : (os : List Op) (n j k : ℕ) → k ≡ n + j → Numbered n os → filter (below k) os ≡ take j os
first_below [] n zero k e h = refl
first_below [] n (suc j) k e h = refl
first_below (o ∷ os) n zero k e h =
    filter_none (below k) (o ∷ os) (each_weaker (λ (x : Op). n ≤ x.k) (λ (x : Op). below k x ≡ false) (o ∷ os) (λ x above. not_below x.k k (omega (arith, e, above))) (numbered_from n (o ∷ os) h))
first_below (o ∷ os) n (suc j) k e h =
    let is : below k o ≡ true = lt-ltb o.k k (omega (arith, e, h.0, add-one j)) in
    rw is (ap (λ (xs : List Op). o ∷ xs) (first_below os (n + 1) j k (omega (arith, e, add-one j)) h.1))

-- an operation is found by its number
found_more : (n : ℕ) (o : Op) (os : List Op) → Numbered n (o ∷ os) → Each (λ (x : Op). (j : ℕ) → x.k ≡ n + 1 + j → slice_get os j ≡ Some x) os
    → Each (λ (x : Op). (j : ℕ) → x.k ≡ n + j → slice_get (o ∷ os) j ≡ Some x) (o ∷ os)
found_more n o os h rest = (
  first,
  each_both (λ (x : Op). (j : ℕ) → x.k ≡ n + 1 + j → slice_get os j ≡ Some x) (λ (x : Op). n + 1 ≤ x.k) (λ (x : Op). (j : ℕ) → x.k ≡ n + j → slice_get (o ∷ os) j ≡ Some x)
      os others rest (numbered_from (n + 1) os h.1),
)
  where
    first : (j : ℕ) → o.k ≡ n + j → slice_get (o ∷ os) j ≡ Some o
    first zero e = refl
    first (suc j) e = absurd (omega (arith, e, h.0, add-one j))

    others : (x : Op) → ((j : ℕ) → x.k ≡ n + 1 + j → slice_get os j ≡ Some x) → n + 1 ≤ x.k → (j : ℕ) → x.k ≡ n + j → slice_get (o ∷ os) j ≡ Some x
    others x f high zero e = absurd (omega (arith, e, high))
    others x f high (suc j) e = f j (omega (arith, e, add-one j))

numbers_found : (n : ℕ) (os : List Op) → Numbered n os → Each (λ o. (j : ℕ) → o.k ≡ n + j → slice_get os j ≡ Some o) os
numbers_found n [] h = tt
numbers_found n (o ∷ os) h = found_more n o os h (numbers_found (n + 1) os h.1)

pub at_number : (os : List Op) → Numbered 0 os → Each (λ o. slice_get os o.k ≡ Some o) os
at_number os h = each_weaker (λ (o : Op). (j : ℕ) → o.k ≡ 0 + j → slice_get os j ≡ Some o) (λ (o : Op). slice_get os o.k ≡ Some o) os (λ o f. f o.k (omega arith)) (numbers_found 0 os h)

-- ---- stores that reached memory, and lost ones

-- one operation more: it is in both lists or in neither
stored_more : (o : Op) (os : List Op) → (stores o ≡ true) → (enters o ≡ true) → (is_lost o ≡ false) → filter stores os ≡ filter enters os ++ filter is_lost os
    → filter stores (o ∷ os) ≡ filter enters (o ∷ os) ++ filter is_lost (o ∷ os)
stored_more o os s e l h = rw (s, e, l) (ap (λ (xs : List Op). o ∷ xs) h)

stores_of : (kind : OpKind) (o : Op) (os : List Op) → o.kind ≡ kind → filter stores os ≡ filter enters os ++ filter is_lost os
    → Each (λ x. is_lost o ≡ true → enters x ≡ false) os → filter stores (o ∷ os) ≡ filter enters (o ∷ os) ++ filter is_lost (o ∷ os)
stores_of Load o os e h last =
    let s : stores o ≡ false = ap kind_stores e in
    let i : enters o ≡ false = ap kind_enters e in
    let l : is_lost o ≡ false = ap kind_is_lost e in
    rw (s, i, l) h
stores_of Store o os e h last = stored_more o os (ap kind_stores e) (ap kind_enters e) (ap kind_is_lost e) h
stores_of Atomic o os e h last = stored_more o os (ap kind_stores e) (ap kind_enters e) (ap kind_is_lost e) h
stores_of Lost o os e h last =
    let s : stores o ≡ true = ap kind_stores e in
    let i : enters o ≡ false = ap kind_enters e in
    let l : is_lost o ≡ true = ap kind_is_lost e in
    let none : filter enters os ≡ [] = filter_none enters os (each_weaker (λ (x : Op). is_lost o ≡ true → enters x ≡ false) (λ (x : Op). enters x ≡ false) os (λ x f. f l) last) in
    let rest : filter stores os ≡ filter is_lost os = h ∙ ap (λ (xs : List Op). xs ++ filter is_lost os) none in
    rw (s, i, l) (ap (λ (xs : List Op). o ∷ xs) rest ∙ ap (λ (xs : List Op). xs ++ (o ∷ filter is_lost os)) (sym none))

-- of a list whose lost stores come last
abbrev pub LostLast : List Op → Type 0
LostLast [] = ⊤
LostLast (o ∷ os) = Each (λ x. is_lost o ≡ true → enters x ≡ false) os × LostLast os

pub stores_parts : (os : List Op) → LostLast os → filter stores os ≡ filter enters os ++ filter is_lost os
stores_parts [] h = refl
stores_parts (o ∷ os) h = stores_of o.kind o os refl (stores_parts os h.1) h.0
