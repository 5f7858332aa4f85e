-- Operations of a core in program order: they bear the numbers 0, 1, 2 and so on, and as many of them pass a test as of the core's
-- operations in the order.
use Rattle.std.proofs.Common.{◌≡◌, ◌∙◌, ◌+◌, ◌<◌, ◌≤◌, ◌==◌, ◌&&◌, ℕ, zero, suc, Bool, true, false, not, List, [], ◌∷◌, count_by, find, length, refl, ap, sym, inl, inr, Some, arith, if◌then◌else◌}
use Rattle.std.specs.Prelude.{nat_le, ⊤}
use Rattle.std.specs.List.{filter_map, range_with_len}
use Rattle.std.proofs.lemmas.Bool.{cases_Bool, cases_order, and_parts, eq-eqb, eqb-true, ne_eqb, le-leb, lt-leb}
use Rattle.std.proofs.lemmas.List.Sums.{sum_by-cons}
use Rattle.lf_model.specs.Once.{is_number, OnceAtCore}
use Rattle.lf_model.specs.Operation.{of_core}
use Rattle.lf_model.specs.ProgramOrder.{numbered, program_order}
use Rattle.lf_model.specs.declared.trace.Op.{Op}

-- how much an element adds to a count
abbrev pub one_if : Bool → ℕ
one_if b = if b then 1 else 0

pub count_more : (p : Op → Bool) (o : Op) (os : List Op) → count_by p (o ∷ os) ≡ (if p o then 1 else 0) + count_by p os
count_more p o os = sum_by-cons (λ (x : Op). if p x then 1 else 0) o os

-- those that pass a test, by another
count_split : (p q : Op → Bool) (os : List Op) → count_by p os ≡ count_by (λ o. p o && q o) os + count_by (λ o. p o && not (q o)) os
count_split p q [] = refl
count_split p q (o ∷ os) =
    let rest = count_split p q os in
    let all = count_more p o os in
    let both = count_more (λ o. p o && q o) o os in
    let one = count_more (λ o. p o && not (q o)) o os in
    let here = split (p o) (q o) in
    omega (arith, rest, all, both, one, here)
  where
    split : (a b : Bool) → one_if a ≡ one_if (a && b) + one_if (a && not b)
    split false b = refl
    split true false = refl
    split true true = refl

count_same : (p q : Op → Bool) → ((o : Op) → p o ≡ q o) → (os : List Op) → count_by p os ≡ count_by q os
count_same p q same [] = refl
count_same p q same (o ∷ os) = count_more p o os ∙ (rw (same o, count_same p q same os) (sym (count_more q o os)))

count_less : (p q : Op → Bool) (os : List Op) → count_by (λ o. p o && q o) os ≤ count_by p os
count_less p q os = let e = count_split p q os in omega (arith, e)

-- of one element, that is found
count_found : (p q : Op → Bool) (os : List Op) → count_by p os ≡ 1 → (x : Op) → find p os ≡ Some x → count_by (λ o. p o && q o) os ≡ (if q x then 1 else 0)
count_found p q [] one x found = absurd cc
count_found p q (o ∷ os) one x found = elim (cases_Bool (p o)) [
  | inl is ↦
      let all = count_more p o os in
      let here : ◌≡◌ {A = ℕ} (one_if (p o)) 1 = rw is refl in
      let none : count_by p os ≡ 0 = omega (arith, one, all, here) in
      let less = count_less p q os in
      let rest : count_by (λ o. p o && q o) os ≡ 0 = omega (arith, none, less) in
      let it : o ≡ x = let f = rw is at found in cc in
      count_more (λ o. p o && q o) o os ∙ (rw (is, rest, it) (let z : one_if (q x) + 0 ≡ one_if (q x) = omega arith in z))
  | inr not_it ↦
      let all = count_more p o os in
      let here : ◌≡◌ {A = ℕ} (one_if (p o)) 0 = rw not_it refl in
      let later = count_found p q os (omega (arith, one, all, here)) x (rw not_it at found) in
      let more = count_more (λ o. p o && q o) o os in
      let none : ◌≡◌ {A = ℕ} (one_if (p o && q o)) 0 = rw not_it refl in
      omega (arith, more, none, later)
]

is_found : (p : Op → Bool) (os : List Op) → count_by p os ≡ 1 → (x : Op) × (find p os ≡ Some x) × (p x ≡ true)
is_found p [] one = absurd (omega (arith, one))
is_found p (o ∷ os) one = elim (cases_Bool (p o)) [
  | inl is ↦ (o, (rw is refl), is)
  | inr not_it ↦
      let all = count_more p o os in
      let here : ◌≡◌ {A = ℕ} (one_if (p o)) 0 = rw not_it refl in
      let rest : count_by p os ≡ 1 = omega (arith, one, all, here) in
      let later = is_found p os rest in
      let skipped : find p (o ∷ os) ≡ find p os = rw not_it refl in
      (later.0, skipped ∙ later.1, later.2)
]

count_all : (os : List Op) → count_by (λ o. true) os ≡ length os
count_all [] = refl
count_all (o ∷ os) =
    let more = count_more (λ o. true) o os in
    let rest = count_all os in
    omega (arith, more, rest)

-- operations that bear the numbers from this one on
abbrev pub NumberedFrom : ℕ → List Op → Type 0
NumberedFrom n [] = ⊤
NumberedFrom n (o ∷ os) = (o.k ≡ n) × NumberedFrom (n + 1) os

module _ (c : ℕ) (order : List Op) where
  abbrev count : ℕ
  count = count_by (of_core c) order

  -- of the core, with this number or a later one
  abbrev is_from : ℕ → Op → Bool
  is_from s o = of_core c o && nat_le s o.k

  abbrev ops_from : ℕ → ℕ → List Op
  ops_from s n = filter_map (numbered c order) (range_with_len s n)

  split_from : (p : Op → Bool) (s : ℕ) (os : List Op) → count_by (λ o. is_from s o && p o) os ≡ count_by (λ o. is_number c s o && p o) os + count_by (λ o. is_from (s + 1) o && p o) os
  split_from p s [] = refl
  split_from p s (o ∷ os) =
      let rest = split_from p s os in
      let all = count_more (λ o. is_from s o && p o) o os in
      let one = count_more (λ o. is_number c s o && p o) o os in
      let more = count_more (λ o. is_from (s + 1) o && p o) o os in
      let here = split (of_core c o) (p o) in
      omega (arith, rest, all, one, more, here)
    where
      split : (a b : Bool) → one_if ((a && nat_le s o.k) && b) ≡ one_if ((a && o.k == s) && b) + one_if ((a && nat_le (s + 1) o.k) && b)
      split false b = refl
      split true b = elim (cases_order o.k s) [
        | inr (inl less) ↦ rw (lt-leb s o.k less, ne_eqb o.k s (λ e. absurd (omega (arith, e, less))), lt-leb (s + 1) o.k (omega (arith, less))) refl
        | inl same ↦ rw (le-leb s o.k (omega (arith, same)), eq-eqb o.k s same, lt-leb (s + 1) o.k (omega (arith, same))) (let z : one_if b ≡ one_if b + 0 = omega arith in z)
        | inr (inr more) ↦ rw (le-leb s o.k (omega (arith, more)), ne_eqb o.k s (λ e. absurd (omega (arith, e, more))), le-leb (s + 1) o.k (omega (arith, more))) (omega arith)
      ]

  module _ (once : OnceAtCore order c) where
    -- the first of them, with its number
    one_at : (s : ℕ) → s < count → (x : Op) × (find (is_number c s) order ≡ Some x) × (is_number c s x ≡ true)
    one_at s low = is_found (is_number c s) order (once s low)

    numbered_range : (s n : ℕ) → s + n ≡ count → NumberedFrom s (ops_from s n)
    numbered_range s zero e = tt
    numbered_range s (suc n) e =
        let low : s < count = omega (arith, e) in
        let found = one_at s low in
        let is : found.0.k ≡ s = eqb-true found.0.k s (and_parts (of_core c found.0) (found.0.k == s) found.2).1 in
        rw found.1 (is, numbered_range (s + 1) n (omega (arith, e)))

    length_range : (s n : ℕ) → s + n ≡ count → length (ops_from s n) ≡ n
    length_range s zero e = refl
    length_range s (suc n) e =
        let low : s < count = omega (arith, e) in
        let found = one_at s low in
        rw found.1 (ap (λ (m : ℕ). suc m) (length_range (s + 1) n (omega (arith, e))))

    count_range : (p : Op → Bool) (s n : ℕ) → s + n ≡ count → count_by p (ops_from s n) + count_by (λ o. is_from count o && p o) order ≡ count_by (λ o. is_from s o && p o) order
    count_range p s zero e =
        let same : s ≡ count = omega (arith, e) in
        let left = ap (λ (m : ℕ). count_by (λ o. is_from m o && p o) order) same in
        omega (arith, left)
    count_range p s (suc n) e =
        let low : s < count = omega (arith, e) in
        let found = one_at s low in
        let x = found.0 in
        let first : ops_from s (suc n) ≡ x ∷ ops_from (s + 1) n = rw found.1 refl in
        let here = count_more p x (ops_from (s + 1) n) in
        let all : count_by p (ops_from s (suc n)) ≡ one_if (p x) + count_by p (ops_from (s + 1) n) = ap (count_by p) first ∙ here in
        let one = count_found (is_number c s) p order (once s low) x found.1 in
        let rest = count_range p (s + 1) n (omega (arith, e)) in
        let parts = split_from p s order in
        omega (arith, all, one, rest, parts)

    from_first : (q : Op → Bool) (o : Op) → (is_from 0 o && q o) ≡ (of_core c o && q o)
    from_first q o = rw (le-leb 0 o.k (omega arith)) (same (of_core c o) (q o))
      where
        same : (a b : Bool) → ((a && true) && b) ≡ (a && b)
        same false b = refl
        same true b = refl

    -- none has a number from their count on
    none_left : (p : Op → Bool) → count_by (λ o. is_from count o && p o) order ≡ 0
    none_left p =
        let long = length_range 0 count (omega arith) in
        let all = count_range (λ o. true) 0 count (omega arith) in
        let each = count_all (ops_from 0 count) in
        let own = count_same (λ o. is_from 0 o && true) (of_core c) (λ o. from_first (λ u. true) o ∙ and_true (of_core c o)) order in
        let rest : count_by (λ o. is_from count o && true) order ≡ 0 = omega (arith, long, all, each, own) in
        let same = count_same (λ o. is_from count o && true) (is_from count) (λ o. and_true (is_from count o)) order in
        let less = count_less (is_from count) p order in
        omega (arith, rest, same, less)
      where
        and_true : (a : Bool) → (a && true) ≡ a
        and_true false = refl
        and_true true = refl

    pub program_count : (p : Op → Bool) → count_by p (program_order c order) ≡ count_by (λ o. of_core c o && p o) order
    unfolding program_order
    program_count p =
        let all = count_range p 0 count (omega arith) in
        let none = none_left p in
        let own = count_same (λ o. is_from 0 o && p o) (λ o. of_core c o && p o) (from_first p) order in
        omega (arith, all, none, own)

    pub program_numbered : NumberedFrom 0 (program_order c order)
    unfolding program_order
    program_numbered = numbered_range 0 count (omega arith)
