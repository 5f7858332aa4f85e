-- A core's operations by their numbers are those of its program order.
use Rattle.std.proofs.Common.{◌≡◌, ◌∙◌, ◌<◌, ◌≤◌, ◌+◌, ◌*◌, ◌^◌, ℕ, zero, suc, Bool, true, false, List, [], ◌∷◌, length, map, get_or, refl, sym, ap, subst, arith, inl, inr, Option, Some, if◌then◌else◌, count_by, find}
use Rattle.std.specs.List.{filter_map, range_with_len}
use Rattle.std.specs.Prelude.{unwrap_or, All, ◌&&◌, ◌==◌, nat_le}
use Rattle.std.proofs.lemmas.Bool.{cases_Bool, cases_lt, cases_order, false≢true, lt-leb, le-leb, eq-eqb, ne_eqb}
use Rattle.std.proofs.lemmas.List.{get_or_default}
use Rattle.std.proofs.lemmas.List.Elements.{All-head, All-tail}
use Rattle.std.proofs.lemmas.List.FromFn.{length-map-range_with_len, get_or-map-range_with_len}
use Rattle.std.proofs.lemmas.List.Sums.{sum_by-cons}
use Rattle.lf_model.specs.ProgramOrder.{numbered, program_order}
use Rattle.lf_model.specs.Once.{is_number, OnceAtCore}
use Rattle.lf_model.specs.Operation.{of_core}
use Rattle.lf_model.specs.declared.trace.Op.{Op}
use Rattle.tso_thread.specs.ReplayState.{no_op, ReadsFit}

-- the first of these operations with a number of a core
abbrev pub first_numbered : ℕ → ℕ → List Op → Op
first_numbered c k os = unwrap_or (find (is_number c k) os) no_op

-- each number has the first of these operations that bears it
abbrev pub HaveFirst : ℕ → List Op → List Op → Type 0
HaveFirst c os ops = (k : ℕ) → k < length ops → get_or ops k no_op ≡ first_numbered c k os

pub first_more : (c k : ℕ) (o : Op) (os : List Op) → first_numbered c k (o ∷ os) ≡ (if is_number c k o then o else first_numbered c k os)
first_more c k o os = elim (cases_Bool (is_number c k o)) [
  | inl is ↦ rw is refl
  | inr not ↦ rw not refl
]

found_one : (p : Op → Bool) (os : List Op) → count_by p os ≡ 1 → find p os ≡ Some (unwrap_or (find p os) no_op)
found_one p [] is = absurd (not_one is)
  where
    not_one : ◌≡◌ {A = ℕ} 0 1 → ⊥
    not_one e = omega (arith, e)
found_one p (o ∷ os) is = elim (cases_Bool (p o)) [
  | inl yes_it ↦ rw yes_it refl
  | inr not ↦
      let rest : count_by p os ≡ 1 =
      let e = sum_by-cons (λ (x : Op). if p x then 1 else 0) o os in
      let none : ◌≡◌ {A = ℕ} (if p o then 1 else 0) 0 = rw not refl in
      omega (arith, is, e, none) in
      rw not (found_one p os rest)
]

filter_map_found : (f : ℕ → Option Op) (s : ℕ) (ops : List Op) → ((k : ℕ) → k < length ops → f (s + k) ≡ Some (get_or ops k no_op)) → filter_map f (range_with_len s (length ops)) ≡ ops
filter_map_found f s [] each = refl
filter_map_found f s (o ∷ os) each =
    let here : s + 0 ≡ s = omega arith in
    let first : f s ≡ Some o = subst (λ (n : ℕ). f n ≡ Some o) here (each 0 (omega arith)) in
    let rest : filter_map f (range_with_len (s + 1) (length os)) ≡ os =
    filter_map_found f (s + 1) os (λ k low. let e : s + suc k ≡ s + 1 + k = omega arith in subst (λ (n : ℕ). f n ≡ Some (get_or os k no_op)) e (each (suc k) (omega (arith, low)))) in
    rw first (ap (λ (xs : List Op). o ∷ xs) rest)

pub by_numbers : (c : ℕ) (order ops : List Op) → OnceAtCore order c → length ops ≡ count_by (of_core c) order → HaveFirst c order ops → ops ≡ program_order c order
unfolding program_order
by_numbers c order ops once long have =
    sym (filter_map_found (numbered c order) 0 ops (λ k low.
    let e : 0 + k ≡ k = omega arith in
    let one = once k (omega (arith, low, long)) in
    subst (λ (n : ℕ). find (is_number c n) order ≡ Some (get_or ops k no_op)) (sym e) (found_one (is_number c k) order one ∙ ap Some (sym (have k low)))))
    ∙ ap (λ (n : ℕ). filter_map (numbered c order) (range_with_len 0 n)) long

-- ---- what each operation has, those in program order have

module _ (P : Op → Type 0) (none : P no_op) (c : ℕ) where
  first_has : (os : List Op) (k : ℕ) → All P os → P (first_numbered c k os)
  first_has [] k all = none
  first_has (o ∷ os) k all = elim (cases_Bool (is_number c k o)) [
    | inl is ↦ subst P (sym (first_more c k o os ∙ rw is refl)) (All-head P o os all)
    | inr not ↦ subst P (sym (first_more c k o os ∙ rw not refl)) (first_has os k (All-tail P o os all))
  ]

  pub numbered_have : (order ops : List Op) → HaveFirst c order ops → All P order → All P ops
  numbered_have order ops have all k d low = subst P (sym (get_or_default ops k d no_op low ∙ have k low)) (first_has order k all)

-- ---- each operation stands in program order

count_more : (p : Op → Bool) (o : Op) (os : List Op) → count_by p (o ∷ os) ≡ (if p o then 1 else 0) + count_by p os
count_more p o os = sum_by-cons (λ (x : Op). if p x then 1 else 0) o os

-- those of a core from a number on
abbrev from_number : ℕ → ℕ → Op → Bool
from_number c m o = of_core c o && nat_le m o.k

parts_of_count : (c m : ℕ) (os : List Op) → count_by (from_number c m) os ≡ count_by (is_number c m) os + count_by (from_number c (m + 1)) os
parts_of_count c m [] = refl
parts_of_count c m (o ∷ os) =
    let rest = parts_of_count c m os in
    let all = count_more (from_number c m) o os in
    let one = count_more (is_number c m) o os in
    let more = count_more (from_number c (m + 1)) o os in
    let here = split (of_core c o) in
    omega (arith, rest, all, one, more, here)
  where
    split : (b : Bool) → (if b && nat_le m o.k then 1 else 0) ≡ (if b && o.k == m then 1 else 0) + (if b && nat_le (m + 1) o.k then 1 else 0)
    split false = refl
    split true = elim (cases_order o.k m) [
      | inr (inl less) ↦ rw (lt-leb m o.k less, ne_eqb o.k m (λ e. absurd (omega (arith, e, less))), lt-leb (m + 1) o.k (omega (arith, less))) refl
      | inl same ↦ rw (le-leb m o.k (omega (arith, same)), eq-eqb o.k m same, lt-leb (m + 1) o.k (omega (arith, same))) refl
      | inr (inr more) ↦ rw (le-leb m o.k (omega (arith, more)), ne_eqb o.k m (λ e. absurd (omega (arith, e, more))), le-leb (m + 1) o.k (omega (arith, more))) refl
    ]

from_zero : (c : ℕ) (os : List Op) → count_by (from_number c 0) os ≡ count_by (of_core c) os
from_zero c [] = refl
from_zero c (o ∷ os) =
    let rest = from_zero c os in
    let all = count_more (from_number c 0) o os in
    let one = count_more (of_core c) o os in
    let here = same (of_core c o) in
    omega (arith, rest, all, one, here)
  where
    same : (b : Bool) → ◌≡◌ {A = ℕ} (if b && nat_le 0 o.k then 1 else 0) (if b then 1 else 0)
    same false = refl
    same true = rw (le-leb 0 o.k (omega arith)) refl

from_count : (c : ℕ) (order : List Op) → OnceAtCore order c → (m : ℕ) → m ≤ count_by (of_core c) order → count_by (from_number c m) order + m ≡ count_by (of_core c) order
from_count c order once zero low = let e = from_zero c order in omega (arith, e)
from_count c order once (suc m) low =
    let rest = from_count c order once m (omega (arith, low)) in
    let one = once m (omega (arith, low)) in
    let parts = parts_of_count c m order in
    let e : m + 1 ≡ suc m = omega arith in
    let next : count_by (from_number c (m + 1)) order + (m + 1) ≡ count_by (of_core c) order = omega (arith, rest, one, parts) in
    subst (λ (k : ℕ). count_by (from_number c k) order + k ≡ count_by (of_core c) order) e next

none_passes : (p : Op → Bool) (os : List Op) (i : ℕ) (d : Op) → count_by p os ≡ 0 → i < length os → p (get_or os i d) ≡ false
none_passes p [] i d none low = absurd (omega (arith, low))
none_passes p (o ∷ os) zero d none low = elim (cases_Bool (p o)) [
  | inl is ↦
      let all = count_more p o os in
      let one : ◌≡◌ {A = ℕ} (if p o then 1 else 0) 1 = rw is refl in
      absurd (omega (arith, none, all, one))
  | inr not ↦ not
]
none_passes p (o ∷ os) (suc i) d none low =
    let all = count_more p o os in
    none_passes p os i d (omega (arith, none, all)) (omega (arith, low))

found_at : (p : Op → Bool) (os : List Op) (i : ℕ) (d : Op) → count_by p os ≡ 1 → i < length os → p (get_or os i d) ≡ true → find p os ≡ Some (get_or os i d)
found_at p [] i d one low is = absurd (omega (arith, low))
found_at p (o ∷ os) zero d one low is = rw is refl
found_at p (o ∷ os) (suc i) d one low is = elim (cases_Bool (p o)) [
  | inl first ↦
      let all = count_more p o os in
      let here : ◌≡◌ {A = ℕ} (if p o then 1 else 0) 1 = rw first refl in
      let none = none_passes p os i d (omega (arith, one, all, here)) (omega (arith, low)) in
      absurd (false≢true (sym none ∙ is))
  | inr not ↦
      let all = count_more p o os in
      let here : ◌≡◌ {A = ℕ} (if p o then 1 else 0) 0 = rw not refl in
      rw not (found_at p os i d (omega (arith, one, all, here)) (omega (arith, low)) is)
]

module _ (c : ℕ) (order : List Op) (once : OnceAtCore order c) where
  abbrev count : ℕ
  count = count_by (of_core c) order

  abbrev first_of_order : ℕ → Op
  first_of_order k = first_numbered c k order

  abbrev ops : List Op
  ops = map first_of_order (range_with_len 0 count)

  ops_long : length ops ≡ count
  ops_long = length-map-range_with_len first_of_order 0 count

  ops_first : (k : ℕ) → k < count → get_or ops k no_op ≡ first_of_order k
  ops_first k low = get_or-map-range_with_len first_of_order 0 count k k no_op low (omega arith)

  ops_are : ops ≡ program_order c order
  ops_are = by_numbers c order ops once ops_long (λ k low. ops_first k (omega (arith, low, ops_long)))

  pub program_order_have : (P : Op → Type 0) → P no_op → All P order → All P (program_order c order)
  program_order_have P none all = subst (All P) ops_are (numbered_have P none c order ops (λ k low. ops_first k (omega (arith, low, ops_long))) all)

  module _ (i : ℕ) (low : i < length order) (its : (get_or order i no_op).core ≡ c) where
    abbrev o : Op
    o = get_or order i no_op

    number_low : o.k < count
    number_low = elim (cases_lt o.k count) [
      | inl less ↦ less
      | inr more ↦
          let none : count_by (from_number c count) order ≡ 0 = let e = from_count c order once count (omega arith) in omega (arith, e) in
          let fails = none_passes (from_number c count) order i no_op none low in
          let passes : from_number c count o ≡ true = rw (eq-eqb o.core c its, le-leb count o.k more) refl in
          absurd (false≢true (sym fails ∙ passes))
    ]

    numbered_o : is_number c o.k o ≡ true
    numbered_o = rw (eq-eqb o.core c its, eq-eqb o.k o.k refl) refl

    stands : get_or ops o.k no_op ≡ o
    stands = ops_first o.k number_low ∙ ap (λ (x : Option Op). unwrap_or x no_op) (found_at (is_number c o.k) order i no_op (once o.k number_low) low numbered_o)

    -- what all operations in program order have, each operation of the core has
    pub order_has : (P : Op → Type 0) → All P (program_order c order) → P o
    order_has P all = subst P stands (subst (All P) (sym ops_are) all o.k no_op (omega (arith, ops_long, number_low)))

-- the numbers read fit, in program order too
pub program_order_fits : (c : ℕ) (order : List Op) → OnceAtCore order c → ReadsFit order → ReadsFit (program_order c order)
program_order_fits c order once fit = program_order_have c order once (λ o. o.got < 2 ^ (8 * o.len)) (omega arith) fit
