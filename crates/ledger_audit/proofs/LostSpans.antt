-- The lost stores of a core, and the stores before them, as they are counted along an order, tell which of its stores are reported as lost.
use Rattle.std.proofs.Common.{◌≡◌, ◌∙◌, ◌+◌, ◌^◌, ◌<◌, ◌≤◌, ◌==◌, ◌&&◌, ℕ, zero, suc, Bool, true, false, not, List, [], ◌∷◌, length, drop, filter, count_by, slice_get, refl, ap, ap₂, sym, subst, inl, inr, Option, Some, None, arith, add-one}
use Rattle.std.specs.Int.{from_bool}
use Rattle.std.specs.Prelude.{nat_lt, nat_le, min, max}
use Rattle.std.specs.List.{range_with_len}
use Rattle.std.proofs.Math.Nat.{min-eq_left, min-eq_right, max-eq_left, max-eq_right}
use Rattle.std.proofs.lemmas.Bool.{cases_Bool, cases_eq, cases_lt, and_parts, eq-eqb, le-leb, leb-true}
use Rattle.std.proofs.lemmas.List.FromFn.{length-range_with_len}
use Rattle.std.proofs.lemmas.List.{length-drop}
use Rattle.std.proofs.lemmas.List.Sums.{count_by-le-length}
use Rattle.std.proofs.lemmas.Option.{same_Some}
use Rattle.lf_model.specs.Course.Core.{is_store}
use Rattle.lf_model.specs.Ledger.CoreAccount.{lost_reported}
use Rattle.lf_model.specs.Once.{OnceAtCore}
use Rattle.lf_model.specs.Operation.{of_core, is_lost}
use Rattle.lf_model.specs.ProgramOrder.{program_order}
use Rattle.lf_model.specs.declared.trace.Op.{Op}
use Rattle.ledger_audit.proofs.LostRanks.{ranks, reported_ranks, rank_at, in_a_row, none_lost, length_ranks, is_outside, is_kept_before, is_lost_before, is_lost_at}
use Rattle.ledger_audit.proofs.ProgramCounts.{count_more, one_if, program_count, program_numbered}
use Rattle.ledger_audit.specs.LostStores.{is_kept, lost_with, none_before, lost_of, before_of}
use Rattle.ledger_audit.specs.declared.lost.Before.{Before}
use Rattle.ledger_audit.specs.declared.lost.Lost.{Lost}

from_if : (b : Bool) → one_if b ≡ from_bool b
from_if false = refl
from_if true = refl

-- a test that follows from another
count_mono : (p q : Op → Bool) → ((o : Op) → p o ≡ true → q o ≡ true) → (os : List Op) → count_by p os ≤ count_by q os
count_mono p q weaker [] = omega arith
count_mono p q weaker (o ∷ os) =
    let strong = count_more p o os in
    let weak = count_more q o os in
    let rest = count_mono p q weaker os in
    let here = both (p o) (q o) (weaker o) in
    omega (arith, strong, weak, rest, here)
  where
    both : (a b : Bool) → (a ≡ true → b ≡ true) → one_if a ≤ one_if b
    both false b h = omega arith
    both true b h = rw (h refl) (omega arith)

module _ (c : ℕ) where
  abbrev own : (Op → Bool) → Op → Bool
  own p o = of_core c o && p o

  -- the numbers of the lost stores of the core among these operations
  pub record IsSpan (os : List Op) (l : Lost) : Type 0 where
    pub count : l.count ≡ count_by (own is_lost) os
    pub inside : count_by (own (is_outside l.first l.last)) os ≡ 0
    pub first : 1 ≤ count_by (own (is_lost_at l.first)) os
    pub last : 1 ≤ count_by (own (is_lost_at l.last)) os

  abbrev pub HasSpan : List Op → Option Lost → Type 0
  HasSpan os None = count_by (own is_lost) os ≡ 0
  HasSpan os (Some l) = IsSpan os l

  -- a test that only lost stores pass
  none_here : (p : Op → Bool) (o : Op) → (p o ≡ true → is_lost o ≡ true) → own is_lost o ≡ false → one_if (own p o) ≡ 0
  none_here p o lost fails = by_tests (of_core c o) (p o) (is_lost o) lost fails
    where
      by_tests : (a b l : Bool) → (b ≡ true → l ≡ true) → (a && l) ≡ false → one_if (a && b) ≡ 0
      by_tests false b l h e = refl
      by_tests true false l h e = refl
      by_tests true true l h e = let t = h refl in absurd cc

  is_first : (a b : Bool) → (a && b) ≡ true → a ≡ true
  is_first a b h = (and_parts a b h).0

  module _ (o : Op) (os : List Op) where
    kept_span : (l : Option Lost) → own is_lost o ≡ false → HasSpan os l → HasSpan (o ∷ os) l
    kept_span None fails h =
        let lost = count_more (own is_lost) o os in
        let here = none_here is_lost o (λ e. e) fails in
        omega (arith, lost, here, h)
    kept_span (Some l) fails h =
        let lost = count_more (own is_lost) o os in
        let outside = count_more (own (is_outside l.first l.last)) o os in
        let at_first = count_more (own (is_lost_at l.first)) o os in
        let at_last = count_more (own (is_lost_at l.last)) o os in
        let no_lost = none_here is_lost o (λ e. e) fails in
        let no_outside = none_here (is_outside l.first l.last) o (is_first (is_lost o) (not (nat_le l.first o.k && nat_le o.k l.last))) fails in
        let no_first = none_here (is_lost_at l.first) o (is_first (is_lost o) (o.k == l.first)) fails in
        let no_last = none_here (is_lost_at l.last) o (is_first (is_lost o) (o.k == l.last)) fails in
        record {
          count = omega (arith, lost, no_lost, h.count);
          inside = omega (arith, outside, no_outside, h.inside);
          first = omega (arith, at_first, no_first, h.first);
          last = omega (arith, at_last, no_last, h.last);
        }

    module _ (is : own is_lost o ≡ true) where
      core_is : of_core c o ≡ true
      core_is = (and_parts (of_core c o) (is_lost o) is).0

      lost_is : is_lost o ≡ true
      lost_is = (and_parts (of_core c o) (is_lost o) is).1

      one_here : one_if (own is_lost o) ≡ 1
      one_here = rw is refl

      inside_here : (first last : ℕ) → first ≤ o.k → o.k ≤ last → one_if (own (is_outside first last) o) ≡ 0
      inside_here first last low high = rw (core_is, lost_is, le-leb first o.k low, le-leb o.k last high) refl

      at_here : (k : ℕ) → k ≡ o.k → one_if (own (is_lost_at k) o) ≡ 1
      at_here k e = rw (core_is, lost_is, eq-eqb o.k k (sym e)) refl

      first_span : HasSpan os None → IsSpan (o ∷ os) (record { count = 1; first = o.k; last = o.k })
      first_span none =
          let lost = count_more (own is_lost) o os in
          let outside = count_more (own (is_outside o.k o.k)) o os in
          let at_it = count_more (own (is_lost_at o.k)) o os in
          let here = inside_here o.k o.k (omega arith) (omega arith) in
          let one = at_here o.k refl in
          let few = count_mono (own (is_outside o.k o.k)) (own is_lost) (λ u. weaker (of_core c u) (is_lost u) (not (nat_le o.k u.k && nat_le u.k o.k))) os in
          record {
            count = omega (arith, lost, one_here, none);
            inside = omega (arith, outside, here, few, none);
            first = omega (arith, at_it, one);
            last = omega (arith, at_it, one);
          }
        where
          weaker : (a b x : Bool) → (a && (b && x)) ≡ true → (a && b) ≡ true
          weaker false b x e = e
          weaker true false x e = e
          weaker true true x e = refl

      -- from a number that is the first before, or this one's, to a number that is the last before, or this one's
      module _ (l : Lost) (h : IsSpan os l) (first last : ℕ) (first_low : first ≤ l.first) (first_here : first ≤ o.k) (last_high : l.last ≤ last) (last_here : o.k ≤ last)
          (first_is : (first ≡ o.k → ⊥) → first ≡ l.first) (last_is : (last ≡ o.k → ⊥) → last ≡ l.last) where
        some_at : (k old : ℕ) → ((k ≡ o.k → ⊥) → k ≡ old) → 1 ≤ count_by (own (is_lost_at old)) os → 1 ≤ count_by (own (is_lost_at k)) (o ∷ os)
        some_at k old is_old some =
            let more = count_more (own (is_lost_at k)) o os in
            elim (cases_eq k o.k) [
              | inl here ↦ let one = at_here k here in omega (arith, more, one)
              | inr not_here ↦
                  let same = ap (λ (n : ℕ). count_by (own (is_lost_at n)) os) (is_old not_here) in
                  omega (arith, more, same, some)
            ]

        later_span : IsSpan (o ∷ os) (record { count = l.count + 1; first = first; last = last })
        later_span =
            let lost = count_more (own is_lost) o os in
            let outside = count_more (own (is_outside first last)) o os in
            let here = inside_here first last first_here last_here in
            let few = count_mono (own (is_outside first last)) (own (is_outside l.first l.last))
            (λ u. weaker (of_core c u) (is_lost u) (nat_le l.first u.k && nat_le u.k l.last) (nat_le first u.k && nat_le u.k last) (wider u)) os in
            record {
              count = omega (arith, lost, one_here, h.count);
              inside = omega (arith, outside, here, few, h.inside);
              first = some_at first l.first first_is h.first;
              last = some_at last l.last last_is h.last;
            }
          where
            wider : (u : Op) → (nat_le l.first u.k && nat_le u.k l.last) ≡ true → (nat_le first u.k && nat_le u.k last) ≡ true
            wider u e =
                let parts = and_parts (nat_le l.first u.k) (nat_le u.k l.last) e in
                rw (le-leb first u.k (omega (arith, first_low, leb-true l.first u.k parts.0)), le-leb u.k last (omega (arith, last_high, leb-true u.k l.last parts.1))) refl

            weaker : (a b x y : Bool) → (x ≡ true → y ≡ true) → (a && (b && not y)) ≡ true → (a && (b && not x)) ≡ true
            weaker false b x y h e = e
            weaker true false x y h e = e
            weaker true true false y h e = refl
            weaker true true true y h e = let t = h refl in absurd cc

      with_span : (l : Option Lost) → HasSpan os l → IsSpan (o ∷ os) (lost_with l o.k)
      with_span None h = first_span h
      with_span (Some l) h = later_span l h (min l.first o.k) (max l.last o.k) (omega arith) (omega arith) (omega arith) (omega arith) least greatest
        where
          least : (min l.first o.k ≡ o.k → ⊥) → min l.first o.k ≡ l.first
          least other = elim (cases_lt l.first o.k) [
            | inl less ↦ min-eq_left (omega (arith, less))
            | inr more ↦ absurd (other (min-eq_right more))
          ]

          greatest : (max l.last o.k ≡ o.k → ⊥) → max l.last o.k ≡ l.last
          greatest other = elim (cases_lt o.k l.last) [
            | inl less ↦ max-eq_left (omega (arith, less))
            | inr more ↦ absurd (other (max-eq_right more))
          ]

  pub has_span : (os : List Op) → HasSpan os (lost_of c os)
  has_span [] = refl
  has_span (o ∷ os) = elim (cases_Bool (own is_lost o)) [
    | inl is ↦ rw is (with_span o os is (lost_of c os) (has_span os))
    | inr fails ↦ rw fails (kept_span o os (lost_of c os) fails (has_span os))
  ]

  -- ---- the stores before them

  pub record AreBefore (l : Lost) (os : List Op) (b : Before) : Type 0 where
    pub first : b.first ≡ count_by (own (is_kept_before l.first)) os
    pub last : b.last ≡ count_by (own (is_kept_before l.last)) os

  pub are_before : (l : Lost) (os : List Op) → AreBefore l os (before_of c (Some l) os)
  are_before l [] = record { first = refl; last = refl }
  are_before l (o ∷ os) =
      let rest = are_before l os in
      let to_first = count_more (own (is_kept_before l.first)) o os in
      let to_last = count_more (own (is_kept_before l.last)) o os in
      elim (cases_Bool (own is_kept o)) [
        | inl is ↦
            let parts = and_parts (of_core c o) (is_kept o) is in
            let here_first : one_if (own (is_kept_before l.first) o) ≡ from_bool (nat_lt o.k l.first) = rw (parts.0, parts.1) (from_if (nat_lt o.k l.first)) in
            let here_last : one_if (own (is_kept_before l.last) o) ≡ from_bool (nat_lt o.k l.last) = rw (parts.0, parts.1) (from_if (nat_lt o.k l.last)) in
            rw is (record { first = omega (arith, rest.first, to_first, here_first); last = omega (arith, rest.last, to_last, here_last) })
        | inr fails ↦
            let no_first : one_if (own (is_kept_before l.first) o) ≡ 0 = none_kept (of_core c o) (is_kept o) (nat_lt o.k l.first) fails in
            let no_last : one_if (own (is_kept_before l.last) o) ≡ 0 = none_kept (of_core c o) (is_kept o) (nat_lt o.k l.last) fails in
            rw fails (record { first = omega (arith, rest.first, to_first, no_first); last = omega (arith, rest.last, to_last, no_last) })
      ]
    where
      none_kept : (a b x : Bool) → (a && b) ≡ false → one_if (a && (b && x)) ≡ 0
      none_kept false b x e = refl
      none_kept true false x e = refl
      none_kept true true x e = absurd cc

-- ---- none is counted twice

pub few_lost : (c : ℕ) (os : List Op) (l : Lost) → lost_of c os ≡ Some l → l.count ≤ length os
few_lost c os l is =
    let span : IsSpan c os l = subst (HasSpan c os) is (has_span c os) in
    let few = count_by-le-length (own c is_lost) os in
    omega (arith, span.count, few)

before_none : (c : ℕ) (os : List Op) → before_of c None os ≡ none_before
before_none c [] = refl
before_none c (o ∷ os) = elim (cases_Bool (own c is_kept o)) [
  | inl is ↦ rw is (before_none c os)
  | inr fails ↦ rw fails (before_none c os)
]

few_before : (c : ℕ) (lost : Option Lost) (os : List Op) → ((before_of c lost os).first ≤ length os) × ((before_of c lost os).last ≤ length os)
few_before c None os = rw (before_none c os) (omega arith, omega arith)
few_before c (Some l) os =
    let are = are_before c l os in
    let to_first = count_by-le-length (own c (is_kept_before l.first)) os in
    let to_last = count_by-le-length (own c (is_kept_before l.last)) os in
    (omega (arith, are.first, to_first), omega (arith, are.last, to_last))

-- one more can be counted while operations are left
pub can_count : (c : ℕ) (lost : Option Lost) (order : List Op) (place : ℕ) (b : Before) → b ≡ before_of c lost (drop place order) → 0 < place → place ≤ length order → length order < 2 ^ 32
    → (b.first + 1 < 2 ^ 32) × (b.last + 1 < 2 ^ 32)
can_count c lost order place b is left within short =
    let few = few_before c lost (drop place order) in
    let long = length-drop place order in
    (omega (arith, ap (λ (x : Before). x.first) is, few.0, long, left, within, short), omega (arith, ap (λ (x : Before). x.last) is, few.1, long, left, within, short))

-- ---- what is reported

range_at : (n len i x : ℕ) → slice_get (range_with_len n len) i ≡ Some x → x ≡ n + i
range_at n zero i x e = absurd cc
range_at n (suc len) zero x e = omega (arith, same_Some _ _ e)
range_at n (suc len) (suc i) x e = omega (arith, range_at (n + 1) len i x e, add-one i)

module _ (c : ℕ) (order : List Op) (once : OnceAtCore order c) where
  abbrev ops : List Op
  ops = program_order c order

  abbrev pub reported : List ℕ
  reported = lost_reported (filter is_store ops)

  counted : (p : Op → Bool) → count_by p ops ≡ count_by (own c p) order
  counted = program_count c order once

  long : length (ranks 0 ops) ≡ count_by (own c is_lost) order
  long = length_ranks 0 ops ∙ counted is_lost

  same_length : (first count : ℕ) → range_with_len first count ≡ reported → count ≡ count_by (own c is_lost) order
  same_length first count same =
      sym (length-range_with_len first count) ∙ (ap (λ (xs : List ℕ). length xs) (same ∙ reported_ranks ops) ∙ long)

  module _ (none : lost_of c order ≡ None) where
    no_lost : count_by (own c is_lost) order ≡ 0
    no_lost = subst (HasSpan c order) none (has_span c order)

    pub none_right : (first count : ℕ) → count ≡ 0 → range_with_len first count ≡ reported
    none_right first count none_given =
        ap (range_with_len first) none_given ∙ sym (reported_ranks ops ∙ none_lost 0 ops (counted is_lost ∙ no_lost))

    pub none_wrong : (first count : ℕ) → range_with_len first count ≡ reported → count ≡ 0
    none_wrong first count same = same_length first count same ∙ no_lost

  module _ (l : Lost) (some : lost_of c order ≡ Some l) (b : Before) (before : b ≡ before_of c (lost_of c order) order) where
    span : IsSpan c order l
    span = subst (HasSpan c order) some (has_span c order)

    are : AreBefore c l order b
    are = subst (AreBefore c l order) (sym (before ∙ ap (λ (o : Option Lost). before_of c o order) some)) (are_before c l order)

    pub some_right : (first count : ℕ) → l.count ≡ count → b.first ≡ first → b.last ≡ first → range_with_len first count ≡ reported
    some_right first count count_is first_is last_is =
        let to_first = counted (is_kept_before l.first) in
        let to_last = counted (is_kept_before l.last) in
        let row = in_a_row 0 0 l.first l.last ops (program_numbered c order once) (counted (is_outside l.first l.last) ∙ span.inside) (omega (arith, to_first, to_last, are.first, are.last, first_is, last_is)) in
        let starts : 0 + count_by (is_kept_before l.first) ops ≡ first = omega (arith, to_first, are.first, first_is) in
        let many : count_by is_lost ops ≡ count = counted is_lost ∙ (sym span.count ∙ count_is) in
        sym (reported_ranks ops ∙ (row ∙ ap₂ range_with_len starts many))

    -- the store at a number that is lost
    first_at : (first count k : ℕ) → range_with_len first count ≡ reported → 1 ≤ count_by (own c (is_lost_at k)) order → count_by (own c (is_kept_before k)) order ≡ first
    first_at first count k same some_lost =
        let here = rank_at 0 0 k ops (program_numbered c order once) (omega (arith, counted (is_lost_at k), some_lost)) in
        let place = range_at first count (count_by (is_lost_before k) ops) _ (ap (λ (xs : List ℕ). slice_get xs (count_by (is_lost_before k) ops)) (same ∙ reported_ranks ops) ∙ here) in
        omega (arith, place, counted (is_kept_before k))

    pub some_wrong : (first count : ℕ) → range_with_len first count ≡ reported → (l.count ≡ count) × (b.first ≡ first) × (b.last ≡ first)
    some_wrong first count same = (
      span.count ∙ sym (same_length first count same),
      are.first ∙ first_at first count l.first same span.first,
      are.last ∙ first_at first count l.last same span.last,
    )
