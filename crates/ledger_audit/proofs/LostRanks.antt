-- The lost stores of a core are so many that follow one another, where as many other stores come before the first and before the last of
-- them.
use Rattle.std.proofs.Common.{◌≡◌, ◌∙◌, ◌+◌, ◌<◌, ◌≤◌, ◌==◌, ◌&&◌, ℕ, suc, Bool, true, false, not, List, [], ◌∷◌, length, map, filter, count_by, slice_get, refl, ap, inl, inr, Some, arith, if◌then◌else◌}
use Rattle.std.specs.Prelude.{nat_lt, nat_le}
use Rattle.std.specs.List.{range_with_len, zip}
use Rattle.std.proofs.lemmas.Bool.{cases_Bool, cases_lt, cases_order, ne_eqb, lt-ltb, le-ltb, lt-leb}
use Rattle.lf_model.specs.Course.Core.{is_store_kind, is_store}
use Rattle.lf_model.specs.Ledger.CoreAccount.{lost_reported}
use Rattle.lf_model.specs.Operation.{kind_is_lost, is_lost}
use Rattle.lf_model.specs.declared.bus.OpKind.{OpKind}
use Rattle.lf_model.specs.declared.bus.OpKind.TheVariants.{Load, Store, Atomic, Lost}
use Rattle.lf_model.specs.declared.trace.Op.{Op}
use Rattle.ledger_audit.proofs.ProgramCounts.{NumberedFrom, count_more, one_if}
use Rattle.ledger_audit.specs.LostStores.{kind_is_kept, is_kept}

-- the lost stores, counted among all stores from this number on
abbrev pub ranks : ℕ → List Op → List ℕ
ranks r [] = []
ranks r (o ∷ os) = if is_lost o then r ∷ ranks (r + 1) os else if is_kept o then ranks (r + 1) os else ranks r os

abbrev lost_from : ℕ → List Op → List ℕ
lost_from r stores = map (λ (o : ℕ × Op). o.0) (filter (λ (o : ℕ × Op). is_lost o.1) (zip (range_with_len r (length stores)) stores))

-- a store is lost, or reached memory
lost_is_store : (k : OpKind) → kind_is_lost k ≡ true → is_store_kind k ≡ true
lost_is_store Load e = absurd cc
lost_is_store Store e = refl
lost_is_store Atomic e = absurd cc
lost_is_store Lost e = refl

other_is_kept : (k : OpKind) → kind_is_lost k ≡ false → is_store_kind k ≡ kind_is_kept k
other_is_kept Load e = refl
other_is_kept Store e = refl
other_is_kept Atomic e = refl
other_is_kept Lost e = absurd cc

lost_not_kept : (k : OpKind) → kind_is_lost k ≡ true → kind_is_kept k ≡ false
lost_not_kept Load e = refl
lost_not_kept Store e = absurd cc
lost_not_kept Atomic e = refl
lost_not_kept Lost e = refl

lost_from_more : (r : ℕ) (o : Op) (stores : List Op) → lost_from r (o ∷ stores) ≡ (if is_lost o then r ∷ lost_from (r + 1) stores else lost_from (r + 1) stores)
lost_from_more r o stores = elim (cases_Bool (is_lost o)) [
  | inl is ↦ rw is refl
  | inr not_it ↦ rw not_it refl
]

ranks_from : (r : ℕ) (ops : List Op) → lost_from r (filter is_store ops) ≡ ranks r ops
ranks_from r [] = refl
ranks_from r (o ∷ os) = elim (cases_Bool (is_lost o)) [
  | inl is ↦
      let store = lost_is_store o.kind is in
      rw (store, is) (ap (λ (xs : List ℕ). r ∷ xs) (ranks_from (r + 1) os))
  | inr not_it ↦
      let kept = other_is_kept o.kind not_it in
      elim (cases_Bool (is_kept o)) [
        | inl is ↦ rw (kept, is, not_it) (ranks_from (r + 1) os)
        | inr neither ↦ rw (kept, neither, not_it) (ranks_from r os)
      ]
]

pub reported_ranks : (ops : List Op) → lost_reported (filter is_store ops) ≡ ranks 0 ops
reported_ranks ops = ranks_from 0 ops

-- ---- by how many there are

abbrev pub is_outside : ℕ → ℕ → Op → Bool
is_outside first last o = is_lost o && not (nat_le first o.k && nat_le o.k last)

abbrev pub is_kept_before : ℕ → Op → Bool
is_kept_before k o = is_kept o && nat_lt o.k k

abbrev pub is_lost_before : ℕ → Op → Bool
is_lost_before k o = is_lost o && nat_lt o.k k

abbrev pub is_lost_at : ℕ → Op → Bool
is_lost_at k o = is_lost o && o.k == k

pub length_ranks : (r : ℕ) (ops : List Op) → length (ranks r ops) ≡ count_by is_lost ops
length_ranks r [] = refl
length_ranks r (o ∷ os) =
    let more = count_more is_lost o os in
    elim (cases_Bool (is_lost o)) [
      | inl is ↦
          let here : one_if (is_lost o) ≡ 1 = rw is refl in
          let rest = length_ranks (r + 1) os in
          let long : length (ranks r (o ∷ os)) ≡ suc (length (ranks (r + 1) os)) = rw is refl in
          omega (arith, more, here, rest, long)
      | inr not_it ↦
          let here : one_if (is_lost o) ≡ 0 = rw not_it refl in
          elim (cases_Bool (is_kept o)) [
            | inl kept ↦
                let rest = length_ranks (r + 1) os in
                let long : length (ranks r (o ∷ os)) ≡ length (ranks (r + 1) os) = rw (not_it, kept) refl in
                omega (arith, more, here, rest, long)
            | inr neither ↦
                let rest = length_ranks r os in
                let long : length (ranks r (o ∷ os)) ≡ length (ranks r os) = rw (not_it, neither) refl in
                omega (arith, more, here, rest, long)
          ]
    ]

none_passes : (a b : Bool) → b ≡ false → one_if (a && b) ≡ 0
none_passes false b e = refl
none_passes true b e = rw e refl

-- none has a number before the first one's
none_before_start : (p : Op → Bool) (s k : ℕ) (ops : List Op) → NumberedFrom s ops → k ≤ s → count_by (λ o. p o && nat_lt o.k k) ops ≡ 0
none_before_start p s k [] numbered low = refl
none_before_start p s k (o ∷ os) numbered low =
    let more = count_more (λ u. p u && nat_lt u.k k) o os in
    let rest = none_before_start p (s + 1) k os numbered.1 (omega (arith, low)) in
    let here : one_if (p o && nat_lt o.k k) ≡ 0 = none_passes (p o) (nat_lt o.k k) (le-ltb o.k k (omega (arith, low, numbered.0))) in
    omega (arith, more, rest, here)

none_at_start : (p : Op → Bool) (s k : ℕ) (ops : List Op) → NumberedFrom s ops → k < s → count_by (λ o. p o && o.k == k) ops ≡ 0
none_at_start p s k [] numbered low = refl
none_at_start p s k (o ∷ os) numbered low =
    let more = count_more (λ u. p u && u.k == k) o os in
    let rest = none_at_start p (s + 1) k os numbered.1 (omega (arith, low)) in
    let here : one_if (p o && o.k == k) ≡ 0 = none_passes (p o) (o.k == k) (ne_eqb o.k k (λ e. absurd (omega (arith, e, low, numbered.0)))) in
    omega (arith, more, rest, here)

same_place : (xs ys : List ℕ) (n m v w : ℕ) → xs ≡ ys → n ≡ m → v ≡ w → slice_get ys m ≡ Some v → slice_get xs n ≡ Some w
same_place xs ys n m v w xs_are n_is v_is h = ap (λ zs. slice_get zs n) xs_are ∙ (ap (λ (i : ℕ). slice_get ys i) n_is ∙ (h ∙ ap (λ (i : ℕ). Some i) v_is))

-- a lost store has the number of the stores before it
pub rank_at : (r s k : ℕ) (ops : List Op) → NumberedFrom s ops → 1 ≤ count_by (is_lost_at k) ops
    → slice_get (ranks r ops) (count_by (is_lost_before k) ops) ≡ Some (r + count_by (is_lost_before k) ops + count_by (is_kept_before k) ops)
rank_at r s k [] numbered some = absurd (omega (arith, some))
rank_at r s k (o ∷ os) numbered some =
    let at_k = count_more (is_lost_at k) o os in
    let lost = count_more (is_lost_before k) o os in
    let kept = count_more (is_kept_before k) o os in
    elim (cases_order s k) [
      | inl at_it ↦
          let none = none_at_start is_lost (s + 1) k os numbered.1 (omega (arith, at_it)) in
          let no_lost = none_before_start is_lost s k (o ∷ os) numbered (omega (arith, at_it)) in
          let no_kept = none_before_start is_kept s k (o ∷ os) numbered (omega (arith, at_it)) in
          elim (cases_Bool (is_lost o)) [
            | inl is ↦
                let first : ranks r (o ∷ os) ≡ r ∷ ranks (r + 1) os = rw is refl in
                same_place (ranks r (o ∷ os)) (r ∷ ranks (r + 1) os) _ 0 r _ first no_lost (omega (arith, no_lost, no_kept)) refl
            | inr not_it ↦
                let here : one_if (is_lost_at k o) ≡ 0 = rw not_it refl in
                absurd (omega (arith, some, at_k, none, here))
          ]
      | inr (inl before) ↦
          let is_before : nat_lt o.k k ≡ true = lt-ltb o.k k (omega (arith, before, numbered.0)) in
          let not_at : (o.k == k) ≡ false = ne_eqb o.k k (λ e. absurd (omega (arith, e, before, numbered.0))) in
          elim (cases_Bool (is_lost o)) [
            | inl is ↦
                let not_kept = lost_not_kept o.kind is in
                let here : one_if (is_lost_at k o) ≡ 0 = rw (is, not_at) refl in
                let one : one_if (is_lost_before k o) ≡ 1 = rw (is, is_before) refl in
                let none : one_if (is_kept_before k o) ≡ 0 = rw not_kept refl in
                let rest = rank_at (r + 1) (s + 1) k os numbered.1 (omega (arith, some, at_k, here)) in
                let first : ranks r (o ∷ os) ≡ r ∷ ranks (r + 1) os = rw is refl in
                same_place (ranks r (o ∷ os)) (r ∷ ranks (r + 1) os) _ (suc (count_by (is_lost_before k) os)) _ _ first (omega (arith, lost, one)) (omega (arith, lost, one, kept, none)) rest
            | inr not_it ↦
                let here : one_if (is_lost_at k o) ≡ 0 = rw not_it refl in
                let none : one_if (is_lost_before k o) ≡ 0 = rw not_it refl in
                elim (cases_Bool (is_kept o)) [
                  | inl is ↦
                      let one : one_if (is_kept_before k o) ≡ 1 = rw (is, is_before) refl in
                      let rest = rank_at (r + 1) (s + 1) k os numbered.1 (omega (arith, some, at_k, here)) in
                      let first : ranks r (o ∷ os) ≡ ranks (r + 1) os = rw (not_it, is) refl in
                      same_place (ranks r (o ∷ os)) (ranks (r + 1) os) _ (count_by (is_lost_before k) os) _ _ first (omega (arith, lost, none)) (omega (arith, lost, none, kept, one)) rest
                  | inr neither ↦
                      let no_more : one_if (is_kept_before k o) ≡ 0 = rw neither refl in
                      let rest = rank_at r (s + 1) k os numbered.1 (omega (arith, some, at_k, here)) in
                      let first : ranks r (o ∷ os) ≡ ranks r os = rw (not_it, neither) refl in
                      same_place (ranks r (o ∷ os)) (ranks r os) _ (count_by (is_lost_before k) os) _ _ first (omega (arith, lost, none)) (omega (arith, lost, none, kept, no_more)) rest
                ]
          ]
      | inr (inr after) ↦ let none = none_at_start is_lost s k (o ∷ os) numbered after in absurd (omega (arith, some, none))
    ]

-- ---- that they follow one another

pub none_lost : (r : ℕ) (ops : List Op) → count_by is_lost ops ≡ 0 → ranks r ops ≡ []
none_lost r ops none = by_length (ranks r ops) (length_ranks r ops ∙ none)
  where
    by_length : (xs : List ℕ) → length xs ≡ 0 → xs ≡ []
    by_length [] e = refl
    by_length (x ∷ xs) e = absurd (omega (arith, e))

-- none is lost behind the last number
none_behind : (s first last : ℕ) (ops : List Op) → NumberedFrom s ops → last < s → count_by (is_outside first last) ops ≡ 0 → count_by is_lost ops ≡ 0
none_behind s first last [] numbered low inside = refl
none_behind s first last (o ∷ os) numbered low inside =
    let lost = count_more is_lost o os in
    let outside = count_more (is_outside first last) o os in
    let here : one_if (is_lost o) ≡ one_if (is_outside first last o) = behind (is_lost o) (nat_le first o.k) (nat_le o.k last) (lt-leb o.k last (omega (arith, low, numbered.0))) in
    let rest = none_behind (s + 1) first last os numbered.1 (omega (arith, low)) (omega (arith, inside, outside)) in
    omega (arith, lost, outside, here, rest, inside)
  where
    behind : (a b c : Bool) → c ≡ false → one_if a ≡ one_if (a && not (b && c))
    behind false b c e = refl
    behind true false c e = refl
    behind true true c e = rw e refl

row_more : (zs xs : List ℕ) (r x y n m : ℕ) → zs ≡ r ∷ xs → xs ≡ range_with_len y m → x ≡ r → y ≡ r + 1 → n ≡ suc m → zs ≡ range_with_len x n
row_more zs xs r x y n m zs_are xs_are x_is y_is n_is = rw (zs_are, xs_are, x_is, y_is, n_is) refl

row_same : (zs xs : List ℕ) (x y n m : ℕ) → zs ≡ xs → xs ≡ range_with_len y m → x ≡ y → n ≡ m → zs ≡ range_with_len x n
row_same zs xs x y n m zs_are xs_are x_is n_is = rw (zs_are, xs_are, x_is, n_is) refl

-- where none is outside two numbers, and no other store between them
pub in_a_row : (r s first last : ℕ) (ops : List Op) → NumberedFrom s ops → count_by (is_outside first last) ops ≡ 0 → count_by (is_kept_before first) ops ≡ count_by (is_kept_before last) ops
    → ranks r ops ≡ range_with_len (r + count_by (is_kept_before first) ops) (count_by is_lost ops)
in_a_row r s first last [] numbered inside same = refl
in_a_row r s first last (o ∷ os) numbered inside same =
    let lost = count_more is_lost o os in
    let outside = count_more (is_outside first last) o os in
    let to_first = count_more (is_kept_before first) o os in
    let to_last = count_more (is_kept_before last) o os in
    elim (cases_Bool (is_lost o)) [
      | inl is ↦
          let not_kept = lost_not_kept o.kind is in
          let one : one_if (is_lost o) ≡ 1 = rw is refl in
          let no_first : one_if (is_kept_before first o) ≡ 0 = rw not_kept refl in
          let no_last : one_if (is_kept_before last o) ≡ 0 = rw not_kept refl in
          let from : first ≤ s = elim (cases_lt s first) [
            | inl before ↦
                let out : one_if (is_outside first last o) ≡ 1 = rw (is, lt-leb first o.k (omega (arith, before, numbered.0))) refl in
                absurd (omega (arith, inside, outside, out))
            | inr after ↦ after
          ] in
          let none = none_before_start is_kept (s + 1) first os numbered.1 (omega (arith, from)) in
          let rest = in_a_row (r + 1) (s + 1) first last os numbered.1 (omega (arith, inside, outside)) (omega (arith, same, to_first, to_last, no_first, no_last)) in
          let zs : ranks r (o ∷ os) ≡ r ∷ ranks (r + 1) os = rw is refl in
          row_more (ranks r (o ∷ os)) (ranks (r + 1) os) r _ _ _ _ zs rest (omega (arith, to_first, no_first, none)) (omega (arith, none)) (omega (arith, lost, one))
      | inr not_it ↦
          let no_lost : one_if (is_lost o) ≡ 0 = rw not_it refl in
          elim (cases_Bool (is_kept o)) [
            | inl is ↦
                let zs : ranks r (o ∷ os) ≡ ranks (r + 1) os = rw (not_it, is) refl in
                elim (cases_lt s first) [
                  | inl before ↦
                      let one_first : one_if (is_kept_before first o) ≡ 1 = rw (is, lt-ltb o.k first (omega (arith, before, numbered.0))) refl in
                      elim (cases_lt s last) [
                        | inl too ↦
                            let one_last : one_if (is_kept_before last o) ≡ 1 = rw (is, lt-ltb o.k last (omega (arith, too, numbered.0))) refl in
                            let rest = in_a_row (r + 1) (s + 1) first last os numbered.1 (omega (arith, inside, outside)) (omega (arith, same, to_first, to_last, one_first, one_last)) in
                            row_same (ranks r (o ∷ os)) (ranks (r + 1) os) _ _ _ _ zs rest (omega (arith, to_first, one_first)) (omega (arith, lost, no_lost))
                        | inr past ↦
                            let none = none_before_start is_kept s last (o ∷ os) numbered past in
                            absurd (omega (arith, same, to_first, one_first, none))
                      ]
                  | inr after ↦
                      let none = none_before_start is_kept s first (o ∷ os) numbered after in
                      let past : last ≤ s = elim (cases_lt s last) [
                        | inl before ↦
                            let one_last : one_if (is_kept_before last o) ≡ 1 = rw (is, lt-ltb o.k last (omega (arith, before, numbered.0))) refl in
                            absurd (omega (arith, same, to_last, one_last, none))
                        | inr it ↦ it
                      ] in
                      let no_more = none_behind (s + 1) first last os numbered.1 (omega (arith, past)) (omega (arith, inside, outside)) in
                      row_same (ranks r (o ∷ os)) [] _ _ _ 0 (zs ∙ none_lost (r + 1) os no_more) refl refl (omega (arith, lost, no_lost, no_more))
                ]
            | inr neither ↦
                let no_first : one_if (is_kept_before first o) ≡ 0 = rw neither refl in
                let no_last : one_if (is_kept_before last o) ≡ 0 = rw neither refl in
                let zs : ranks r (o ∷ os) ≡ ranks r os = rw (not_it, neither) refl in
                let rest = in_a_row r (s + 1) first last os numbered.1 (omega (arith, inside, outside)) (omega (arith, same, to_first, to_last, no_first, no_last)) in
                row_same (ranks r (o ∷ os)) (ranks r os) _ _ _ _ zs rest (omega (arith, to_first, no_first)) (omega (arith, lost, no_lost))
          ]
    ]
