-- The plan of a script: its strikes, in the order of times, and those that are due.
use Rattle.std.proofs.Common.{◌≡◌, ℕ, ◌+◌, ◌<◌, ◌≤◌, Bool, true, false, cond, nat_eq, List, [], ◌∷◌, ◌++◌, length, map, drop, slice_index_or, refl, sym, ap, ◌∙◌, arith}
use Rattle.std.specs.Prelude.{filter, All}
use Rattle.std.specs.List.{range_with_len, zip}
use Rattle.std.specs.List.Sorted.{IsStableByKey, IsSortedByKey, ties}
use Rattle.std.specs.Ordering.{is_lt, nat_cmp}
use Rattle.std.proofs.lemmas.Bool.{eq-eqb, ne_eqb}
use Rattle.std.proofs.lemmas.Bool.Decides.{nat_tests}
use Rattle.std.proofs.lemmas.List.{get_or_default, get_or-drop, length-drop, append-nil}
use Rattle.std.proofs.lemmas.List.Elements.{All-cons, All-nil, All-head, All-tail, filter-append, filter_agree}
use Rattle.std.proofs.lemmas.List.Sorted.{IsNonDecreasingBy-from_sort}
use Rattle.lf_model.specs.declared.flip.Flip.{Flip}
use Rattle.flip_ledger.specs.Pending.{IsByTime}
use Rattle.flip_ledger.specs.Plan.{is_of, strike_of, strikes_of, is_at, due_at, IsPlanned}
use Rattle.flip_ledger.specs.declared.plan.Owner.{Owner}
use Rattle.flip_ledger.specs.declared.plan.Strike.{Strike}
use Rattle.flip_ledger.specs.declared.plan.Target.TheVariants.{Word}

-- ---- the strikes of a script, flip by flip

abbrev pub strikes_from : Owner → ℕ → List Flip → List Strike
strikes_from owner number [] = []
strikes_from owner number (flip ∷ flips) = cond (is_of owner flip) (strike_of (number, flip) ∷ strikes_from owner (number + 1) flips) (strikes_from owner (number + 1) flips)

map_kept : (b : Bool) (flip : ℕ × Flip) (rest : List (ℕ × Flip)) (strikes : List Strike) → strikes ≡ map strike_of rest
    → cond b (strike_of flip ∷ strikes) strikes ≡ map strike_of (cond b (flip ∷ rest) rest)
map_kept true flip rest strikes is = ap (λ (xs : List Strike). strike_of flip ∷ xs) is
map_kept false flip rest strikes is = is

pub strikes_numbered : (owner : Owner) (number : ℕ) (flips : List Flip)
    → strikes_from owner number flips ≡ map strike_of (filter (λ (flip : ℕ × Flip). is_of owner flip.1) (zip (range_with_len number (length flips)) flips))
strikes_numbered owner number [] = refl
strikes_numbered owner number (flip ∷ flips) =
    map_kept (is_of owner flip) (number, flip) (filter (λ (f : ℕ × Flip). is_of owner f.1) (zip (range_with_len (number + 1) (length flips)) flips))
    (strikes_from owner (number + 1) flips) (strikes_numbered owner (number + 1) flips)

-- ---- the plan

-- the order of times ties where times are equal
ties_time : (a b : ℕ) → ties (λ (x y : ℕ). is_lt (nat_cmp x y)) a b ≡ nat_eq b a
ties_time a b = grind (arith, nat_tests)

pub planned : (owner : Owner) (script : List Flip) (strikes plan : List Strike) → strikes ≡ strikes_of owner script → IsStableByKey (λ (s : Strike). s.at) nat_cmp strikes plan
    → IsPlanned owner script 0 plan
planned owner script strikes plan is stable = record {
  due = λ t le.
      filter_agree (is_at t) (λ (s : Strike). ties (λ (x y : ℕ). is_lt (nat_cmp x y)) t s.at) (λ s. sym (ties_time t s.at)) plan
      ∙ stable (at_time t)
      ∙ filter_agree (λ (s : Strike). ties (λ (x y : ℕ). is_lt (nat_cmp x y)) t s.at) (is_at t) (λ s. ties_time t s.at) strikes
      ∙ ap (filter (is_at t)) is;
  others = λ k none lt. omega arith;
}
  where
    at_time : ℕ → Strike
    at_time t = record { at = t; number = 0; target = Word 0; bit = 0 }

pub by_time : (plan : List Strike) → IsSortedByKey (λ (s : Strike). s.at) nat_cmp plan → IsByTime plan
by_time plan sorted i j none le lt = IsNonDecreasingBy-from_sort (λ (s : Strike). s.at) plan sorted i j none le lt

-- where the next strike is of a later time, all are
pub none_due : (strikes : List Strike) (next at : ℕ) (d : Strike) → IsByTime strikes → (next < length strikes → at < (slice_index_or strikes next d).at) → All (λ (s : Strike). at < s.at) (drop next strikes)
none_due strikes next at d sorted later k none lt =
    let within : next + k < length strikes = omega (arith, lt, length-drop next strikes) in
    let first : next < length strikes = omega (arith, within) in
    let there : (slice_index_or strikes next d).at ≡ (slice_index_or strikes next none).at = ap (λ (s : Strike). s.at) (get_or_default strikes next d none first) in
    let up : (slice_index_or strikes next none).at ≤ (slice_index_or strikes (next + k) none).at = sorted next (next + k) none (omega arith) within in
    rw (get_or-drop next strikes k none) (omega (arith, later first, there, up))

-- ---- what a plan gives, step by step or turn by turn

-- a filter of elements all of which pass, and none of which do
filter_all : (p : Strike → Bool) (xs : List Strike) → All (λ x. p x ≡ true) xs → filter p xs ≡ xs
filter_all p [] all = refl
filter_all p (x ∷ xs) all =
    ap (λ (b : Bool). cond b (x ∷ filter p xs) (filter p xs)) (All-head (λ x. p x ≡ true) x xs all)
    ∙ ap (λ (rest : List Strike). x ∷ rest) (filter_all p xs (All-tail (λ x. p x ≡ true) x xs all))

filter_none : (p : Strike → Bool) (xs : List Strike) → All (λ x. p x ≡ false) xs → filter p xs ≡ []
filter_none p [] none = refl
filter_none p (x ∷ xs) none =
    ap (λ (b : Bool). cond b (x ∷ filter p xs) (filter p xs)) (All-head (λ x. p x ≡ false) x xs none) ∙ filter_none p xs (All-tail (λ x. p x ≡ false) x xs none)

All_left : (P : Strike → Type 0) (xs ys : List Strike) → All P (xs ++ ys) → All P xs
All_left P [] ys all = All-nil P
All_left P (x ∷ xs) ys all = All-cons P x xs (All-head P x (xs ++ ys) all) (All_left P xs ys (All-tail P x (xs ++ ys) all))

-- The strikes that a plan gave at a time, up to that at which all others are later, are those of the script, in its order; the
-- others are the plan of the next time.
pub given : (owner : Owner) (script : List Flip) (at : ℕ) (run rest : List Strike) → IsPlanned owner script at (run ++ rest) → All (λ (s : Strike). s.at ≤ at) run → All (λ (s : Strike). at < s.at) rest
    → run ≡ due_at at (strikes_of owner script)
given owner script at run rest plan early late =
    let from : All (λ (s : Strike). at ≤ s.at) run = All_left (λ (s : Strike). at ≤ s.at) run rest plan.others in
    let now : due_at at run ≡ run = filter_all (is_at at) run (λ k none lt. eq-eqb (slice_index_or run k none).at at (omega (arith, early k none lt, from k none lt))) in
    let later : due_at at rest ≡ [] = filter_none (is_at at) rest (λ k none lt. ne_eqb (slice_index_or rest k none).at at (λ e. absurd (omega (arith, e, late k none lt)))) in
    sym
    (sym (plan.due at (omega arith))
    ∙ filter-append (is_at at) run rest
    ∙ ap (λ (xs : List Strike). xs ++ due_at at rest) now
    ∙ ap (λ (xs : List Strike). run ++ xs) later
    ∙ append-nil run)

pub planned_next : (owner : Owner) (script : List Flip) (at : ℕ) (run rest : List Strike) → IsPlanned owner script at (run ++ rest) → All (λ (s : Strike). s.at ≤ at) run → All (λ (s : Strike). at < s.at) rest
    → IsPlanned owner script (at + 1) rest
planned_next owner script at run rest plan early late = record {
  due = λ t le.
      let gone : due_at t run ≡ [] = filter_none (is_at t) run (λ k none lt. ne_eqb (slice_index_or run k none).at t (λ e. absurd (omega (arith, e, le, early k none lt)))) in
      sym (filter-append (is_at t) run rest ∙ ap (λ (xs : List Strike). xs ++ due_at t rest) gone) ∙ plan.due t (omega (arith, le));
  others = λ k none lt. omega (arith, late k none lt);
}
