-- A core's operations in the order, by their numbers, are those of its record.
use Rattle.std.proofs.Common.{◌≡◌, ◌∙◌, ◌+◌, ◌<◌, ◌==◌, ◌++◌, ℕ, suc, Bool, true, List, [], ◌∷◌, length, slice_get, Option, Some, refl, ap, sym, subst, inl, inr, arith, add-one}
use Rattle.std.proofs.lemmas.Bool.{cases_Bool, and_parts, eqb-true}
use Rattle.std.specs.List.{find, filter_map, range_with_len}
use Rattle.std.specs.List.{AllByRecursion as Each}
use Rattle.lf_model.proofs.EachLemmas.{each_append}
use Rattle.lf_model.specs.ProgramOrder.{numbered, program_order}
use Rattle.lf_model.specs.Once.{is_number}
use Rattle.lf_model.specs.Operation.{of_core, enters}
use Rattle.lf_model.specs.declared.record.CoreRecord.{CoreRecord}
use Rattle.lf_model.specs.declared.trace.Op.{Op}
use Rattle.run_trace.specs.Order.{chosen, is_load_at, is_lost_in, loads_at, woven}
use Rattle.run_trace.proofs.Counts.{number_of, one_number, core_number, order_number}
use Rattle.run_trace.proofs.Cores.{own_chosen}
use Rattle.run_trace.proofs.Lists.{each_filter, each_of}
use Rattle.run_trace.proofs.Members.{AreTogether, OfCore}
use Rattle.run_trace.proofs.Numbers.{at_number}
use Rattle.run_trace.proofs.Woven.{each_woven}

-- an element that is found, with what holds of each
pub record FoundOne (P : Op → Type 0) (p : Op → Bool) (xs : List Op) : Type 0 where
  pub one : Op
  pub found : find p xs ≡ Some one
  pub passes : p one ≡ true
  pub holds : P one

pub find_one : (P : Op → Type 0) (p : Op → Bool) (xs : List Op) → Each P xs → 1 ≡ number_of p xs → FoundOne P p xs
find_one P p [] h e = absurd (omega (arith, e))
find_one P p (x ∷ xs) h e = elim (cases_Bool (p x)) [
  | inl is ↦ record { one = x; found = rw is refl; passes = is; holds = h.0 }
  | inr not ↦ let rest = find_one P p xs h.1 (rw not at e) in record { one = rest.one; found = rw not rest.found; passes = rest.passes; holds = rest.holds }
]

-- a list by its places
pub listed : (g : ℕ → Option Op) (s : ℕ) (os : List Op) → ((j i : ℕ) → i ≡ s + j → j < length os → g i ≡ slice_get os j) → filter_map g (range_with_len s (length os)) ≡ os
listed g s [] h = refl
listed g s (o ∷ os) h =
    let first : g s ≡ Some o = h 0 s (omega arith) (omega (arith, add-one (length os))) in
    rw first (ap (λ (xs : List Op). o ∷ xs) (listed g (s + 1) os (λ j i e within. h (suc j) i (omega (arith, e, add-one j)) (omega (arith, within, add-one j, add-one (length os))))))

module _ (initial : ℕ → ℕ) (records : List CoreRecord) (log : List Op) (h : AreTogether initial records log) (r : Op) (kept : CoreRecord) (m : OfCore initial records log h r kept) where
  abbrev order : List Op
  order = woven (loads_at records) 0 log ++ chosen is_lost_in records

  -- an operation of the core is at its number in the record
  abbrev IsKept : Op → Type 0
  IsKept o = of_core r.core o ≡ true → slice_get kept.ops o.k ≡ Some o

  kept_chosen : (t : CoreRecord → Op → Bool) → Each IsKept (chosen t records)
  kept_chosen t = each_of (λ (o : Op). slice_get kept.ops o.k ≡ Some o) (of_core r.core) (chosen t records)
      (subst (λ (os : List Op). Each (λ (o : Op). slice_get kept.ops o.k ≡ Some o) os) (sym (own_chosen t 0 r.core r.core records (omega arith) kept m.found h.own))
      (each_filter (λ (o : Op). slice_get kept.ops o.k ≡ Some o) (t kept) kept.ops (at_number kept.ops m.numbered)))

  kept_log : Each IsKept log
  kept_log = each_of (λ (o : Op). slice_get kept.ops o.k ≡ Some o) (of_core r.core) log
      (subst (λ (os : List Op). Each (λ (o : Op). slice_get kept.ops o.k ≡ Some o) os) (sym m.entries)
      (each_filter (λ (o : Op). slice_get kept.ops o.k ≡ Some o) enters kept.ops (at_number kept.ops m.numbered)))

  all_kept : Each IsKept (woven (loads_at records) 0 log ++ chosen is_lost_in records)
  all_kept = each_append IsKept (woven (loads_at records) 0 log) (chosen is_lost_in records)
      (each_woven (loads_at records) IsKept 0 log (λ i. kept_chosen (is_load_at i)) kept_log) (kept_chosen is_lost_in)

  number_found : (k : ℕ) → k < length kept.ops → numbered r.core (woven (loads_at records) 0 log ++ chosen is_lost_in records) k ≡ slice_get kept.ops k
  number_found k within =
      let once = order_number initial records log h r kept m (λ o. o.k == k) ∙ one_number 0 k kept.ops m.numbered (omega arith) (omega (arith, within)) in
      let f = find_one IsKept (is_number r.core k) order all_kept (sym once) in
      let parts = and_parts (of_core r.core f.one) (f.one.k == k) f.passes in
      f.found ∙ (sym (f.holds parts.0) ∙ ap (λ j. slice_get kept.ops j) (eqb-true f.one.k k parts.1))

  pub program_order_kept : program_order r.core (woven (loads_at records) 0 log ++ chosen is_lost_in records) ≡ kept.ops
  unfolding program_order
  program_order_kept =
      ap (λ n. filter_map (numbered r.core order) (range_with_len 0 n)) (core_number initial records log h r kept m)
      ∙ listed (numbered r.core order) 0 kept.ops (λ j i e within. number_found_at j i (omega (arith, e)) within)
    where
      number_found_at : (j i : ℕ) → i ≡ j → j < length kept.ops → numbered r.core order i ≡ slice_get kept.ops j
      number_found_at j i e within = ap (numbered r.core order) e ∙ number_found j within
