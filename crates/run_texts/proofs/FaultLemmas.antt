-- The first of the faults of a list.
use Rattle.std.proofs.Common.{ℕ, ◌≡◌, ◌+◌, ◌<◌, Bool, List, [], ◌∷◌, ◌++◌, length, drop, get_or, Option, Some, None, refl, sym, ap, ◌∙◌, inl, inr, arith, zero, suc}
use Rattle.std.specs.List.{flat_map}
use Rattle.std.specs.Option.{option_or}
use Rattle.std.proofs.lemmas.Bool.{cases_Bool}
use Rattle.std.proofs.lemmas.List.{at_drop_more}
use Rattle.run_texts.specs.Columns.{first_fault}

-- of two lists it is that of the first, or else that of the second
pub first_fault-append : {X : Type 0} (xs ys : List (Bool × X)) → first_fault (xs ++ ys) ≡ option_or (first_fault xs) (first_fault ys)
first_fault-append [] ys = refl
first_fault-append (x ∷ xs) ys =
    elim (cases_Bool x.0) [
      | inl holds ↦ rw holds refl
      | inr not_so ↦ rw not_so (first_fault-append xs ys)
    ]

none_of_or : {X : Type 0} (a b : Option X) → option_or a b ≡ None → (a ≡ None) × (b ≡ None)
none_of_or None b none = (refl, none)
none_of_or (Some x) b none = absurd cc

-- where the whole list has no fault, neither part has
pub no_fault_of_parts : {X : Type 0} (xs ys : List (Bool × X)) → first_fault (xs ++ ys) ≡ None → (first_fault xs ≡ None) × (first_fault ys ≡ None)
no_fault_of_parts xs ys none = none_of_or (first_fault xs) (first_fault ys) (sym (first_fault-append xs ys) ∙ none)

-- where no fault of a list of lists holds, none of the list at a place does
pub no_fault_at : {K X : Type 0} (faults : K → List (Bool × X)) (keys : List K) (i : ℕ) (d : K) → i < length keys
    → first_fault (flat_map faults keys) ≡ None → first_fault (faults (get_or keys i d)) ≡ None
no_fault_at faults [] i d within none = absurd (omega arith)
no_fault_at faults (key ∷ keys) zero d within none = (no_fault_of_parts (faults key) (flat_map faults keys) none).0
no_fault_at faults (key ∷ keys) (suc i) d within none =
    no_fault_at faults keys i d (omega arith) (no_fault_of_parts (faults key) (flat_map faults keys) none).1

-- the first fault from a place on, by that of the list there
fault_here : {K X : Type 0} (faults : K → List (Bool × X)) (keys : List K) (i : ℕ) (d : K) → i < length keys
    → first_fault (flat_map faults (drop i keys)) ≡ option_or (first_fault (faults (get_or keys i d))) (first_fault (flat_map faults (drop (i + 1) keys)))
fault_here faults keys i d within =
    at_drop_more (λ ks. first_fault (flat_map faults ks)) keys i d within
    ∙ first_fault-append (faults (get_or keys i d)) (flat_map faults (drop (i + 1) keys))

pub passed_key : {K X : Type 0} (faults : K → List (Bool × X)) (keys : List K) (i : ℕ) (d : K) (whole : Option X) → i < length keys
    → first_fault (flat_map faults (drop i keys)) ≡ whole → None ≡ first_fault (faults (get_or keys i d))
    → first_fault (flat_map faults (drop (i + 1) keys)) ≡ whole
passed_key faults keys i d whole within so_far none =
    ap (λ first. option_or first (first_fault (flat_map faults (drop (i + 1) keys)))) none
    ∙ sym (fault_here faults keys i d within) ∙ so_far

pub faulty_key : {K X : Type 0} (faults : K → List (Bool × X)) (keys : List K) (i : ℕ) (d : K) (whole : Option X) (fault : X) → i < length keys
    → first_fault (flat_map faults (drop i keys)) ≡ whole → Some fault ≡ first_fault (faults (get_or keys i d)) → Some fault ≡ whole
faulty_key faults keys i d whole fault within so_far some =
    ap (λ first. option_or first (first_fault (flat_map faults (drop (i + 1) keys)))) some
    ∙ sym (fault_here faults keys i d within) ∙ so_far
