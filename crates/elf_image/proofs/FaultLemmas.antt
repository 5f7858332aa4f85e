-- The first condition of a list that holds.
use Rattle.std.proofs.Common.{◌≡◌, false, List, [], ◌∷◌, ◌++◌, map, refl, Option, Some, None, inl, inr}
use Rattle.std.specs.Prelude.{find}
use Rattle.std.specs.List.{AllByRecursion as Each}
use Rattle.std.specs.Option.{option_map, option_or}
use Rattle.std.proofs.lemmas.Bool.{cases_Bool}
use Rattle.elf_image.specs.declared.refusal.Fault.{Fault}
use Rattle.elf_image.specs.Refusals.{Condition, first_fault}

-- conditions that are made of elements: the first element whose condition holds tells
pub first_fault_map : {X : Type 0} (f : X → Condition) (xs : List X)
    → first_fault (map f xs) ≡ option_map (λ x. (f x).fault) (find (λ x. (f x).holds) xs)
first_fault_map f [] = refl
first_fault_map f (x ∷ xs) = elim (cases_Bool (f x).holds) [
  | inl is_so ↦ rw is_so refl
  | inr not_so ↦ rw not_so (first_fault_map f xs)
]

-- the first of two lists of conditions comes first
pub first_fault_append : (cs ds : List Condition) → first_fault (cs ++ ds) ≡ option_or (first_fault cs) (first_fault ds)
first_fault_append [] ds = refl
first_fault_append (c ∷ cs) ds = elim (cases_Bool c.holds) [
  | inl is_so ↦ rw is_so refl
  | inr not_so ↦ rw not_so (first_fault_append cs ds)
]

-- where none of the conditions that are made of elements holds
pub none_of_map : {X : Type 0} (f : X → Condition) (xs : List X) → first_fault (map f xs) ≡ None → Each (λ x. (f x).holds ≡ false) xs
none_of_map f [] h = tt
none_of_map f (x ∷ xs) h = elim (cases_Bool (f x).holds) [
  | inl is_so ↦ absurd (let told = rw is_so at h in cc)
  | inr not_so ↦ (not_so, none_of_map f xs (rw not_so at h))
]

pub none_of_both : (cs ds : List Condition) → first_fault (cs ++ ds) ≡ None → (first_fault cs ≡ None) × (first_fault ds ≡ None)
none_of_both cs ds h = parts (first_fault cs) (first_fault ds) (rw (first_fault_append cs ds) at h)
  where
    parts : (a b : Option Fault) → option_or a b ≡ None → (a ≡ None) × (b ≡ None)
    parts None b e = (refl, e)
    parts (Some x) b e = absurd cc

-- where none of the conditions holds, nothing is told
pub none_of_each : (cs : List Condition) → Each (λ c. c.holds ≡ false) cs → first_fault cs ≡ None
none_of_each [] h = refl
none_of_each (c ∷ cs) h = rw h.0 (none_of_each cs h.1)

pub none_of_mapped : {X : Type 0} (f : X → Condition) (xs : List X) → Each (λ x. (f x).holds ≡ false) xs → first_fault (map f xs) ≡ None
none_of_mapped f [] h = refl
none_of_mapped f (x ∷ xs) h = rw h.0 (none_of_mapped f xs h.1)

pub none_append : (cs ds : List Condition) → first_fault cs ≡ None → first_fault ds ≡ None → first_fault (cs ++ ds) ≡ None
none_append cs ds first second = rw (first_fault_append cs ds, first) second
