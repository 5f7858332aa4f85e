-- Tests that compute, and what they show where they answer true.
use Rattle.std.proofs.Common.{ℕ, ◌≡◌, ◌&&◌, Bool, true, false, refl, ap, ap₂, List, [], ◌∷◌, Option, Some, None, IfSome}
use Rattle.std.specs.Prelude.{◌==◌}
use Rattle.std.specs.List.{list_all, AllByRecursion}
use Rattle.std.specs.Option.{option_map_or}
use Rattle.std.proofs.lemmas.Bool.{eqb-true, and_parts, false≢true}

-- one test holds where another does
abbrev pub implies : Bool → Bool → Bool
implies true b = b
implies false b = true

pub implied : (a b : Bool) → implies a b ≡ true → a ≡ true → b ≡ true
implied true b holds first = holds
implied false b holds first = absurd (false≢true first)

pub holds_in : {X : Type 0} (test : X → Bool) (P : X → Type 0) → ((x : X) → test x ≡ true → P x) → (xs : List X)
    → list_all test xs ≡ true → AllByRecursion P xs
holds_in test P sound [] passes = tt
holds_in test P sound (x ∷ xs) passes = let parts = and_parts (test x) (list_all test xs) passes in
    (sound x parts.0, holds_in test P sound xs parts.1)

pub holds_if_some : {X : Type 0} (test : X → Bool) (P : X → Type 0) → ((x : X) → test x ≡ true → P x) → (o : Option X)
    → option_map_or test o true ≡ true → IfSome o P
holds_if_some test P sound None passes = tt
holds_if_some test P sound (Some x) passes = sound x passes

-- lists are the same, by a test of their items
abbrev pub same_list : {X : Type 0} → (X → X → Bool) → List X → List X → Bool
same_list same [] [] = true
same_list same [] (y ∷ ys) = false
same_list same (x ∷ xs) [] = false
same_list same (x ∷ xs) (y ∷ ys) = same x y && same_list same xs ys

pub is_same_list : {X : Type 0} (same : X → X → Bool) → ((x y : X) → same x y ≡ true → x ≡ y) → (xs ys : List X)
    → same_list same xs ys ≡ true → xs ≡ ys
is_same_list same sound [] [] passes = refl
is_same_list same sound [] (y ∷ ys) passes = absurd (false≢true passes)
is_same_list same sound (x ∷ xs) [] passes = absurd (false≢true passes)
is_same_list same sound (x ∷ xs) (y ∷ ys) passes = let parts = and_parts (same x y) (same_list same xs ys) passes in
    ap₂ (λ z zs. z ∷ zs) (sound x y parts.0) (is_same_list same sound xs ys parts.1)

-- lists of numbers
abbrev pub same_numbers : List ℕ → List ℕ → Bool
same_numbers xs ys = same_list (λ x y. x == y) xs ys

pub is_same_numbers : (xs ys : List ℕ) → same_numbers xs ys ≡ true → xs ≡ ys
is_same_numbers xs ys passes = is_same_list (λ x y. x == y) eqb-true xs ys passes

-- numbers that may be absent
abbrev pub same_option : Option ℕ → Option ℕ → Bool
same_option None None = true
same_option (Some x) (Some y) = x == y
same_option _ _ = false

pub is_same_option : (x y : Option ℕ) → same_option x y ≡ true → x ≡ y
is_same_option None None passes = refl
is_same_option (Some x) (Some y) passes = ap Some (eqb-true x y passes)
is_same_option None (Some y) passes = absurd (false≢true passes)
is_same_option (Some x) None passes = absurd (false≢true passes)
