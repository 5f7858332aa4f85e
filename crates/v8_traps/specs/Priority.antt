-- Which trap an instruction takes where it has several (SPARC V8, chapter 7, traps).
use Rattle.std.specs.Prelude.{◌≡◌, ℕ, List, ◌∷◌, ◌++◌, Option, Some, IsNone}
use Rattle.std.specs.List.{All}

-- the first trap of a list that there is: the list has it, and there is none before it
abbrev pub IsFirst : List (Option ℕ) → ℕ → Type 0
IsFirst traps trap_type =
    (before : List (Option ℕ)) × (after : List (Option ℕ)) × (traps ≡ before ++ Some trap_type ∷ after) × All IsNone before
