-- The bytes that a sink has taken: `None` where it does not tell them.
use Rattle.std.specs.Prelude.{◌≡◌, ℕ, ◌<◌, List, ◌++◌, length, take, Option, Some, IfSome}

-- where the bytes taken are told, they are told afterwards too, with the piece added
abbrev pub Takes : Option (List ℕ) → Option (List ℕ) → List ℕ → Type 0
Takes old new piece = IfSome old (λ bytes. new ≡ Some (bytes ++ piece))

-- where the bytes taken are told, they stay told, and are the same
abbrev pub TakesNothing : Option (List ℕ) → Option (List ℕ) → Type 0
TakesNothing old new = IfSome old (λ bytes. new ≡ Some bytes)

-- some prefix of the piece was taken, and not all of it
abbrev pub TakesPrefix : Option (List ℕ) → Option (List ℕ) → List ℕ → Type 0
TakesPrefix old new piece = (n : ℕ) × (n < length piece) × Takes old new (take n piece)
