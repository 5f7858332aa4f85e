-- The flips that stand in a unit, as they are stored.
use Rattle.std.specs.Prelude.{ℕ, List, [], ◌∷◌}
use Rattle.flip_ledger.specs.declared.standing.Standing.{Standing}
use Rattle.flip_ledger.specs.declared.standing.Standing.TheVariants.{Empty, One, Two}

-- their numbers, the last one first
abbrev pub numbers_of : Standing → List ℕ
numbers_of Empty = []
numbers_of (One number) = number ∷ []
numbers_of (Two older newer) = newer ∷ older ∷ []
