-- The flips of a script with their numbers.
use Rattle.std.specs.Prelude.{ℕ, List, length}
use Rattle.std.specs.List.{range_with_len, zip}
use Rattle.lf_model.specs.declared.flip.Flip.{Flip}

-- the flips of the script with their numbers, from 0
abbrev pub numbered_flips : List Flip → List (ℕ × Flip)
numbered_flips script = zip (range_with_len 0 (length script)) script
