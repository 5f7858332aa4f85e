-- Which of a core's operations are lost with the stores that wait, where these never reach memory.
use Rattle.std.specs.Prelude.{ℕ, List, [], ◌∷◌}
use Rattle.lf_model.specs.declared.bus.Pending.{Pending}

-- the number of the first of these stores as an operation: its core loses its stores from that on
abbrev pub first_number : List Pending → ℕ
first_number [] = 0
first_number (p ∷ ps) = p.k
