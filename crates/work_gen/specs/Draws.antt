-- The pseudo-random numbers of the generator: a linear congruential sequence modulo 2 ^ 64, of whose states the high 31 bits
-- are drawn.
use Rattle.std.specs.Prelude.{ℕ, zero, suc, ◌+◌, ◌*◌, ◌/◌, ◌%◌, ◌^◌, List, [], ◌∷◌}

-- the state after this one
unfoldable pub next_state : ℕ → ℕ
next_state state = (state * 6364136223846793005 + 1442695040888963407) % 2 ^ 64

-- what is drawn as a state is reached
abbrev pub drawn : ℕ → ℕ
drawn state = state / 2 ^ 33

-- so many draws from a state on, each as the next state is reached
abbrev pub draws : ℕ → ℕ → List ℕ
draws zero state = []
draws (suc count) state = drawn (next_state state) ∷ draws count (next_state state)
