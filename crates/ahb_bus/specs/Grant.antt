-- Which master is granted the bus (AMBA 2.0 AHB, arbitration): round robin, which is this machine's own.
use Rattle.std.specs.Prelude.{ℕ, ◌+◌, ◌-◌, ◌%◌, ◌==◌, Option, Bool, map, find}
use Rattle.std.specs.Int.{bit_at}
use Rattle.std.specs.List.{range_with_len}

-- the master so many places after the last one, round 0 to 8
abbrev pub master_after : ℕ → ℕ → ℕ
master_after last n = (last + n) % 9

-- it asks for the bus
abbrev pub asks_for : ℕ → ℕ → Bool
asks_for asking master = bit_at asking master == 1

-- the first master that asks, from so many places after the last one on
unfoldable pub granted_from : ℕ → ℕ → ℕ → Option ℕ
granted_from asking last n = find (asks_for asking) (map (master_after last) (range_with_len n (10 - n)))

-- the first after the last one, which itself comes last
abbrev pub granted : ℕ → ℕ → Option ℕ
granted asking last = granted_from asking last 1
