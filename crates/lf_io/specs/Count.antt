-- Counts of faults, as unsigned counters of 64 bits keep them.
use Rattle.std.specs.Prelude.{ℕ, ◌+◌, ◌-◌, ◌^◌, ◌≤◌, min}

-- the last value of a counter, where it stays
abbrev pub last_count : ℕ
last_count = 2 ^ 64 - 1

-- a counter after one more
abbrev pub next_count : ℕ → ℕ
next_count n = min (n + 1) last_count

-- the count rose in a call: it is larger than before, or stands at the last value (`Rose-cases` of proofs/Counts.antt)
abbrev pub Rose : ℕ → ℕ → Type 0
Rose before after = next_count before ≤ after
