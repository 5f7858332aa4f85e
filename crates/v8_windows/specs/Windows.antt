-- The registers of a window, and which windows are valid (SPARC V8, chapter 4, windowed registers and WIM).
use Rattle.std.specs.Prelude.{ℕ, ◌≡◌, ◌<◌, ◌≤◌}
use Rattle.std.specs.Int.{bit_at}

-- the globals are registers 0 to 7
abbrev pub IsGlobal : ℕ → Type 0
IsGlobal n = n < 8

-- the outs are registers 8 to 15
abbrev pub IsOut : ℕ → Type 0
IsOut n = (8 ≤ n) × (n < 16)

-- the locals are registers 16 to 23
abbrev pub IsLocal : ℕ → Type 0
IsLocal n = (16 ≤ n) × (n < 24)

-- the ins are registers 24 to 31
abbrev pub IsIn : ℕ → Type 0
IsIn n = (24 ≤ n) × (n < 32)

-- a window is invalid where its bit of WIM is 1
abbrev pub IsInvalid : ℕ → ℕ → Type 0
IsInvalid wim window = bit_at wim window ≡ 1

-- and valid where it is 0
abbrev pub IsValid : ℕ → ℕ → Type 0
IsValid wim window = bit_at wim window ≡ 0
