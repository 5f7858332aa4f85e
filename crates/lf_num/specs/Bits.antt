-- Bit fields, counts of ones and sign extension, as sums over bits.
-- `bit_at n i` is bit i of n, where bit 0 is the lowest.
use Rattle.std.specs.Prelude.{ℕ, zero, suc, ◌+◌, ◌-◌, ◌*◌, ◌^◌, nat_lt, min, if◌then◌else◌}
use Rattle.std.specs.Int.{bit_at}

-- f 0 + f 1 + .. + f (n - 1)
unfoldable pub sum_below : ℕ → (ℕ → ℕ) → ℕ
sum_below zero f = 0
sum_below (suc n) f = sum_below n f + f n

-- the bit field w[hi:lo] as a number: bit lo of w is worth 1, bit lo + 1 is worth 2, and so on up to bit hi
abbrev pub field : ℕ → ℕ → ℕ → ℕ
field w hi lo = sum_below (hi + 1 - lo) (λ i. bit_at w (lo + i) * 2 ^ i)

-- how many of the n lowest bits of v are 1
abbrev pub ones_below : ℕ → ℕ → ℕ
ones_below n v = sum_below n (λ i. bit_at v i)

-- v, a two's complement number of the given width, as a word: where its sign bit is 1, v - 2 ^ width modulo 2 ^ 32
abbrev pub sign_extended : ℕ → ℕ → ℕ
sign_extended v width = if nat_lt v (2 ^ (width - 1)) then v else (v + (2 ^ 32 - 2 ^ width))

-- the word whose bits below the width are those of v, and whose others repeat the bit width - 1 of v
abbrev pub sign_repeated : ℕ → ℕ → ℕ
sign_repeated v width = sum_below 32 (λ i. bit_at v (min i (width - 1)) * 2 ^ i)
