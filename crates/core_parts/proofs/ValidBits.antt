-- The valid bits of a line, word by word.
use Rattle.std.proofs.Common.{◌≡◌, ℕ, ◌+◌, ◌*◌, ◌^◌, Bool, map, sym, ap, ◌∙◌, arith}
use Rattle.std.specs.Int.{from_bool}
use Rattle.std.specs.List.{sum, range_with_len}
use Rattle.std.proofs.lemmas.List.FromFn.{map-range_with_len_more}
use Rattle.std.proofs.lemmas.List.Sums.{sum_by_push}

-- that of word j
abbrev pub bit_by : (ℕ → Bool) → ℕ → ℕ
bit_by is_valid j = from_bool (is_valid j) * 2 ^ j

-- those of the first n words
abbrev pub valid_below : (ℕ → Bool) → ℕ → ℕ
valid_below is_valid n = sum (map (bit_by is_valid) (range_with_len 0 n))

pub valid_more : (is_valid : ℕ → Bool) (n : ℕ) → valid_below is_valid n + bit_by is_valid n ≡ valid_below is_valid (n + 1)
valid_more is_valid n =
    sym
    (ap sum (map-range_with_len_more (bit_by is_valid) 0 n n (omega arith))
    ∙ sum_by_push (λ (x : ℕ). x) (map (bit_by is_valid) (range_with_len 0 n)) (bit_by is_valid n))
