-- Numbers in digits: decimal without leading zeros, and hexadecimal in capitals with a stated number of digits. A field carries
-- the byte that ends it.
use Rattle.std.specs.Prelude.{ℕ, zero, suc, ◌+◌, ◌-◌, ◌*◌, ◌==◌, ◌&&◌, ◌∷◌, ◌++◌, [], List, Bool, nat_le, Option, Some, None, if◌then◌else◌, codes}
use Rattle.report_fields.specs.Reading.{Read, ◌>>=◌, without, before, as_at, kept, either, row}

abbrev pub is_digit : ℕ → Bool
is_digit b = nat_le 48 b && nat_le b 57

-- after digits worth n, at most k more, and then the byte that ends the field
abbrev pub digits_more : ℕ → ℕ → ℕ → List ℕ → Read ℕ
digits_more stop k n [] = None
digits_more stop zero n (b ∷ bytes) = if b == stop then Some (n, bytes) else None
digits_more stop (suc k) n (b ∷ bytes) = if b == stop then Some (n, bytes)
    else (if is_digit b then digits_more stop k (10 * n + (b - 48)) bytes else None)

-- a digit and at most k more, of which there are none after a 0
abbrev pub digits_at : ℕ → ℕ → List ℕ → Read ℕ
digits_at stop k [] = None
digits_at stop k (b ∷ bytes) = if is_digit b then digits_more stop (if b == 48 then 0 else k) (b - 48) bytes else None

-- a number up to the last one allowed, which has at most ten digits
unfoldable pub number_at : ℕ → ℕ → List ℕ → Read ℕ
number_at stop last bytes = kept (λ n. nat_le n last) (digits_at stop 9) bytes

-- the greatest number of a field without a bound of its own
abbrev pub any : ℕ
any = 4294967295

-- the number that the line has to have
unfoldable pub own_at : ℕ → ℕ → List ℕ → Option (List ℕ)
own_at stop own bytes = number_at stop any bytes >>= λ x. if x.0 == own then Some x.1 else None

abbrev pub digit_of : ℕ → Option ℕ
digit_of b = if is_digit b then Some (b - 48) else (if nat_le 65 b && nat_le b 70 then Some (b - 55) else None)

-- so many digits after those worth n
abbrev pub hex_more : ℕ → ℕ → List ℕ → Read ℕ
hex_more zero n bytes = Some (n, bytes)
hex_more (suc k) n [] = None
hex_more (suc k) n (b ∷ bytes) = digit_of b >>= λ d. hex_more k (16 * n + d) bytes

-- so many digits
unfoldable pub hex_at : ℕ → ℕ → List ℕ → Read ℕ
hex_at stop digits bytes = before (hex_more digits 0) (without (stop ∷ [])) bytes

-- a word in eight digits, or eight dashes
unfoldable pub value_at : ℕ → List ℕ → Read (Option ℕ)
value_at stop bytes = either (row (codes "--------" ++ stop ∷ []) None) (as_at Some (hex_at stop 8)) bytes

-- a number of 1, 2, 4 or 8 bytes, two digits each: its length and its value
unfoldable pub sized_at : ℕ → List ℕ → Read (ℕ × ℕ)
sized_at stop bytes = either (as_at (λ n. (1, n)) (hex_at stop 2)) (either (as_at (λ n. (2, n)) (hex_at stop 4))
    (either (as_at (λ n. (4, n)) (hex_at stop 8)) (as_at (λ n. (8, n)) (hex_at stop 16)))) bytes
