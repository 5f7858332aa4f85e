-- Numbers that digits write.
use Rattle.std.proofs.Common.{ℕ, ◌≡◌, ◌+◌, ◌*◌, ◌^◌, ◌<◌, ◌≤◌, true, List, [], ◌∷◌, length, take, get_or, Some, refl, sym, ap, arith}
use Rattle.std.specs.Char.{digit_value, is_digit}
use Rattle.std.specs.List.{list_all}
use Rattle.std.specs.Str.Parse.{AllDigits, digits_value}
use Rattle.std.proofs.Math.Nat.{pow-le-pow_left, pow-le-pow_right, mul-le-mul}
use Rattle.std.proofs.lemmas.Bool.{lt-ltb}
use Rattle.std.proofs.lemmas.List.{length-take}
use Rattle.std.proofs.lemmas.Int.Digits.{digits_value_more, digits_more, digits_value-lt}
use Rattle.run_texts.specs.Text.{numeral}

-- the bytes are digits, and write this number
pub record Reads (radix : ℕ) (bytes : List ℕ) (value : ℕ) : Type 0 where
  pub digits : AllDigits radix bytes
  pub value_is : value ≡ digits_value radix bytes

-- one more digit
pub reads_more : (radix : ℕ) (bytes : List ℕ) (i value digit : ℕ) → i < length bytes → Reads radix (take i bytes) value
    → digit_value (get_or bytes i 0) < radix → digit ≡ digit_value (get_or bytes i 0) → Reads radix (take (i + 1) bytes) (value * radix + digit)
reads_more radix bytes i value digit within so_far below is = record {
  digits = digits_more radix bytes i within so_far.digits below;
  value_is = rw (is, so_far.value_is) (sym (digits_value_more radix bytes i within));
}

-- the number is below the power of the radix
pub reads_small : (radix : ℕ) (bytes : List ℕ) (value : ℕ) → Reads radix bytes value → value < radix ^ length bytes
reads_small radix bytes value reads = rw reads.value_is (digits_value-lt radix bytes reads.digits)

-- the number of the first of at most ten digits, and one more digit, fit 64 bits
pub reads_fits : (radix : ℕ) (bytes : List ℕ) (i value digit : ℕ) → 2 ≤ radix → radix ≤ 16 → length bytes ≤ 10 → digit < radix
    → Reads radix (take i bytes) value → value * radix + digit < 2 ^ 64
reads_fits radix bytes i value digit least most short below reads =
    let few : length (take i bytes) ≤ 10 = omega (arith, length-take i bytes) in
    let power : radix ^ length (take i bytes) ≤ radix ^ 10 = pow-le-pow_right {n = radix} (omega arith) few in
    let highest : radix ^ 10 ≤ 16 ^ 10 = pow-le-pow_left most 10 in
    let small : value ≤ 16 ^ 10 = omega (arith, reads_small radix (take i bytes) value reads) in
    omega (arith, mul-le-mul small most)

-- bytes that are all digits are a numeral
all_digits : (radix : ℕ) (bytes : List ℕ) → AllDigits radix bytes → list_all (λ byte. is_digit byte radix) bytes ≡ true
all_digits radix [] digits = refl
all_digits radix (byte ∷ bytes) digits = rw (lt-ltb (digit_value byte) radix digits.0) (all_digits radix bytes digits.1)

pub numeral-reads : (radix : ℕ) (bytes : List ℕ) (value : ℕ) → Reads radix bytes value → numeral radix bytes ≡ Some value
numeral-reads radix bytes value reads = rw (all_digits radix bytes reads.digits) (ap Some (sym reads.value_is))
