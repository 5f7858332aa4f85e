-- The check bits of a word, as the code computes them and as a number.
use Rattle.std.proofs.Common.{◌≡◌, ℕ, zero, suc, ◌+◌, ◌*◌, ◌/◌, ◌%◌, ◌^◌, ◌<◌, ◌≤◌, min, slice_index, refl, ap, ◌∙◌, arith}
use Rattle.std.specs.Int.{bit_at}
use Rattle.std.specs.Int.Bits.{bit_xor, bit_and}
use Rattle.std.proofs.Math.Pow.{pow_mono}
use Rattle.std.proofs.lemmas.Nat.{and_le_l}
use Rattle.std.proofs.lemmas.Nat.Bits.{bit_at_and, bit_at-lt, shr_and_one}
use Rattle.lf_num.specs.Bits.{sum_below, ones_below}
use Rattle.lf_num.specs.Columns.{column}
use Rattle.lf_num.proofs.Sums.{sum_below-same, sum_below-suc, sum_of_digits-lt, bit_at-sum_of_digits, ones_below-wider}
use Rattle.edac_code.specs.Code.{check_bit, check_bits, inverted_checks, code}
use Rattle.edac_code.specs.declared.TheConstants.{CHECKED_BITS}
use Rattle.edac_code.proofs.Tables.{bit_at-mask}

-- the data bits under a mask are those that a check bit sums
pub ones_below-masked : (word j : ℕ) → word < 2 ^ 32 → j < 7 → ones_below 64 (bit_and word (slice_index CHECKED_BITS j)) ≡ sum_below 32 (λ i. bit_at word i * bit_at (column i) j)
ones_below-masked word j fits lt =
    let below : bit_and word (slice_index CHECKED_BITS j) < 2 ^ 32 = omega (arith, and_le_l word (slice_index CHECKED_BITS j)) in
    let wide : bit_and word (slice_index CHECKED_BITS j) < 2 ^ 64 = omega arith in
    ones_below-wider 64 32 _ wide below
    ∙ sum_below-same 32 _ _ (λ i i_lt.
    bit_at_and word (slice_index CHECKED_BITS j) i
    ∙ ap (min (bit_at word i)) (bit_at-mask i j i_lt lt)
    ∙ digits (bit_at word i) (bit_at (column i) j) (bit_at-lt word i) (bit_at-lt (column i) j))
  where
    digits : (a b : ℕ) → a < 2 → b < 2 → min a b ≡ a * b
    digits zero b a_lt b_lt = omega arith
    digits (suc zero) b a_lt b_lt = omega arith
    digits (suc (suc a)) b a_lt b_lt = absurd (omega arith)

-- the sum modulo 2 of two digits
pub bit_xor-digits : (a b : ℕ) → a < 2 → b < 2 → bit_xor a b ≡ (a + b) % 2
bit_xor-digits zero zero a_lt b_lt = refl
bit_xor-digits zero (suc zero) a_lt b_lt = refl
bit_xor-digits (suc zero) zero a_lt b_lt = refl
bit_xor-digits (suc zero) (suc zero) a_lt b_lt = refl
bit_xor-digits zero (suc (suc b)) a_lt b_lt = absurd (omega arith)
bit_xor-digits (suc zero) (suc (suc b)) a_lt b_lt = absurd (omega arith)
bit_xor-digits (suc (suc a)) b a_lt b_lt = absurd (omega arith)

-- a check bit as the code computes it: the parity under its mask, turned where it is stored inverted
pub check_bit-computed : (word j parity : ℕ) → word < 2 ^ 32 → j < 7 → parity ≡ ones_below 64 (bit_and word (slice_index CHECKED_BITS j)) % 2
    → bit_xor parity (bit_and (inverted_checks / 2 ^ j) 1) ≡ check_bit word j
unfolding check_bit
check_bit-computed word j parity fits lt odd =
    let sum : parity ≡ sum_below 32 (λ i. bit_at word i * bit_at (column i) j) % 2 = odd ∙ ap (λ (x : ℕ). x % 2) (ones_below-masked word j fits lt) in
    let digit : parity < 2 = omega arith in
    ap (bit_xor parity) (shr_and_one inverted_checks j)
    ∙ bit_xor-digits parity (bit_at inverted_checks j) digit (bit_at-lt inverted_checks j)
    ∙ omega arith

pub check_bit-lt : (word j : ℕ) → check_bit word j < 2
unfolding check_bit
check_bit-lt word j = omega arith

pub check_bits-lt : (word : ℕ) → check_bits word < 2 ^ 7
unfolding check_bits
check_bits-lt word = sum_of_digits-lt 7 (check_bit word) (check_bit-lt word)

pub bit_at-check_bits : (word j : ℕ) → j < 7 → bit_at (check_bits word) j ≡ check_bit word j
unfolding check_bits
bit_at-check_bits word j lt = bit_at-sum_of_digits 7 (check_bit word) (check_bit-lt word) j lt

-- an encoding has 39 bits
pub code-lt : (word : ℕ) → word < 2 ^ 32 → code word < 2 ^ 39
unfolding code
code-lt word fits = let checks : check_bits word < 2 ^ 7 = check_bits-lt word in omega arith

-- one more check bit, as the loop of `check_bits` adds it
pub more_checks : (word j bits bit : ℕ) → j < 7 → bits ≡ sum_below j (λ i. check_bit word i * 2 ^ i) → bit ≡ check_bit word j
    → (bits + bit * 2 ^ j % 2 ^ 8 ≡ sum_below (suc j) (λ i. check_bit word i * 2 ^ i)) × (bits + bit * 2 ^ j % 2 ^ 8 < 2 ^ 8)
more_checks word j bits bit lt before is =
    let step = sum_below-suc j (λ i. check_bit word i * 2 ^ i) in
    let shifted : bit * 2 ^ j ≡ check_bit word j * 2 ^ j = ap (λ (x : ℕ). x * 2 ^ j) is in
    let below : sum_below (suc j) (λ i. check_bit word i * 2 ^ i) < 2 ^ suc j = sum_of_digits-lt (suc j) (check_bit word) (check_bit-lt word) in
    let width : suc j ≤ 7 = omega arith in
    let bound : 2 ^ suc j ≤ 2 ^ 7 = pow_mono width in
    (omega arith, omega arith)

-- all seven
pub all_checks : (word j bits : ℕ) → 7 ≤ j → j ≤ 7 → bits ≡ sum_below j (λ i. check_bit word i * 2 ^ i) → bits ≡ check_bits word
unfolding check_bits
all_checks word j bits from to sum =
    let seven : j ≡ 7 = omega arith in
    sum ∙ ap (λ (n : ℕ). sum_below n (λ i. check_bit word i * 2 ^ i)) seven
