-- A word of 8 hexadecimal digits.
use Rattle.std.proofs.Common.{ℕ, ◌≡◌, ◌+◌, ◌*◌, ◌^◌, ◌<◌, ◌≤◌, List, length, take, Some, sym, arith}
use Rattle.std.proofs.Math.Nat.{pow-le-pow_right}
use Rattle.std.proofs.lemmas.List.{take_all, length-take}
use Rattle.run_texts.specs.Text.{hexadecimal}
use Rattle.run_texts.proofs.Numerals.{Reads, reads_small, numeral-reads}

-- the number of the first digits of eight, and one more digit, fit 32 bits
pub fits_word : (word : List ℕ) (i value digit : ℕ) → length word ≡ 8 → i < length word → digit < 16 → Reads 16 (take i word) value → value * 16 + digit < 2 ^ 32
fits_word word i value digit eight within below reads =
    let few : length (take i word) ≤ 7 = omega (arith, length-take i word) in
    let power : 16 ^ length (take i word) ≤ 16 ^ 7 = pow-le-pow_right {n = 16} (omega arith) few in
    let small : value < 16 ^ 7 = omega (arith, reads_small 16 (take i word) value reads) in
    omega arith

-- all eight digits are read
pub reads_all : (word : List ℕ) (i value : ℕ) → length word ≡ 8 → length word ≤ i → Reads 16 (take i word) value → Some value ≡ hexadecimal word
unfolding hexadecimal
reads_all word i value eight past reads =
    let all : take i word ≡ word = take_all i word past in
    rw eight (sym (numeral-reads 16 word value (rw all at reads)))
