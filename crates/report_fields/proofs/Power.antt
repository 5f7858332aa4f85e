-- Bounds on a number that grows digit by digit.
use Rattle.std.proofs.Common.{◌≡◌, ℕ, ◌+◌, ◌-◌, ◌*◌, ◌^◌, ◌<◌, ◌≤◌, ap, ◌∙◌, add-one, arith}
use Rattle.std.proofs.Math.Nat.{pow-succ', pow-le-pow_right}

next_power : (b m k : ℕ) → m ≡ k + 1 → b ^ m ≡ b * b ^ k
next_power b m k is = ap (λ (e : ℕ). b ^ e) (is ∙ add-one k) ∙ pow-succ' b k

-- a number of so many digits is small
pub few_digits : (n k : ℕ) → n < 10 ^ k → k ≤ 10 → n < 10 ^ 10
few_digits n k small few = omega (arith, pow-le-pow_right {n = 10} (omega arith) few)

pub one_digit : (n left : ℕ) → n < 10 → left ≤ 9 → n < 10 ^ (10 - left)
one_digit n left small few =
    let some : 1 ≤ 10 - left = omega arith in
    let least : 10 ^ 1 ≤ 10 ^ (10 - left) = pow-le-pow_right (omega arith) some in
    omega (arith, least)

pub digit_more : (n left later d whole : ℕ) → left ≤ 9 → left ≡ later + 1 → d ≤ 9 → whole ≡ 10 * n + d → n < 10 ^ (10 - left) → whole < 10 ^ (10 - later)
digit_more n left later d whole few one digit is small =
    let next : 10 ^ (10 - later) ≡ 10 * 10 ^ (10 - left) = next_power 10 (10 - later) (10 - left) (omega arith) in
    omega (arith, next, small, is)

pub hex_small : (n i : ℕ) → n < 16 ^ i → i ≤ 15 → n < 16 ^ 15
hex_small n i small few = omega (arith, pow-le-pow_right {n = 16} (omega arith) few)

pub hex_grown : (n i d whole : ℕ) → d ≤ 15 → whole ≡ 16 * n + d → n < 16 ^ i → whole < 16 ^ (i + 1)
hex_grown n i d whole digit is small =
    let next : 16 ^ (i + 1) ≡ 16 * 16 ^ i = next_power 16 (i + 1) i (omega arith) in
    omega (arith, next, small, is)
