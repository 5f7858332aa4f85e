-- Sign extension as a sum over bits.
use Rattle.std.proofs.Common.{◌≡◌, ℕ, suc, ◌+◌, ◌-◌, ◌*◌, ◌/◌, ◌%◌, ◌^◌, ◌<◌, ◌≤◌, min, cond, ltb, refl, sym, ap, ◌∙◌, arith, inl, inr, subst}
use Rattle.std.specs.Int.{bit_at}
use Rattle.std.proofs.Math.Nat.{pow-suc}
use Rattle.std.proofs.Math.Pow.{pow_mono}
use Rattle.std.proofs.lemmas.Nat.{pow_pos, pow-add, pow_below, le-div, div_below, one_shl, shr_below}
use Rattle.std.proofs.lemmas.Nat.Bits.{bit_at-lt, bit_at_cat_low, bit_at_cat_high, bit_at_above, bit_at_ones, same_from_bits_below}
use Rattle.std.proofs.lemmas.Bool.{cases_lt, cond_below, cond_above}
use Rattle.lf_num.specs.Bits.{sum_below, sign_extended, sign_repeated}
use Rattle.lf_num.proofs.Sums.{sum_of_digits-lt, bit_at-sum_of_digits}

-- the highest bit of a number of s + 1 bits that is not below 2 ^ s
top_bit : (v s : ℕ) → 2 ^ s ≤ v → v < 2 ^ s * 2 → bit_at v s ≡ 1
top_bit v s high value =
    let positive : 0 < 2 ^ s = pow_pos s in
    let one : 1 ≤ v / 2 ^ s = le-div 1 v (2 ^ s) positive (omega arith) in
    let two : v / 2 ^ s < 2 = div_below v (2 ^ s) 2 positive (omega arith) in
    omega arith

-- a number whose sign bit s is 0 and a number whose sign bit is 1, at the width s + 1 with u more bits above it
extended-low : (v s k : ℕ) → v < 2 ^ s → bit_at v k ≡ bit_at v (min k s)
extended-low v s k low =
    elim (cases_lt k s) [
      | inl below ↦ ap (bit_at v) (omega arith)
      | inr above ↦ bit_at_above v s k low above ∙ sym (bit_at_above v s (min k s) low (omega arith))
    ]

extended-high : (v s u k : ℕ) → 2 ^ s ≤ v → v < 2 ^ suc s → k < u + suc s → bit_at ((2 ^ u - 1) * 2 ^ suc s + v) k ≡ bit_at v (min k s)
extended-high v s u k high value within =
    let twice : 2 ^ suc s ≡ 2 ^ s * 2 = pow-suc 2 s in
    elim (cases_lt k (suc s)) [
      | inl below ↦ bit_at_cat_low (2 ^ u - 1) (suc s) v k below ∙ ap (bit_at v) (omega arith)
      | inr above ↦
          bit_at_cat_high (2 ^ u - 1) (suc s) v k value above ∙ bit_at_ones u (k - suc s) (omega arith)
          ∙ sym (top_bit v s high (omega arith)) ∙ ap (bit_at v) (omega arith)
    ]

repeated : (v s width : ℕ) → width ≡ suc s → width ≤ 32 → v < 2 ^ width → cond (ltb v (2 ^ s)) v (v + (2 ^ 32 - 2 ^ width)) ≡ sum_below 32 (λ i. bit_at v (min i s) * 2 ^ i)
repeated v s width is narrow value =
    let digit : (ℕ → ℕ) = λ i. bit_at v (min i s) in
    let small : (i : ℕ) → bit_at v (min i s) < 2 = λ i. bit_at-lt v (min i s) in
    let fits : sum_below 32 (λ i. bit_at v (min i s) * 2 ^ i) < 2 ^ 32 = sum_of_digits-lt 32 (λ i. bit_at v (min i s)) small in
    let bits : (k : ℕ) → k < 32 → bit_at (sum_below 32 (λ i. bit_at v (min i s) * 2 ^ i)) k ≡ bit_at v (min k s) = bit_at-sum_of_digits 32 (λ i. bit_at v (min i s)) small in
    let P : ℕ → Type 0 = λ n. v < 2 ^ n in
    let value' : v < 2 ^ suc s = subst P is value in
    let Q : ℕ → Type 0 = λ n. 2 ^ 32 ≡ 2 ^ (32 - suc s) * 2 ^ n in
    let whole : 2 ^ 32 ≡ 2 ^ (32 - suc s) * 2 ^ suc s = ap (λ (x : ℕ). 2 ^ x) (let q : 32 ≡ (32 - suc s) + suc s = omega arith in q) ∙ pow-add 2 (32 - suc s) (suc s) in
    elim (cases_lt v (2 ^ s)) [
      | inl low ↦
          sym (cond_below v (2 ^ s) v (v + (2 ^ 32 - 2 ^ width)) low)
          ∙ same_from_bits_below 32 v _ (below_word v s low (omega arith)) fits (λ k lt. extended-low v s k low ∙ sym (bits k lt))
      | inr high ↦
          sym (cond_above v (2 ^ s) v (v + (2 ^ 32 - 2 ^ width)) (v + (2 ^ 32 - 2 ^ width)) high refl)
          ∙ ap (λ (x : ℕ). v + (2 ^ 32 - 2 ^ x)) is
          ∙ upper v s (2 ^ (32 - suc s)) (pow_pos (32 - suc s)) whole
          ∙ same_from_bits_below 32 _ _ (upper_fits v s (2 ^ (32 - suc s)) (pow_pos (32 - suc s)) whole value') fits
          (λ k lt. extended-high v s (32 - suc s) k high value' (omega arith) ∙ sym (bits k lt))
    ]
  where
    below_word : (v s : ℕ) → v < 2 ^ s → s < 32 → v < 2 ^ 32
    below_word v s low lt = let p : 2 ^ s < 2 ^ 32 = pow_below s 32 lt in omega arith

    -- 2 ^ 32 is p times q, so without q it is p - 1 times q
    without : (p q : ℕ) → 0 < p → 2 ^ 32 ≡ p * q → 2 ^ 32 ≡ (p - 1) * q + q
    without p q positive whole =
        let same : p ≡ p - 1 + 1 = omega arith in
        let split : (p - 1 + 1) * q ≡ (p - 1) * q + q = omega arith in
        whole ∙ ap (λ (x : ℕ). x * q) same ∙ split

    upper : (v s p : ℕ) → 0 < p → 2 ^ 32 ≡ p * 2 ^ suc s → v + (2 ^ 32 - 2 ^ suc s) ≡ (p - 1) * 2 ^ suc s + v
    upper v s p positive whole =
        let apart : 2 ^ 32 ≡ (p - 1) * 2 ^ suc s + 2 ^ suc s = without p (2 ^ suc s) positive whole in
        omega arith

    upper_fits : (v s p : ℕ) → 0 < p → 2 ^ 32 ≡ p * 2 ^ suc s → v < 2 ^ suc s → (p - 1) * 2 ^ suc s + v < 2 ^ 32
    upper_fits v s p positive whole value =
        let apart : 2 ^ 32 ≡ (p - 1) * 2 ^ suc s + 2 ^ suc s = without p (2 ^ suc s) positive whole in
        omega arith

-- a sign extension is a sum over the bits of the word
pub sign_repeated-extended : (v width : ℕ) → 1 ≤ width → width ≤ 32 → v < 2 ^ width → sign_extended v width ≡ sign_repeated v width
sign_repeated-extended v width wide narrow value = repeated v (width - 1) width (omega arith) narrow value

-- what `sext` answers below its sign bit, and from it on
pub extended_below : (v width : ℕ) → 1 ≤ width → width ≤ 32 → v < 1 * 2 ^ (width - 1) % 2 ^ 32 → v ≡ sign_extended v width
extended_below v width wide narrow low =
    let weight : 1 * 2 ^ (width - 1) % 2 ^ 32 ≡ 2 ^ (width - 1) = one_shl (width - 1) 32 (omega arith) in
    cond_below v (2 ^ (width - 1)) v (v + (2 ^ 32 - 2 ^ width)) (omega arith)

pub extended_from : (v width : ℕ) → 1 ≤ width → width ≤ 32 → v < 2 ^ width → 1 * 2 ^ (width - 1) % 2 ^ 32 ≤ v
    → ((v + (2 ^ 32 - 1 * 2 ^ (width - 1) % 2 ^ 32)) % 2 ^ 32 + (2 ^ 32 - 1 * 2 ^ (width - 1) % 2 ^ 32)) % 2 ^ 32 ≡ sign_extended v width
extended_from v width wide narrow value high =
    let weight : 1 * 2 ^ (width - 1) % 2 ^ 32 ≡ 2 ^ (width - 1) = one_shl (width - 1) 32 (omega arith) in
    let width_is : width ≡ suc (width - 1) = omega arith in
    let twice : 2 ^ width ≡ 2 ^ (width - 1) * 2 = ap (λ (x : ℕ). 2 ^ x) width_is ∙ pow-suc 2 (width - 1) in
    let bound : 2 ^ width ≤ 2 ^ 32 = pow_mono narrow in
    rw weight (
    cond_above v (2 ^ (width - 1)) v (v + (2 ^ 32 - 2 ^ width)) _ (omega arith)
    (wrapped v (2 ^ (width - 1)) (2 ^ width) twice bound value (omega arith)))
  where
    wrapped : (v p q : ℕ) → q ≡ p * 2 → q ≤ 2 ^ 32 → v < q → p ≤ v → ((v + (2 ^ 32 - p)) % 2 ^ 32 + (2 ^ 32 - p)) % 2 ^ 32 ≡ v + (2 ^ 32 - q)
    wrapped v p q twice bound value high = omega arith

-- a word shifted right by k has 32 - k bits, as `sext` asks after a shift with sign
pub shifted-lt : (w k : ℕ) → w < 2 ^ 32 → k < 32 → w / 2 ^ k < 2 ^ (32 - k)
shifted-lt w k word within =
    let width : 32 ≡ 32 - k + k = omega arith in
    shr_below w (32 - k) k (subst (λ (x : ℕ). w < 2 ^ x) width word)
