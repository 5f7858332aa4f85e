-- Laws of `sum_below`, and what the sums over bits of `specs/Bits.antt` are.
use Rattle.std.proofs.Common.{◌≡◌, ℕ, zero, suc, ◌+◌, ◌-◌, ◌*◌, ◌/◌, ◌%◌, ◌^◌, ◌<◌, ◌≤◌, refl, sym, ap, ap₂, ◌∙◌, arith, inl, inr, lit<, nat_eq}
use Rattle.std.specs.Int.{bit_at, from_bool}
use Rattle.std.specs.Int.Bits.{bit_and}
use Rattle.std.specs.Int.Count.{ones}
use Rattle.std.proofs.Math.Nat.{pow-suc, mod-one, mod-eq_of_lt}
use Rattle.std.proofs.lemmas.Nat.{mod-pow-add, shr-shr, ones_cat, mod_below, pow_pos, and_mask}
use Rattle.std.proofs.lemmas.Nat.Bits.{bit_at-lt, bit_at_cat_low, bit_at_cat_high, ones_shr}
use Rattle.std.proofs.lemmas.Bool.{cases_lt}
use Rattle.lf_num.specs.Bits.{sum_below, field, ones_below}

-- ---- the sum itself

-- the empty sum
pub sum_below-none : (f : ℕ → ℕ) → sum_below 0 f ≡ 0
unfolding sum_below
sum_below-none f = refl

-- one more term
pub sum_below-suc : (n : ℕ) (f : ℕ → ℕ) → sum_below (suc n) f ≡ sum_below n f + f n
unfolding sum_below
sum_below-suc n f = refl

-- equal terms have equal sums
pub sum_below-same : (n : ℕ) (f g : ℕ → ℕ) → ((i : ℕ) → i < n → f i ≡ g i) → sum_below n f ≡ sum_below n g
unfolding sum_below
sum_below-same zero f g same = refl
sum_below-same (suc n) f g same =
    ap₂ (λ (a b : ℕ). a + b) (sum_below-same n f g (λ i lt. same i (omega arith))) (same n (omega arith))

-- a sum of zeros is 0
pub sum_below-zeros : (n : ℕ) (f : ℕ → ℕ) → ((i : ℕ) → i < n → f i ≡ 0) → sum_below n f ≡ 0
unfolding sum_below
sum_below-zeros zero f zeros = refl
sum_below-zeros (suc n) f zeros =
    let rest : sum_below n f ≡ 0 = sum_below-zeros n f (λ i lt. zeros i (omega arith)) in
    let last : f n ≡ 0 = zeros n (omega arith) in
    omega arith

-- a sum of digits below 2, each worth twice the one before, has these digits as its bits
pub sum_of_digits-lt : (n : ℕ) (digit : ℕ → ℕ) → ((i : ℕ) → digit i < 2) → sum_below n (λ i. digit i * 2 ^ i) < 2 ^ n
unfolding sum_below
sum_of_digits-lt zero digit small = lit< tt
sum_of_digits-lt (suc n) digit small =
    let before : sum_below n (λ i. digit i * 2 ^ i) < 2 ^ n = sum_of_digits-lt n digit small in
    let twice : 2 ^ suc n ≡ 2 ^ n * 2 = pow-suc 2 n in
    digit_fits (digit n) (sum_below n (λ i. digit i * 2 ^ i)) (2 ^ n) (2 ^ suc n) (small n) before twice
  where
    digit_fits : (d rest p q : ℕ) → d < 2 → rest < p → q ≡ p * 2 → rest + d * p < q
    digit_fits zero rest p q small before twice = omega arith
    digit_fits (suc zero) rest p q small before twice = omega arith
    digit_fits (suc (suc d)) rest p q small before twice = absurd (omega arith)

pub bit_at-sum_of_digits : (n : ℕ) (digit : ℕ → ℕ) → ((i : ℕ) → digit i < 2) → (k : ℕ) → k < n → bit_at (sum_below n (λ i. digit i * 2 ^ i)) k ≡ digit k
unfolding sum_below
bit_at-sum_of_digits zero digit small k lt = absurd (omega arith)
bit_at-sum_of_digits (suc n) digit small k lt =
    let below : sum_below n (λ i. digit i * 2 ^ i) < 2 ^ n = sum_of_digits-lt n digit small in
    let turned : sum_below n (λ i. digit i * 2 ^ i) + digit n * 2 ^ n ≡ digit n * 2 ^ n + sum_below n (λ i. digit i * 2 ^ i) = omega arith in
    elim (cases_lt k n) [
      | inl low ↦ ap (λ (x : ℕ). bit_at x k) turned ∙ bit_at_cat_low (digit n) n _ k low ∙ bit_at-sum_of_digits n digit small k low
      | inr high ↦
          let same : k ≡ n = omega arith in
          ap (λ (x : ℕ). bit_at x k) turned ∙ bit_at_cat_high (digit n) n _ k below high ∙ top n (digit n) k same (small n) ∙ ap digit (sym same)
    ]
  where
    top : (n d k : ℕ) → k ≡ n → d < 2 → bit_at d (k - n) ≡ d
    top n d k same small =
        let none : k - n ≡ 0 = omega arith in
        ap (λ (x : ℕ). bit_at d x) none ∙ (let q : d / 1 % 2 ≡ d = omega arith in q)

-- ---- fields

-- the n lowest bits of a number
pub low_bits : (n w : ℕ) → sum_below n (λ i. bit_at w i * 2 ^ i) ≡ w % 2 ^ n
unfolding sum_below
low_bits zero w = sym (mod-one w)
low_bits (suc n) w =
    let before : sum_below n (λ i. bit_at w i * 2 ^ i) ≡ w % 2 ^ n = low_bits n w in
    let split : w % 2 ^ (1 + n) ≡ (w / 2 ^ n % 2) * 2 ^ n + w % 2 ^ n = mod-pow-add w 1 n in
    let width : 1 + n ≡ suc n = omega arith in
    let whole : w % 2 ^ (1 + n) ≡ w % 2 ^ suc n = ap (λ (x : ℕ). w % 2 ^ x) width in
    omega arith

-- a bit of what is left of a number after a shift
pub bit_at-shr : (w k i : ℕ) → bit_at (w / 2 ^ k) i ≡ bit_at w (k + i)
bit_at-shr w k i = ap (λ (x : ℕ). x % 2) (shr-shr w k i)

-- a bit field by a shift and a remainder
pub field-value : (w hi lo : ℕ) → field w hi lo ≡ w / 2 ^ lo % 2 ^ (hi + 1 - lo)
field-value w hi lo =
    sum_below-same (hi + 1 - lo) _ _ (λ i lt. ap (λ (x : ℕ). x * 2 ^ i) (sym (bit_at-shr w lo i))) ∙ low_bits (hi + 1 - lo) (w / 2 ^ lo)

-- ---- counts

-- the ones among the n lowest bits, by std's count
pub ones-low : (n v : ℕ) → ones (v % 2 ^ n) ≡ ones_below n v
unfolding sum_below ones
ones-low zero v = ap ones (mod-one v)
ones-low (suc n) v =
    let before : ones (v % 2 ^ n) ≡ ones_below n v = ones-low n v in
    let width : 1 + n ≡ suc n = omega arith in
    let whole : v % 2 ^ suc n ≡ (v / 2 ^ n % 2) * 2 ^ n + v % 2 ^ n = ap (λ (x : ℕ). v % 2 ^ x) (sym width) ∙ mod-pow-add v 1 n in
    let split : ones ((v / 2 ^ n % 2) * 2 ^ n + v % 2 ^ n) ≡ ones (v / 2 ^ n % 2) + ones (v % 2 ^ n) = ones_cat n (v / 2 ^ n % 2) (v % 2 ^ n) (mod_below v (2 ^ n) (pow_pos n)) in
    let digit : ones (bit_at v n) ≡ bit_at v n = ones_of_digit (bit_at v n) (bit_at-lt v n) in
    ap ones whole ∙ split ∙ omega arith
  where
    ones_of_digit : (d : ℕ) → d < 2 → ones d ≡ d
    ones_of_digit zero small = refl
    ones_of_digit (suc zero) small = refl
    ones_of_digit (suc (suc d)) small = absurd (omega arith)

-- the ones of a number of n bits
pub ones_below-all : (n v : ℕ) → v < 2 ^ n → ones v ≡ ones_below n v
ones_below-all n v lt = ap ones (sym (mod-eq_of_lt lt)) ∙ ones-low n v

-- a number of k bits has no ones from bit k on
pub ones_below-wider : (n k v : ℕ) → v < 2 ^ n → v < 2 ^ k → ones_below n v ≡ ones_below k v
ones_below-wider n k v fits narrow = sym (ones_below-all n v fits) ∙ ones_below-all k v narrow

-- the test for an odd count gives the count modulo 2
pub from_bool-odd : (count : ℕ) → from_bool (nat_eq (count % 2) 1) ≡ count % 2
from_bool-odd count = tested (count % 2) (omega arith)
  where
    tested : (d : ℕ) → d < 2 → from_bool (nat_eq d 1) ≡ d
    tested zero small = refl
    tested (suc zero) small = refl
    tested (suc (suc d)) small = absurd (omega arith)

-- a field by a shift and a mask
pub masked : (w hi lo : ℕ) → lo ≤ hi → hi < 32 → bit_and (w / 2 ^ lo) ((2 ^ 32 - 1) / 2 ^ (31 - (hi - lo))) ≡ w / 2 ^ lo % 2 ^ (hi + 1 - lo)
masked w hi lo ordered within =
    ap (bit_and (w / 2 ^ lo)) (ones_shr 32 (31 - (hi - lo)) (omega arith))
    ∙ and_mask (w / 2 ^ lo) (32 - (31 - (hi - lo)))
    ∙ ap (λ (x : ℕ). w / 2 ^ lo % 2 ^ x) (omega arith)
