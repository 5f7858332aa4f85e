-- The syndrome of a cell whose bits are turned.
use Rattle.std.proofs.Common.{◌≡◌, ℕ, zero, suc, ◌+◌, ◌-◌, ◌*◌, ◌/◌, ◌%◌, ◌^◌, ◌<◌, List, [], ◌∷◌, sym, ap, ap₂, ◌∙◌, arith, inl, inr, subst}
use Rattle.std.specs.Int.{bit_at}
use Rattle.std.specs.Int.Bits.{bit_xor, xor_assoc, xor_self, xor_zero_l, xor_zero_r}
use Rattle.std.proofs.Math.Nat.{mod-eq_of_lt, mul-mod_left}
use Rattle.std.proofs.lemmas.Nat.{xor_comm, xor_lt, xor_shr, xor_mod, shr_high, mod_low, pow_below, pow-add, shl-shr}
use Rattle.std.proofs.lemmas.Nat.Bits.{bit_at_xor, bit_at-lt, same_from_bits_below}
use Rattle.std.proofs.lemmas.Bool.{cases_eq, cases_lt}
use Rattle.lf_num.specs.Bits.{sum_below}
use Rattle.lf_num.specs.Columns.{column, columns_sum}
use Rattle.lf_num.specs.Toggles.{struck, IsPlaceSet}
use Rattle.lf_num.proofs.Sums.{sum_below-same}
use Rattle.lf_num.proofs.ToggleLemmas.{bit_at-turned, bit_at-kept}
use Rattle.edac_code.specs.Code.{check_bit, check_bits, code, data_of, syndrome}
use Rattle.edac_code.proofs.Tables.{column-check, column_rule}
use Rattle.edac_code.proofs.Checks.{check_bits-lt, bit_at-check_bits}

-- ---- one turned bit

-- a turned bit turns each sum modulo 2 in which it counts an odd number of times
sum_turned : (n b c : ℕ) (m : ℕ → ℕ) → b < n → sum_below n (λ i. bit_at (bit_xor c (2 ^ b)) i * m i) % 2 ≡ (sum_below n (λ i. bit_at c i * m i) + m b) % 2
unfolding sum_below
sum_turned zero b c m lt = absurd (omega arith)
sum_turned (suc n) b c m lt =
    elim (cases_eq b n) [
      | inl same ↦
          let before = sum_below-same n (λ i. bit_at (bit_xor c (2 ^ b)) i * m i) (λ i. bit_at c i * m i)
          (λ i i_lt. ap (λ (x : ℕ). x * m i) (bit_at-kept c b i (λ e. absurd (omega arith)))) in
          let turned : bit_at (bit_xor c (2 ^ b)) n ≡ (bit_at c n + 1) % 2 = subst (λ (k : ℕ). bit_at (bit_xor c (2 ^ b)) k ≡ (bit_at c k + 1) % 2) same (bit_at-turned c b) in
          last (sum_below n (λ i. bit_at c i * m i)) (sum_below n (λ i. bit_at (bit_xor c (2 ^ b)) i * m i)) (bit_at c n) (bit_at (bit_xor c (2 ^ b)) n) (m n) (m b)
          before (bit_at-lt c n) turned (ap m same)
      | inr other ↦
          let before : sum_below n (λ i. bit_at (bit_xor c (2 ^ b)) i * m i) % 2 ≡ (sum_below n (λ i. bit_at c i * m i) + m b) % 2 = sum_turned n b c m (omega arith) in
          let kept : bit_at (bit_xor c (2 ^ b)) n * m n ≡ bit_at c n * m n = ap (λ (x : ℕ). x * m n) (bit_at-kept c b n (λ e. other (sym e))) in
          omega arith
    ]
  where
    last : (s s' d d' m m' : ℕ) → s' ≡ s → d < 2 → d' ≡ (d + 1) % 2 → m' ≡ m → (s' + d' * m) % 2 ≡ (s + d * m + m') % 2
    last s s' zero d' m m' same small turned equal = let one : d' ≡ 1 = omega arith in rw one (omega arith)
    last s s' (suc zero) d' m m' same small turned equal = let none : d' ≡ 0 = omega arith in rw none (omega arith)
    last s s' (suc (suc d)) d' m m' same small turned equal = absurd (omega arith)

check_bit-turned : (word b j : ℕ) → b < 32 → check_bit (bit_xor word (2 ^ b)) j ≡ (check_bit word j + bit_at (column b) j) % 2
unfolding check_bit
check_bit-turned word b j lt =
    let sum : sum_below 32 (λ i. bit_at (bit_xor word (2 ^ b)) i * bit_at (column i) j) % 2 ≡ (sum_below 32 (λ i. bit_at word i * bit_at (column i) j) + bit_at (column b) j) % 2
    = sum_turned 32 b word (λ i. bit_at (column i) j) lt in
    omega arith

check_bits-turned : (word b : ℕ) → b < 32 → check_bits (bit_xor word (2 ^ b)) ≡ bit_xor (check_bits word) (column b)
check_bits-turned word b lt =
    let column_fits : column b < 2 ^ 7 = (column_rule b b b (omega arith) (omega arith) (omega arith)).fits in
    same_from_bits_below 7 _ _ (check_bits-lt (bit_xor word (2 ^ b))) (xor_lt 7 (check_bits word) (column b) (check_bits-lt word) column_fits)
    (λ j j_lt.
    bit_at-check_bits (bit_xor word (2 ^ b)) j j_lt ∙ check_bit-turned word b j lt
    ∙ ap (λ (x : ℕ). (x + bit_at (column b) j) % 2) (sym (bit_at-check_bits word j j_lt))
    ∙ sym (bit_at_xor (check_bits word) (column b) j))

-- one turned bit of a cell adds its column to the syndrome
pub syndrome-turned : (c b : ℕ) → b < 39 → syndrome (bit_xor c (2 ^ b)) ≡ bit_xor (syndrome c) (column b)
unfolding syndrome
syndrome-turned c b lt =
    elim (cases_lt b 32) [
      | inl low ↦
          let fits : 2 ^ b < 2 ^ 32 = pow_below b 32 low in
          let none : 2 ^ b / 2 ^ 32 ≡ 0 = omega arith in
          let stored : bit_xor c (2 ^ b) / 2 ^ 32 ≡ c / 2 ^ 32 = xor_shr c (2 ^ b) 32 ∙ ap (bit_xor (c / 2 ^ 32)) none ∙ xor_zero_r (c / 2 ^ 32) in
          let shown : bit_xor c (2 ^ b) % 2 ^ 32 ≡ bit_xor (c % 2 ^ 32) (2 ^ b) = xor_mod c (2 ^ b) 32 ∙ ap (bit_xor (c % 2 ^ 32)) (mod-eq_of_lt fits) in
          ap₂ bit_xor stored (ap check_bits shown ∙ check_bits-turned (c % 2 ^ 32) b low)
          ∙ sym (xor_assoc (c / 2 ^ 32) (check_bits (c % 2 ^ 32)) (column b))
      | inr high ↦ of_check c b (b - 32) (omega arith) (omega arith)
    ]
  where
    of_check : (c b j : ℕ) → b ≡ 32 + j → j < 7 → bit_xor (bit_xor c (2 ^ b) / 2 ^ 32) (check_bits (bit_xor c (2 ^ b) % 2 ^ 32)) ≡ bit_xor (bit_xor (c / 2 ^ 32) (check_bits (c % 2 ^ 32))) (column b)
    of_check c b j is lt =
        let weight : 2 ^ b ≡ 2 ^ j * 2 ^ 32 = ap (λ (x : ℕ). 2 ^ x) (let e : b ≡ j + 32 = omega arith in e) ∙ pow-add 2 j 32 in
        let stored : bit_xor c (2 ^ b) / 2 ^ 32 ≡ bit_xor (c / 2 ^ 32) (2 ^ j) =
        xor_shr c (2 ^ b) 32 ∙ ap (λ (x : ℕ). bit_xor (c / 2 ^ 32) (x / 2 ^ 32)) weight ∙ ap (bit_xor (c / 2 ^ 32)) (shl-shr (2 ^ j) 32) in
        let shown : bit_xor c (2 ^ b) % 2 ^ 32 ≡ c % 2 ^ 32 =
        xor_mod c (2 ^ b) 32 ∙ ap (λ (x : ℕ). bit_xor (c % 2 ^ 32) (x % 2 ^ 32)) weight ∙ ap (bit_xor (c % 2 ^ 32)) (mul-mod_left (2 ^ j) (2 ^ 32)) ∙ xor_zero_r (c % 2 ^ 32) in
        let own : column b ≡ 2 ^ j = ap column is ∙ column-check j lt in
        ap₂ bit_xor stored (ap check_bits shown)
        ∙ xor_assoc (c / 2 ^ 32) (2 ^ j) (check_bits (c % 2 ^ 32))
        ∙ ap (bit_xor (c / 2 ^ 32)) (xor_comm (2 ^ j) (check_bits (c % 2 ^ 32)))
        ∙ sym (xor_assoc (c / 2 ^ 32) (check_bits (c % 2 ^ 32)) (2 ^ j))
        ∙ ap (bit_xor (bit_xor (c / 2 ^ 32) (check_bits (c % 2 ^ 32)))) (sym own)

-- ---- encodings and sets of turned bits

pub data_of-code : (word : ℕ) → word < 2 ^ 32 → data_of (code word) ≡ word
unfolding code
data_of-code word fits = mod_low (check_bits word) 32 word fits

pub syndrome-code : (word : ℕ) → word < 2 ^ 32 → syndrome (code word) ≡ 0
unfolding syndrome code
syndrome-code word fits =
    ap₂ bit_xor (shr_high (check_bits word) 32 word fits) (ap check_bits (mod_low (check_bits word) 32 word fits))
    ∙ xor_self (check_bits word)

-- the syndrome of any set of turned bits
pub syndrome-struck : (c : ℕ) (turned : List ℕ) → IsPlaceSet 39 turned → syndrome (struck c turned) ≡ bit_xor (syndrome c) (columns_sum turned)
syndrome-struck c [] set = sym (xor_zero_r (syndrome c))
syndrome-struck c (bit ∷ bits) set =
    syndrome-turned (struck c bits) bit set.0
    ∙ ap (λ (x : ℕ). bit_xor x (column bit)) (syndrome-struck c bits set.2)
    ∙ xor_assoc (syndrome c) (columns_sum bits) (column bit)

pub syndrome-struck_code : (word : ℕ) (turned : List ℕ) → word < 2 ^ 32 → IsPlaceSet 39 turned → syndrome (struck (code word) turned) ≡ columns_sum turned
syndrome-struck_code word turned fits set =
    syndrome-struck (code word) turned set
    ∙ ap (λ (x : ℕ). bit_xor x (columns_sum turned)) (syndrome-code word fits)
    ∙ xor_zero_l (columns_sum turned)
