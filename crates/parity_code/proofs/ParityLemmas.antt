-- The ones of nine bits: an even number as a byte is put, an odd number once one bit is turned.
use Rattle.std.proofs.Common.{◌≡◌, ◌≢◌, ℕ, zero, suc, ◌+◌, ◌*◌, ◌/◌, ◌%◌, ◌^◌, ◌<◌, ◌≤◌, List, [], ◌∷◌, length, Some, None, refl, sym, ap, ap₂, ◌∙◌, arith, inl, inr, subst}
use Rattle.std.specs.Int.{bit_at}
use Rattle.std.specs.Int.Bits.{bit_xor}
use Rattle.std.proofs.lemmas.Bool.{cases_eq}
use Rattle.std.proofs.lemmas.Nat.{mod_low}
use Rattle.std.proofs.lemmas.Nat.Bits.{bit_at-lt, bit_at_cat_low}
use Rattle.lf_num.specs.Bits.{sum_below, ones_below}
use Rattle.lf_num.specs.Toggles.{struck, IsPlaceSet}
use Rattle.lf_num.proofs.Sums.{sum_below-same, sum_below-suc}
use Rattle.lf_num.proofs.ToggleLemmas.{bit_at-turned, bit_at-kept}
use Rattle.parity_code.specs.Parity.{parity, code, read_of}

-- a turned bit makes an odd number of ones even, and an even one odd
ones_turned : (n c bit : ℕ) → bit < n → ones_below n (bit_xor c (2 ^ bit)) % 2 ≡ (ones_below n c + 1) % 2
unfolding sum_below
ones_turned zero c bit lt = absurd (omega arith)
ones_turned (suc n) c bit lt =
    elim (cases_eq bit n) [
      | inl same ↦
          let before = sum_below-same n (λ i. bit_at (bit_xor c (2 ^ bit)) i) (λ i. bit_at c i) (λ i i_lt. bit_at-kept c bit i (λ e. absurd (omega arith))) in
          let turned : bit_at (bit_xor c (2 ^ bit)) n ≡ (bit_at c n + 1) % 2 = subst (λ (k : ℕ). bit_at (bit_xor c (2 ^ bit)) k ≡ (bit_at c k + 1) % 2) same (bit_at-turned c bit) in
          let digit : bit_at c n < 2 = bit_at-lt c n in
          omega (arith, before)
      | inr other ↦
          let before : ones_below n (bit_xor c (2 ^ bit)) % 2 ≡ (ones_below n c + 1) % 2 = ones_turned n c bit (omega arith) in
          let kept : bit_at (bit_xor c (2 ^ bit)) n ≡ bit_at c n = bit_at-kept c bit n (λ e. other (sym e)) in
          omega arith
    ]

-- the ones of nine bits are those of the byte and bit 8
ones_split : (bits high byte : ℕ) → bits ≡ high * 2 ^ 8 + byte → high < 2 → byte < 2 ^ 8 → ones_below 9 bits ≡ ones_below 8 byte + high
ones_split bits high byte is small fits =
    let low = sum_below-same 8 (λ i. bit_at bits i) (λ i. bit_at byte i) (λ i lt. ap (λ (n : ℕ). bit_at n i) is ∙ bit_at_cat_low high 8 byte i lt) in
    let top : bit_at bits 8 ≡ high = omega arith in
    sum_below-suc 8 (λ i. bit_at bits i) ∙ ap₂ (λ (a b : ℕ). a + b) low top

ones_parted : (bits : ℕ) → bits < 2 ^ 9 → ones_below 9 bits ≡ ones_below 8 (bits % 2 ^ 8) + bits / 2 ^ 8
ones_parted bits fits = ones_split bits (bits / 2 ^ 8) (bits % 2 ^ 8) (omega arith) (omega arith) (omega arith)

-- as a byte is put they are even in number
ones_code : (byte : ℕ) → byte < 2 ^ 8 → ones_below 9 (code byte) % 2 ≡ 0
unfolding code
ones_code byte fits =
    let whole = ones_split (parity byte * 2 ^ 8 + byte) (parity byte) byte refl (omega arith) fits in
    omega (arith, whole)

-- and with one bit turned odd
ones_struck : (byte bit : ℕ) → byte < 2 ^ 8 → bit < 9 → ones_below 9 (bit_xor (code byte) (2 ^ bit)) % 2 ≡ 1
ones_struck byte bit fits lt = omega (arith, ones_turned 9 (code byte) bit lt, ones_code byte fits)

-- the byte of nine bits as it was put
pub byte_of-code : (byte : ℕ) → byte < 2 ^ 8 → code byte % 2 ^ 8 ≡ byte
unfolding code
byte_of-code byte fits = mod_low (parity byte) 8 byte fits

-- the promise of `get9`: where bit 8 is the parity of the others, and where it is not
pub reads_even : (bits byte : ℕ) (turned : List ℕ) → bits < 2 ^ 9 → bits / 2 ^ 8 ≡ parity (bits % 2 ^ 8) → byte < 2 ^ 8 → IsPlaceSet 9 turned → length turned ≤ 1
    → bits ≡ struck (code byte) turned → Some (bits % 2 ^ 8) ≡ read_of byte turned
reads_even bits byte [] fits even byte_fits set few is = ap (λ (b : ℕ). Some b) (ap (λ (n : ℕ). n % 2 ^ 8) is ∙ byte_of-code byte byte_fits)
reads_even bits byte (bit ∷ []) fits even byte_fits set few is =
    let odd : ones_below 9 bits % 2 ≡ 1 = ap (λ (n : ℕ). ones_below 9 n % 2) is ∙ ones_struck byte bit byte_fits set.0 in
    absurd (omega (arith, odd, even, ones_parted bits fits))
reads_even bits byte (a ∷ b ∷ rest) fits even byte_fits set few is = absurd (omega arith)

pub reads_odd : (bits byte : ℕ) (turned : List ℕ) → bits < 2 ^ 9 → bits / 2 ^ 8 ≢ parity (bits % 2 ^ 8) → byte < 2 ^ 8 → IsPlaceSet 9 turned → length turned ≤ 1
    → bits ≡ struck (code byte) turned → None ≡ read_of byte turned
reads_odd bits byte [] fits odd byte_fits set few is =
    let even : ones_below 9 bits % 2 ≡ 0 = ap (λ (n : ℕ). ones_below 9 n % 2) is ∙ ones_code byte byte_fits in
    absurd (odd (omega (arith, even, ones_parted bits fits)))
reads_odd bits byte (bit ∷ []) fits odd byte_fits set few is = refl
reads_odd bits byte (a ∷ b ∷ rest) fits odd byte_fits set few is = absurd (omega arith)

-- the nine bits fit
pub code-lt : (byte : ℕ) → byte < 2 ^ 8 → code byte < 2 ^ 9
unfolding code
code-lt byte fits = omega arith
