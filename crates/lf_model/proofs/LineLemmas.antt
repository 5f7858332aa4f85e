-- The tag bytes and the set of an address tell its line; a slot is of one set.
use Rattle.std.proofs.Common.{◌≡◌, ◌∙◌, ◌+◌, ◌-◌, ◌*◌, ◌/◌, ◌%◌, ◌^◌, ◌==◌, ◌||◌, ◌≤◌, ◌<◌, ◌⊎◌, nat_lt, ℕ, zero, suc, Bool, true, false, refl, ap, sym, arith, inl, inr}
use Rattle.std.proofs.Math.Nat.{mod-mod_of_dvd, mul-le-mul_right, suc-mul}
use Rattle.std.proofs.lemmas.Nat.Gcd.{dvd_of_mod-eq-zero}
use Rattle.std.proofs.lemmas.Bool.{cases_Bool, eqb-true, eq-eqb}
use Rattle.std.specs.List.{list_any, range_with_len}

true_not_false : true ≡ false → ⊥
true_not_false e = absurd cc

-- the part of a number between the low three bits and those above
low_bits : (n sets : ℕ) → sets % 8 ≡ 0 → n % sets % 8 ≡ n % 8
low_bits n sets by_eight = mod-mod_of_dvd 8 n (dvd_of_mod-eq-zero 8 by_eight)

pub same_line : (a b sets : ℕ) → a < 2 ^ 32 → b < 2 ^ 32 → sets % 8 ≡ 0
    → a / 2 ^ 24 % 256 ≡ b / 2 ^ 24 % 256 → a / 2 ^ 16 % 256 ≡ b / 2 ^ 16 % 256 → a / 2 ^ 8 % 256 ≡ b / 2 ^ 8 % 256
    → a / 32 % sets ≡ b / 32 % sets → a - a % 32 ≡ b - b % 32
same_line a b sets la lb by_eight h0 h1 h2 set =
    let e : a / 32 % 8 ≡ b / 32 % 8 = sym (low_bits (a / 32) sets by_eight) ∙ (ap (λ n. n % 8) set ∙ low_bits (b / 32) sets by_eight) in
    omega (arith, la, lb, h0, h1, h2, e)

-- ---- the numbers of a range

pub or_case : (b r : Bool) → (b || r) ≡ true → (b ≡ true) ⊎ (r ≡ true)
or_case true r e = inl refl
or_case false r e = inr e

pub or_left : (b r : Bool) → b ≡ true → (b || r) ≡ true
or_left true r e = refl
or_left false r e = absurd cc

pub or_right : (b r : Bool) → r ≡ true → (b || r) ≡ true
or_right true r e = refl
or_right false r e = e

pub among : (i first n : ℕ) → list_any (λ j. j == i) (range_with_len first n) ≡ true → (first ≤ i) × (i < first + n)
among i first zero e = absurd cc
among i first (suc n) e = elim (or_case (first == i) (list_any (λ j. j == i) (range_with_len (first + 1) n)) e) [
  | inl same ↦ let h = eqb-true first i same in (omega (arith, h), omega (arith, h))
  | inr later ↦ let h = among i (first + 1) n later in (omega (arith, h.0), omega (arith, h.1))
]

pub is_among : (i first n : ℕ) → first ≤ i → i < first + n → list_any (λ j. j == i) (range_with_len first n) ≡ true
is_among i first zero from below = absurd (omega (arith, from, below))
is_among i first (suc n) from below = elim (cases_Bool (first == i)) [
  | inl same ↦ or_left (first == i) _ same
  | inr other ↦ or_right (first == i) _ (is_among i (first + 1) n (above first i from other) (omega (arith, below)))
]
  where
    above : (first i : ℕ) → first ≤ i → (first == i) ≡ false → first + 1 ≤ i
    above first i from other = elim (cases_Bool (nat_lt first i)) [
      | inl less ↦ grind (arith, less)
      | inr more ↦ absurd (true_not_false (sym (eq-eqb first i (grind (arith, more, from))) ∙ other))
    ]

-- ---- the set of a slot

no_less : (a b c w i : ℕ) → c ≤ b → c ≡ a + w → b ≤ i → i < a + w → ⊥
no_less a b c w i h0 h1 h2 h3 = omega (arith, h0, h1, h2, h3)

not_below : (q r w i : ℕ) → r * w ≤ i → i < q * w + w → q < r → ⊥
not_below q r w i from below less = no_less (q * w) (r * w) (suc q * w) w i (mul-le-mul_right w less) (suc-mul q w) from below

pub same_set : (q r w i : ℕ) → q * w ≤ i → i < q * w + w → r * w ≤ i → i < r * w + w → q ≡ r
same_set q r w i h0 h1 h2 h3 = elim (cases_Bool (nat_lt q r)) [
  | inl less ↦ absurd (not_below q r w i h2 h1 (grind (arith, less)))
  | inr not_less ↦ elim (cases_Bool (nat_lt r q)) [
    | inl more ↦ absurd (not_below r q w i h0 h3 (grind (arith, more)))
    | inr not_more ↦ grind (arith, not_less, not_more)
  ]
]
