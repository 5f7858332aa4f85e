-- Fields of more than one form: words that may read bad, and numbers of 1, 2, 4 or 8 bytes.
use Rattle.std.proofs.Common.{◌≡◌, ℕ, ◌-◌, ◌*◌, ◌^◌, ◌<◌, List, [], ◌∷◌, ◌++◌, true, eqb, eqb-true, refl, sym, ap, ◌∙◌, ◌⊎◌, inl, inr, arith}
use Rattle.std.specs.Prelude.{Option, Some, None, codes, nat_le}
use Rattle.std.proofs.lemmas.Bool.{or_cases, lt-ltb, ltb-true}
use Rattle.std.proofs.lemmas.Bool.Decides.{nat_tests}
use Rattle.lf_model.specs.Texts.{number, hex_field}
use Rattle.lf_model.specs.Promise.RegularTransfer.{fits_word, fits_byte}
use Rattle.report_fields.proofs.Decimal.{number_reads}
use Rattle.lf_model.specs.Report.{word_field}
use Rattle.lf_model.specs.Promise.Regular.{value_fits, is_length, number_fits}
use Rattle.report_fields.specs.Reading.{Read, as_at, row}
use Rattle.report_fields.specs.Digits.{any, number_at, hex_at, value_at, sized_at}
use Rattle.report_fields.proofs.Laws.{Reads, as_reads, either_reads, row_reads, fits_reads}
use Rattle.report_fields.proofs.Hexadecimal.{hex_reads, hex_refuses, no_dash}

abbrev IsWord : Option ℕ → Type 0
IsWord None = ⊥
IsWord (Some w) = w < 16 ^ 8

some_reads : (stop : ℕ) → Reads IsWord (word_field stop) (as_at Some (hex_at stop 8))
unfolding word_field
some_reads stop = as_reads IsWord (word_field stop) Some (worth 0) (hex_reads stop 8) (λ w small. (refl, small)) ago
  where
    worth : ℕ → Option ℕ → ℕ
    worth d None = d
    worth d (Some w) = w

    ago : (v : Option ℕ) → IsWord v → (word_field stop v ≡ hex_field stop 8 (worth 0 v)) × ((Some (worth 0 v) ≡ v) × (worth 0 v < 16 ^ 8))
    ago None fits = absurd fits
    ago (Some w) fits = (refl, (refl, fits))

value_there : (v : Option ℕ) → (v ≡ None) ⊎ IsWord v → value_fits v ≡ true
value_there None h = refl
value_there (Some w) (inl none) = absurd cc
value_there (Some w) (inr small) = grind (arith, nat_tests)

value_back : (v : Option ℕ) → value_fits v ≡ true → (v ≡ None) ⊎ IsWord v
value_back None fits = inl refl
value_back (Some w) fits = inr (grind (arith, nat_tests))

dashes_refuse : (stop : ℕ) (v : Option ℕ) (rest : List ℕ) → IsWord v → ◌≡◌ {A = Read (Option ℕ)} (row {X = Option ℕ} (codes "--------" ++ stop ∷ []) None (word_field stop v ++ rest)) None
unfolding word_field
dashes_refuse stop None rest fits = absurd fits
dashes_refuse stop (Some w) rest fits = rw (no_dash stop 7 w (codes "-------" ++ stop ∷ []) rest) refl

-- a word in eight digits, or eight dashes
pub value_reads : (stop : ℕ) → Reads (λ v. value_fits v ≡ true) (word_field stop) (value_at stop)
unfolding value_at word_field
value_reads stop = fits_reads (λ v. value_fits v ≡ true) (either_reads (row_reads (word_field stop) (codes "--------" ++ stop ∷ []) None refl) (some_reads stop) (dashes_refuse stop)) value_there value_back

-- ---- numbers of 1, 2, 4 or 8 bytes

abbrev pub sized_field : ℕ → ℕ × ℕ → List ℕ
sized_field stop z = hex_field stop (2 * z.0) z.1

abbrev IsOf : ℕ → ℕ × ℕ → Type 0
IsOf len z = (z.0 ≡ len) × (z.1 < 16 ^ (2 * len))

of_reads : (stop len digits : ℕ) → digits ≡ 2 * len → Reads (IsOf len) (sized_field stop) (as_at (λ n. (len, n)) (hex_at stop digits))
of_reads stop len digits is = as_reads (IsOf len) (sized_field stop) (λ n. (len, n)) (λ z. z.1) (hex_reads stop digits)
    (λ n small. (ap (λ (k : ℕ). hex_field stop k n) (sym is), (refl, rw (← is) small)))
    (λ z fits. (ap (λ (k : ℕ). hex_field stop k z.1) (ap (λ (l : ℕ). 2 * l) fits.0 ∙ sym is), (ap (λ (l : ℕ). (l, z.1)) (sym fits.0), rw is fits.1)))

of_refuses : (stop len digits : ℕ) (z : ℕ × ℕ) (rest : List ℕ) → stop < 48 → digits < 2 * z.0
    → ◌≡◌ {A = Read (ℕ × ℕ)} (as_at (λ n. (len, n)) (hex_at stop digits) (sized_field stop z ++ rest)) None
of_refuses stop len digits z rest below more =
    rw (hex_refuses stop digits (2 * z.0 - digits - 1) z.1 (2 * z.0) rest below (omega arith)) refl

abbrev IsSized : ℕ × ℕ → Type 0
IsSized z = IsOf 1 z ⊎ (IsOf 2 z ⊎ (IsOf 4 z ⊎ IsOf 8 z))

there : (len : ℕ) (z : ℕ × ℕ) → IsOf len z → 256 ^ len ≡ 16 ^ (2 * len) → is_length len ≡ true → (is_length z.0 ≡ true) × (number_fits z.0 z.1 ≡ true)
there len z h same right = (ap is_length h.0 ∙ right, lt-ltb z.1 (256 ^ z.0) (rw (h.0, same) h.1))

back : (len : ℕ) (z : ℕ × ℕ) → eqb z.0 len ≡ true → number_fits z.0 z.1 ≡ true → 256 ^ len ≡ 16 ^ (2 * len) → IsOf len z
back len z e fits same =
    let is : z.0 ≡ len = eqb-true z.0 len e in
    (is, rw (← same, ← is) (ltb-true z.1 (256 ^ z.0) fits))

sized_there : (z : ℕ × ℕ) → IsSized z → (is_length z.0 ≡ true) × (number_fits z.0 z.1 ≡ true)
sized_there z (inl h) = there 1 z h refl refl
sized_there z (inr (inl h)) = there 2 z h refl refl
sized_there z (inr (inr (inl h))) = there 4 z h refl refl
sized_there z (inr (inr (inr h))) = there 8 z h refl refl

sized_back : (z : ℕ × ℕ) → (is_length z.0 ≡ true) × (number_fits z.0 z.1 ≡ true) → IsSized z
sized_back z h =
    elim (or_cases _ _ h.0) [
      | inl one ↦ inl (back 1 z one h.1 refl)
      | inr more ↦ elim (or_cases _ _ more) [
        | inl two ↦ inr (inl (back 2 z two h.1 refl))
        | inr most ↦ elim (or_cases _ _ most) [
          | inl four ↦ inr (inr (inl (back 4 z four h.1 refl)))
          | inr eight ↦ inr (inr (inr (back 8 z eight h.1 refl)))
        ]
      ]
    ]

pub sized_reads : (stop : ℕ) → stop < 48 → Reads (λ z. (is_length z.0 ≡ true) × (number_fits z.0 z.1 ≡ true)) (sized_field stop) (sized_at stop)
unfolding sized_at
sized_reads stop below =
    let last = either_reads (of_reads stop 4 8 refl) (of_reads stop 8 16 refl) (λ z rest h. of_refuses stop 4 8 z rest below (omega (arith, h.0))) in
    let later = either_reads (of_reads stop 2 4 refl) last (λ z rest h. of_refuses stop 2 4 z rest below (longer z h)) in
    fits_reads (λ z. (is_length z.0 ≡ true) × (number_fits z.0 z.1 ≡ true))
    (either_reads (of_reads stop 1 2 refl) later (λ z rest h. of_refuses stop 1 2 z rest below (longest z h))) sized_there sized_back
  where
    longer : (z : ℕ × ℕ) → IsOf 4 z ⊎ IsOf 8 z → 4 < 2 * z.0
    longer z (inl h) = omega (arith, h.0)
    longer z (inr h) = omega (arith, h.0)

    longest : (z : ℕ × ℕ) → IsOf 2 z ⊎ (IsOf 4 z ⊎ IsOf 8 z) → 2 < 2 * z.0
    longest z (inl h) = omega (arith, h.0)
    longest z (inr (inl h)) = omega (arith, h.0)
    longest z (inr (inr h)) = omega (arith, h.0)

-- ---- fields of one form, with what fits as a regular trace has it

-- a decimal number without a bound of its own
pub any_reads : (stop : ℕ) → stop < 48 → Reads (λ n. fits_word n ≡ true) (number stop) (number_at stop any)
any_reads stop below = fits_reads (λ n. fits_word n ≡ true) (number_reads stop any below (omega arith)) (λ n h. grind (arith, nat_tests)) (λ n h. grind (arith, nat_tests))

pub up_to_reads : (stop last : ℕ) → stop < 48 → last < 10 ^ 10 → Reads (λ n. nat_le n last ≡ true) (number stop) (number_at stop last)
up_to_reads stop last below most = fits_reads (λ n. nat_le n last ≡ true) (number_reads stop last below most) (λ n h. grind (arith, nat_tests)) (λ n h. grind (arith, nat_tests))

pub way_reads : (stop : ℕ) → stop < 48 → Reads (λ n. fits_byte n ≡ true) (number stop) (number_at stop 255)
way_reads stop below = fits_reads (λ n. fits_byte n ≡ true) (number_reads stop 255 below (omega arith)) (λ n h. grind (arith, nat_tests)) (λ n h. grind (arith, nat_tests))

pub byte_reads : (stop : ℕ) → Reads (λ n. fits_byte n ≡ true) (hex_field stop 2) (hex_at stop 2)
byte_reads stop = fits_reads (λ n. fits_byte n ≡ true) (hex_reads stop 2) (λ n h. lt-ltb n 256 h) (λ n h. ltb-true n 256 h)

pub hex_word_reads : (stop : ℕ) → Reads (λ n. fits_word n ≡ true) (hex_field stop 8) (hex_at stop 8)
hex_word_reads stop = fits_reads (λ n. fits_word n ≡ true) (hex_reads stop 8) (λ n h. lt-ltb n (2 ^ 32) h) (λ n h. ltb-true n (2 ^ 32) h)
