-- One more digit is read.
use Rattle.std.proofs.Common.{◌≡◌, ℕ, zero, suc, ◌+◌, ◌-◌, ◌*◌, ◌≤◌, List, ◌∷◌, refl, sym, ◌∙◌, arith}
use Rattle.std.proofs.lemmas.Bool.{ne_eqb}
use Rattle.std.proofs.lemmas.Bool.Decides.{nat_tests}
use Rattle.std.specs.Prelude.{Some, true}
use Rattle.report_fields.specs.Reading.{Read}
use Rattle.report_fields.specs.Digits.{is_digit, digits_more, digit_of, hex_more}

pub digits_step : (stop left later n d b : ℕ) (rest after : List ℕ) (read : Read ℕ) → left ≡ later + 1 → (b ≡ stop → ⊥) → is_digit b ≡ true → d ≡ b - 48
    → rest ≡ b ∷ after → digits_more stop left n rest ≡ read → digits_more stop later (10 * n + d) after ≡ read
digits_step stop zero later n d b rest after read one other digit is here e = absurd (omega arith)
digits_step stop (suc k) later n d b rest after read one other digit is here e =
    let same : later ≡ k = omega arith in
    let opened : digits_more stop (suc k) n (b ∷ after) ≡ digits_more stop k (10 * n + (b - 48)) after = rw (ne_eqb b stop other, digit) refl in
    rw (same, is) (sym opened ∙ rw here at e)

pub hex_step : (left later n d b : ℕ) (rest after : List ℕ) (read : Read ℕ) → left ≡ later + 1 → digit_of b ≡ Some d
    → rest ≡ b ∷ after → hex_more left n rest ≡ read → hex_more later (16 * n + d) after ≡ read
hex_step zero later n d b rest after read one digit here e = absurd (omega arith)
hex_step (suc k) later n d b rest after read one digit here e =
    let same : later ≡ k = omega arith in
    let opened : hex_more (suc k) n (b ∷ after) ≡ hex_more k (16 * n + d) after = rw digit refl in
    rw same (sym opened ∙ rw here at e)

pub at_most_9 : (b d : ℕ) → is_digit b ≡ true → d ≡ b - 48 → d ≤ 9
at_most_9 b d digit is = grind (arith, nat_tests)
