-- The number that digits write is the one that `parse` reads.
use Rattle.std.proofs.Common.{ℕ, ◌≡◌, ◌<◌, ◌≤◌, ◌^◌, ◌&&◌, true, false, List, [], ◌∷◌, length, None, Result, Ok, Err, inl, inr, refl, arith}
use Rattle.std.specs.Char.{digit_value, is_digit}
use Rattle.std.specs.List.{list_all}
use Rattle.std.specs.Result.{OkIff, result_ok}
use Rattle.std.specs.Prelude.{nat_le, nat_lt}
use Rattle.std.specs.Str.Parse.{AllDigits, digits_value, ParsesUnsigned}
use Rattle.std.proofs.lemmas.Bool.{cases_Bool, and_parts, and_right, le-leb, lt-leb, lt-ltb, ltb-true}
use Rattle.std.proofs.lemmas.Str.Parse.{tells_digits, numerals_by_value, parse_digits}
use Rattle.leon_main.specs.Words.{below, number}

all_digits : (word : List ℕ) → list_all (λ byte. is_digit byte 10) word ≡ true → AllDigits 10 word
all_digits [] all = tt
all_digits (byte ∷ bytes) all =
    let parts = and_parts (is_digit byte 10) (list_all (λ b. is_digit b 10) bytes) all in
    (ltb-true (digit_value byte) 10 parts.0, all_digits bytes parts.1)

-- what is read is the value of the digits, where it is below 2 ^ 64
by_value : {E : Type 0} (P : Type 0) (value : ℕ) (r : Result ℕ E) → OkIff r (P × (value < 2 ^ 64)) value → P → result_ok r ≡ below (2 ^ 64) value
by_value P value (Ok n) told p = rw (lt-ltb value (2 ^ 64) told.0.1, told.1) refl
by_value P value (Err e) told p = elim (cases_Bool (nat_lt value (2 ^ 64))) [
  | inl small ↦ absurd (told (p, ltb-true value (2 ^ 64) small))
  | inr large ↦ rw large refl
]

by_digits : {E : Type 0} (word : List ℕ) (r : Result ℕ E) → length word ≤ 20 → list_all (λ byte. is_digit byte 10) word ≡ true
    → OkIff r ((0 < length word) × (digits_value 10 word < 2 ^ 64)) (digits_value 10 word) → result_ok r ≡ number word
unfolding number
by_digits [] (Ok n) short all told = absurd (let some : 0 < 0 = told.0.0 in omega (arith, some))
by_digits [] (Err e) short all told = refl
by_digits (byte ∷ bytes) r short all told =
    rw (le-leb 1 (length (byte ∷ bytes)) (omega arith), le-leb (length (byte ∷ bytes)) 20 short, all)
    (by_value (0 < length (byte ∷ bytes)) (digits_value 10 (byte ∷ bytes)) r told (omega arith))

pub parsed : {E : Type 0} (word : List ℕ) (r : Result ℕ E) → length word ≤ 20 → list_all (λ byte. is_digit byte 10) word ≡ true
    → ParsesUnsigned 64 10 word r → result_ok r ≡ number word
parsed word r short all told =
    by_digits word r short all (parse_digits (numerals_by_value (AllDigits 10) tells_digits) 64 word r told (all_digits word all))

-- more than 20 digits, and what has another byte, are no number
pub long_is_none : (word : List ℕ) → 20 < length word → None ≡ number word
unfolding number
long_is_none word long =
    rw (and_right (nat_le 1 (length word)) (nat_le (length word) 20) (lt-leb (length word) 20 long)) refl

pub other_is_none : (word : List ℕ) → list_all (λ byte. is_digit byte 10) word ≡ false → None ≡ number word
unfolding number
other_is_none word other = elim (cases_Bool (nat_le 1 (length word) && nat_le (length word) 20)) [
  | inl fits ↦ rw (fits, other) refl
  | inr outside ↦ rw outside refl
]
