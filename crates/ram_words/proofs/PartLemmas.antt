-- A word with a byte or half replaced: as a number, and byte by byte.
use Rattle.std.proofs.Common.{◌≡◌, ℕ, zero, suc, ◌+◌, ◌*◌, ◌/◌, ◌%◌, ◌^◌, ◌<◌, IsTrue, refl, sym, subst, arith, inl, inr}
use Rattle.std.proofs.lemmas.Bool.{cases_eq}
use Rattle.std.proofs.lemmas.Bool.Decides.{nat_tests}
use Rattle.ram_words.specs.Parts.{is_part, merged, HasMergedBytes}

-- each byte and half of a word, by its place in it: the word as a number
pub first_byte : (word addr len value : ℕ) → len ≡ 1 → addr % 4 ≡ 0 → merged word addr len value ≡ word / 2 ^ 32 * 2 ^ 32 + value % 2 ^ 8 * 2 ^ 24 + word % 2 ^ 24
unfolding merged
first_byte word addr len value size place = rw (size, place) refl

pub second_byte : (word addr len value : ℕ) → len ≡ 1 → addr % 4 ≡ 1 → merged word addr len value ≡ word / 2 ^ 24 * 2 ^ 24 + value % 2 ^ 8 * 2 ^ 16 + word % 2 ^ 16
unfolding merged
second_byte word addr len value size place = rw (size, place) refl

pub third_byte : (word addr len value : ℕ) → len ≡ 1 → addr % 4 ≡ 2 → merged word addr len value ≡ word / 2 ^ 16 * 2 ^ 16 + value % 2 ^ 8 * 2 ^ 8 + word % 2 ^ 8
unfolding merged
third_byte word addr len value size place = rw (size, place) refl

pub fourth_byte : (word addr len value : ℕ) → len ≡ 1 → addr % 4 ≡ 3 → merged word addr len value ≡ word / 2 ^ 8 * 2 ^ 8 + value % 2 ^ 8
unfolding merged
fourth_byte word addr len value size place = rw (size, place) (omega arith)

pub first_half : (word addr len value : ℕ) → len ≡ 2 → addr % 4 ≡ 0 → merged word addr len value ≡ word / 2 ^ 32 * 2 ^ 32 + value % 2 ^ 16 * 2 ^ 16 + word % 2 ^ 16
unfolding merged
first_half word addr len value size place = rw (size, place) refl

pub second_half : (word addr len value : ℕ) → len ≡ 2 → addr % 4 ≡ 2 → merged word addr len value ≡ word / 2 ^ 16 * 2 ^ 16 + value % 2 ^ 16
unfolding merged
second_half word addr len value size place = rw (size, place) (omega arith)

-- and its bytes
first_byte-bytes : (word addr len value : ℕ) → word < 2 ^ 32 → len ≡ 1 → addr % 4 ≡ 0 → HasMergedBytes word addr len value (word / 2 ^ 32 * 2 ^ 32 + value % 2 ^ 8 * 2 ^ 24 + word % 2 ^ 24)
first_byte-bytes word addr len value fits size place zero lt = rw (size, place) (omega arith)
first_byte-bytes word addr len value fits size place (suc zero) lt = rw (size, place) (omega arith)
first_byte-bytes word addr len value fits size place (suc (suc zero)) lt = rw (size, place) (omega arith)
first_byte-bytes word addr len value fits size place (suc (suc (suc zero))) lt = rw (size, place) (omega arith)
first_byte-bytes word addr len value fits size place (suc (suc (suc (suc i)))) lt = absurd (omega arith)

second_byte-bytes : (word addr len value : ℕ) → word < 2 ^ 32 → len ≡ 1 → addr % 4 ≡ 1 → HasMergedBytes word addr len value (word / 2 ^ 24 * 2 ^ 24 + value % 2 ^ 8 * 2 ^ 16 + word % 2 ^ 16)
second_byte-bytes word addr len value fits size place zero lt = rw (size, place) (omega arith)
second_byte-bytes word addr len value fits size place (suc zero) lt = rw (size, place) (omega arith)
second_byte-bytes word addr len value fits size place (suc (suc zero)) lt = rw (size, place) (omega arith)
second_byte-bytes word addr len value fits size place (suc (suc (suc zero))) lt = rw (size, place) (omega arith)
second_byte-bytes word addr len value fits size place (suc (suc (suc (suc i)))) lt = absurd (omega arith)

third_byte-bytes : (word addr len value : ℕ) → word < 2 ^ 32 → len ≡ 1 → addr % 4 ≡ 2 → HasMergedBytes word addr len value (word / 2 ^ 16 * 2 ^ 16 + value % 2 ^ 8 * 2 ^ 8 + word % 2 ^ 8)
third_byte-bytes word addr len value fits size place zero lt = rw (size, place) (omega arith)
third_byte-bytes word addr len value fits size place (suc zero) lt = rw (size, place) (omega arith)
third_byte-bytes word addr len value fits size place (suc (suc zero)) lt = rw (size, place) (omega arith)
third_byte-bytes word addr len value fits size place (suc (suc (suc zero))) lt = rw (size, place) (omega arith)
third_byte-bytes word addr len value fits size place (suc (suc (suc (suc i)))) lt = absurd (omega arith)

fourth_byte-bytes : (word addr len value : ℕ) → word < 2 ^ 32 → len ≡ 1 → addr % 4 ≡ 3 → HasMergedBytes word addr len value (word / 2 ^ 8 * 2 ^ 8 + value % 2 ^ 8)
fourth_byte-bytes word addr len value fits size place zero lt = rw (size, place) (omega arith)
fourth_byte-bytes word addr len value fits size place (suc zero) lt = rw (size, place) (omega arith)
fourth_byte-bytes word addr len value fits size place (suc (suc zero)) lt = rw (size, place) (omega arith)
fourth_byte-bytes word addr len value fits size place (suc (suc (suc zero))) lt = rw (size, place) (omega arith)
fourth_byte-bytes word addr len value fits size place (suc (suc (suc (suc i)))) lt = absurd (omega arith)

first_half-bytes : (word addr len value : ℕ) → word < 2 ^ 32 → len ≡ 2 → addr % 4 ≡ 0 → HasMergedBytes word addr len value (word / 2 ^ 32 * 2 ^ 32 + value % 2 ^ 16 * 2 ^ 16 + word % 2 ^ 16)
first_half-bytes word addr len value fits size place zero lt = rw (size, place) (omega arith)
first_half-bytes word addr len value fits size place (suc zero) lt = rw (size, place) (omega arith)
first_half-bytes word addr len value fits size place (suc (suc zero)) lt = rw (size, place) (omega arith)
first_half-bytes word addr len value fits size place (suc (suc (suc zero))) lt = rw (size, place) (omega arith)
first_half-bytes word addr len value fits size place (suc (suc (suc (suc i)))) lt = absurd (omega arith)

second_half-bytes : (word addr len value : ℕ) → word < 2 ^ 32 → len ≡ 2 → addr % 4 ≡ 2 → HasMergedBytes word addr len value (word / 2 ^ 16 * 2 ^ 16 + value % 2 ^ 16)
second_half-bytes word addr len value fits size place zero lt = rw (size, place) (omega arith)
second_half-bytes word addr len value fits size place (suc zero) lt = rw (size, place) (omega arith)
second_half-bytes word addr len value fits size place (suc (suc zero)) lt = rw (size, place) (omega arith)
second_half-bytes word addr len value fits size place (suc (suc (suc zero))) lt = rw (size, place) (omega arith)
second_half-bytes word addr len value fits size place (suc (suc (suc (suc i)))) lt = absurd (omega arith)

-- so a word has the bytes of the number where they were put, and its own elsewhere
pub merged-bytes : (word addr len value : ℕ) → word < 2 ^ 32 → IsTrue (is_part len) → addr % len ≡ 0 → HasMergedBytes word addr len value (merged word addr len value)
merged-bytes word addr len value fits part aligned =
    let P : ℕ → Type 0 = HasMergedBytes word addr len value in
    elim (cases_eq len 1) [
      | inl byte ↦ elim (cases_eq (addr % 4) 0) [
        | inl place ↦ subst P (sym (first_byte word addr len value byte place)) (first_byte-bytes word addr len value fits byte place)
        | inr not_first ↦ elim (cases_eq (addr % 4) 1) [
          | inl place ↦ subst P (sym (second_byte word addr len value byte place)) (second_byte-bytes word addr len value fits byte place)
          | inr not_second ↦ elim (cases_eq (addr % 4) 2) [
            | inl place ↦ subst P (sym (third_byte word addr len value byte place)) (third_byte-bytes word addr len value fits byte place)
            | inr not_third ↦
                let place : addr % 4 ≡ 3 = omega arith in
                subst P (sym (fourth_byte word addr len value byte place)) (fourth_byte-bytes word addr len value fits byte place)
          ]
        ]
      ]
      | inr not_byte ↦
          let half : len ≡ 2 = grind (arith, nat_tests) in
          elim (cases_eq (addr % 4) 0) [
            | inl place ↦ subst P (sym (first_half word addr len value half place)) (first_half-bytes word addr len value fits half place)
            | inr not_first ↦
                let even : addr % 2 ≡ 0 = rw half at aligned in
                let place : addr % 4 ≡ 2 = omega arith in
                subst P (sym (second_half word addr len value half place)) (second_half-bytes word addr len value fits half place)
          ]
    ]
