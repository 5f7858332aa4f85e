-- What the two codes protect, and what their answers show.
use Rattle.std.specs.Prelude.{ℕ, ◌^◌, nat_lt, Bool, true, false, Option, Some, None}
use Rattle.edac_code.specs.declared.answer.Read39.{Read39}
use Rattle.edac_code.specs.declared.answer.Read39.TheVariants.{Clean, Fixed, Bad}

-- a byte, and a word
abbrev pub is_byte : ℕ → Bool
is_byte value = nat_lt value (2 ^ 8)

abbrev pub is_word : ℕ → Bool
is_word value = nat_lt value (2 ^ 32)

-- the byte that nine bits show, and whether they tell of no fault
abbrev pub shown_byte : Option ℕ → Option ℕ
shown_byte answer = answer

abbrev pub is_some_byte : Option ℕ → Bool
is_some_byte (Some byte) = true
is_some_byte None = false

-- the word that 39 bits show: the one put right is shown too
abbrev pub shown_word : Read39 → Option ℕ
shown_word (Clean word) = Some word
shown_word (Fixed word bit) = Some word
shown_word (Bad syndrome) = None

-- whether they tell of no fault
abbrev pub is_clean_word : Read39 → Bool
is_clean_word (Clean word) = true
is_clean_word (Fixed word bit) = false
is_clean_word (Bad syndrome) = false
