-- The laws of the two codes, by what their crates prove of them.
use Rattle.std.specs.Prelude.{◌≡◌, ◌≢◌, ℕ, ◌^◌, ◌<◌, true, false, [], ◌∷◌, Some, None, IfSome, bit_xor, refl}
use Rattle.std.proofs.lemmas.Bool.{ltb-true}
use Rattle.lf_num.proofs.ToggleLemmas.{turned_back}
use Rattle.parity_code.specs.Parity as parity
use Rattle.parity_code.proofs.ParityLemmas as bytes
use Rattle.edac_code.specs.Code as word_code
use Rattle.edac_code.specs.Reading as words
use Rattle.edac_code.proofs.Checks as checks
use Rattle.ft_cells.specs.Codes.{is_byte, shown_byte, is_some_byte, is_word, shown_word, is_clean_word}

-- ---- bytes with their parity

pub byte_fits : (byte : ℕ) → is_byte byte ≡ true → parity.code byte < 2 ^ 9
byte_fits byte is = bytes.code-lt byte (ltb-true byte (2 ^ 8) is)

pub byte_reads_back : (byte : ℕ) → is_byte byte ≡ true → (shown_byte (parity.read_of byte []) ≡ Some byte) × (is_some_byte (parity.read_of byte []) ≡ true)
byte_reads_back byte is = (refl, refl)

pub byte_one_flip : (byte bit : ℕ) → is_byte byte ≡ true → bit < 9
    → (is_some_byte (parity.read_of byte (bit ∷ [])) ≡ false) × IfSome (shown_byte (parity.read_of byte (bit ∷ []))) (λ b. b ≡ byte)
byte_one_flip byte bit is lt = (refl, tt)

pub byte_two_flips : (byte a b : ℕ) → ◌≡◌ {A = ℕ} 1 2 → is_byte byte ≡ true → a < 9 → b < 9 → b ≢ a
    → (is_some_byte (parity.read_of byte (a ∷ b ∷ [])) ≡ false) × (shown_byte (parity.read_of byte (a ∷ b ∷ [])) ≡ None)
byte_two_flips byte a b budget is a_lt b_lt other = (refl, refl)

pub byte_turned_back : (byte bit : ℕ) → ◌≡◌ {A = ℕ} 1 2 → is_byte byte ≡ true → bit < 9 → bit_xor (bit_xor (parity.code byte) (2 ^ bit)) (2 ^ bit) ≡ parity.code byte
byte_turned_back byte bit budget is lt = turned_back (parity.code byte) bit

-- ---- words under the (39,32) code

pub word_fits : (word : ℕ) → is_word word ≡ true → word_code.code word < 2 ^ 39
word_fits word is = checks.code-lt word (ltb-true word (2 ^ 32) is)

pub word_reads_back : (word : ℕ) → is_word word ≡ true → (shown_word (words.read_of word []) ≡ Some word) × (is_clean_word (words.read_of word []) ≡ true)
word_reads_back word is = (refl, refl)

pub word_one_flip : (word bit : ℕ) → is_word word ≡ true → bit < 39
    → (is_clean_word (words.read_of word (bit ∷ [])) ≡ false) × IfSome (shown_word (words.read_of word (bit ∷ []))) (λ w. w ≡ word)
word_one_flip word bit is lt = (refl, refl)

pub word_two_flips : (word a b : ℕ) → ◌≡◌ {A = ℕ} 2 2 → is_word word ≡ true → a < 39 → b < 39 → b ≢ a
    → (is_clean_word (words.read_of word (a ∷ b ∷ [])) ≡ false) × (shown_word (words.read_of word (a ∷ b ∷ [])) ≡ None)
word_two_flips word a b budget is a_lt b_lt other = (refl, refl)

pub word_turned_back : (word bit : ℕ) → ◌≡◌ {A = ℕ} 2 2 → is_word word ≡ true → bit < 39 → bit_xor (bit_xor (word_code.code word) (2 ^ bit)) (2 ^ bit) ≡ word_code.code word
word_turned_back word bit budget is lt = turned_back (word_code.code word) bit
