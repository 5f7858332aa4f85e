-- The bytes of a row of words, as one of them or all of them change.
use Rattle.std.proofs.Common.{◌≡◌, ◌≢◌, ℕ, ◌+◌, ◌*◌, ◌/◌, ◌%◌, ◌^◌, ◌<◌, ◌≤◌, List, [], ◌∷◌, length, map, slice_index, slice_set, refl, sym, ap, ◌∙◌, inl, inr, arith, lit<}
use Rattle.std.specs.List.{range_with_len}
use Rattle.std.proofs.lemmas.Bool.{cases_eq}
use Rattle.std.proofs.lemmas.List.{ext_get_or, length-map, length-set, get_or-set_same, get_or-set_other}
use Rattle.std.proofs.lemmas.List.FromFn.{length-range_with_len}
use Rattle.lf_model.specs.Caches.Slot.{tag_of}
use Rattle.lf_model.specs.Operation.{byte_of}
use Rattle.parity_units.specs.Bytes.{fresh_byte}
use Rattle.parity_units.specs.Events.{no_byte, byte_at}
use Rattle.parity_units.specs.declared.byte.ParityByte.{ParityByte}
use Rattle.parity_slots.specs.ParityWords.{byte_in, no_word, word_at, byte_among, bytes_in}
use Rattle.parity_slots.specs.SlotState.{bytes_of}
use Rattle.parity_slots.specs.declared.parity_word.ParityWord.{ParityWord}
use Rattle.parity_slots.proofs.FillLemmas.{fresh_in}
use Rattle.parity_slots.proofs.WordLemmas.{byte_of_words}

pub bytes_length : (count : ℕ) (words : List ParityWord) → length (bytes_in count words) ≡ count
bytes_length count words = length-map (range_with_len 0 count) (byte_among words) ∙ length-range_with_len 0 count

-- a word in which one byte is replaced
module _ (count : ℕ) (words : List ParityWord) (place : ℕ) (byte : ParityByte) (word : ParityWord) (all : count ≤ 4 * length words) (within : place < count)
    (here : byte_in word (place % 4) ≡ byte) (others : (j : ℕ) → j < 4 → j ≢ place % 4 → byte_in word j ≡ byte_in (word_at words (place / 4)) j) where
  there : place / 4 < length words
  there = omega (arith, all, within)

  -- the word of a byte
  in_word : (k : ℕ) → k / 4 ≡ place / 4 → byte_among (slice_set words (place / 4) word) k ≡ byte_in word (k % 4)
  in_word k same = ap (λ (w : ℕ). byte_in (word_at (slice_set words (place / 4) word) w) (k % 4)) same ∙ ap (λ (w : ParityWord). byte_in w (k % 4)) (get_or-set_same words (place / 4) word no_word there)

  pub set_among : bytes_in count (slice_set words (place / 4) word) ≡ slice_set (bytes_in count words) place byte
  set_among =
      let len : length (bytes_in count (slice_set words (place / 4) word)) ≡ length (slice_set (bytes_in count words) place byte) =
      bytes_length count (slice_set words (place / 4) word) ∙ sym (length-set (bytes_in count words) place byte ∙ bytes_length count words) in
      ext_get_or no_byte (bytes_in count (slice_set words (place / 4) word)) (slice_set (bytes_in count words) place byte) len
      (λ k lt.
      let few : k < count = omega (arith, lt, bytes_length count (slice_set words (place / 4) word)) in
      byte_of_words count (slice_set words (place / 4) word) k few ∙ (elim (cases_eq k place) [
        | inl is ↦
            in_word k (ap (λ (j : ℕ). j / 4) is)
            ∙ ap (λ (j : ℕ). byte_in word (j % 4)) is
            ∙ here
            ∙ sym (ap (λ (j : ℕ). byte_at (slice_set (bytes_in count words) place byte) j) is ∙ get_or-set_same (bytes_in count words) place byte no_byte (omega (arith, within, bytes_length count words)))
        | inr other ↦
            (elim (cases_eq (k / 4) (place / 4)) [
              | inl same ↦
                  in_word k same
                  ∙ others (k % 4) (omega arith) (omega (arith, same, other))
                  ∙ ap (λ (w : ℕ). byte_in (word_at words w) (k % 4)) (sym same)
              | inr elsewhere ↦ ap (λ (w : ParityWord). byte_in w (k % 4)) (get_or-set_other words (place / 4) (k / 4) word no_word elsewhere)
            ])
            ∙ sym (get_or-set_other (bytes_in count words) place k byte no_byte other ∙ byte_of_words count words k few)
      ]))

-- of a single word
pub set_one : (old word : ParityWord) (place : ℕ) (byte : ParityByte) → place < 4 → byte_in word place ≡ byte → ((j : ℕ) → j < 4 → j ≢ place → byte_in word j ≡ byte_in old j)
    → bytes_in 4 (word ∷ []) ≡ slice_set (bytes_in 4 (old ∷ [])) place byte
set_one old word place byte within here others =
    let rest : place % 4 ≡ place = omega (arith, within) in
    let first : place / 4 ≡ 0 = omega (arith, within) in
    sym (ap (λ (w : ℕ). bytes_in 4 (slice_set (old ∷ []) w word)) first)
    ∙ set_among 4 (old ∷ []) place byte word (omega arith) within (ap (byte_in word) rest ∙ here)
    (λ j lt other. others j lt (λ e. other (e ∙ sym rest)) ∙ ap (λ (w : ℕ). byte_in (word_at (old ∷ []) w) j) (sym first))

-- ---- words that are written

four : (a b c d a' b' c' d' : ParityByte) → a ≡ a' → b ≡ b' → c ≡ c' → d ≡ d' → a ∷ b ∷ c ∷ d ∷ [] ≡ a' ∷ b' ∷ c' ∷ d' ∷ []
four a b c d a' b' c' d' ae be ce de = rw (ae, be, ce, de) refl

-- a tag
pub fresh_tag : (word : ParityWord) (v addr valid : ℕ) → v ≡ addr / 2 ^ 8 * 2 ^ 8 + valid → addr < 2 ^ 32 → valid < 2 ^ 8 → ((k : ℕ) → k < 4 → byte_in word k ≡ fresh_byte (byte_of v 4 k))
    → bytes_in 4 (word ∷ []) ≡ map fresh_byte (tag_of addr valid)
fresh_tag word v addr valid is fits small each =
    four (byte_in word 0) (byte_in word 1) (byte_in word 2) (byte_in word 3) (fresh_byte (addr / 2 ^ 24 % 256)) (fresh_byte (addr / 2 ^ 16 % 256)) (fresh_byte (addr / 2 ^ 8 % 256)) (fresh_byte valid)
    (each 0 (lit< tt) ∙ ap fresh_byte (omega (arith, is, small)))
    (each 1 (lit< tt) ∙ ap fresh_byte (omega (arith, is, small)))
    (each 2 (lit< tt) ∙ ap fresh_byte (omega (arith, is, small)))
    (each 3 (lit< tt) ∙ ap fresh_byte (omega (arith, is, small)))

-- a line
pub fresh_words : (words : List ℕ) (line : List ParityWord) → ((w k : ℕ) → w < 8 → k < 4 → byte_in (word_at line w) k ≡ fresh_byte (byte_of (slice_index words w) 4 k))
    → bytes_in 32 line ≡ map fresh_byte (bytes_of words)
fresh_words words line each =
    ext_get_or no_byte (bytes_in 32 line) (map fresh_byte (bytes_of words)) refl
    (λ k lt. byte_of_words 32 line k lt ∙ each (k / 4) (k % 4) (omega (arith, lt)) (omega arith) ∙ sym (fresh_in words k lt))
