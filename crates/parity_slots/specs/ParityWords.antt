-- Four bytes under parity in one word, and rows of such words.
use Rattle.std.specs.Prelude.{◌≡◌, ℕ, ◌+◌, ◌*◌, ◌/◌, ◌%◌, ◌^◌, ◌<◌, ◌==◌, List, length, map, slice_index_or}
use Rattle.std.specs.Int.{bit_at}
use Rattle.std.specs.List.{range_with_len}
use Rattle.lf_model.specs.Flips.{Moment, is_struck_byte}
use Rattle.lf_model.specs.Operation.{byte_of}
use Rattle.parity_slots.specs.declared.parity_word.ParityWord.{ParityWord}
use Rattle.parity_units.specs.declared.byte.ParityByte.{ParityByte}

-- byte k of a word, from the most significant: its eight bits with its parity bit, and its mark
abbrev pub byte_in : ParityWord → ℕ → ParityByte
byte_in word k = record { bits = bit_at word.parity k * 2 ^ 8 + byte_of word.bits 4 k; struck = bit_at word.struck k == 1 }

abbrev pub no_word : ParityWord
no_word = record { bits = 0; parity = 0; struck = 0 }

abbrev pub word_at : List ParityWord → ℕ → ParityWord
word_at words i = slice_index_or words i no_word

-- byte i of some words
abbrev pub byte_among : List ParityWord → ℕ → ParityByte
byte_among words i = byte_in (word_at words (i / 4)) (i % 4)

-- so many bytes of them
abbrev pub bytes_in : ℕ → List ParityWord → List ParityByte
bytes_in count words = map (byte_among words) (range_with_len 0 count)

-- these words are units of an array, from the first on: the bytes in which a flip stands are struck by their histories
abbrev pub AreWordUnits : ℕ → List ParityWord → (ℕ → List Moment) → Type 0
AreWordUnits first words h = (i : ℕ) → i < 4 * length words → (byte_among words i).struck ≡ is_struck_byte (h (first + i))
