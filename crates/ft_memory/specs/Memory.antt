-- Coded RAM (GRLIB, FTAHBRAM), as its users see it: an array of words, the first of which is at the first address of RAM. What a
-- transfer reads, and how it writes a word, goes by the word's history.
use Rattle.std.specs.Prelude.{ℕ, ◌*◌, ◌/◌, Bool, List, [], length, map, replicate, slice_index, Option, Some, None, Result, Ok, Err, if◌then◌else◌}
use Rattle.coded_words.specs.Words.{Words, written}
use Rattle.lf_model.specs.Bus.Words.{word_of, words_of_line, write_of}
use Rattle.lf_model.specs.Caches.Slot.{history_at}
use Rattle.lf_model.specs.Flips.{How, Moment, turned_bits, is_bad_word, is_fixed_word, syndrome}
use Rattle.lf_model.specs.declared.bus.Bad.{Bad}
use Rattle.lf_model.specs.declared.bus.Line.{Line}
use Rattle.lf_model.specs.declared.bus.TurnKind.TheVariants as turns
use Rattle.lf_model.specs.declared.image.Image.{Image}
use Rattle.ram_words.specs.Parts.{merged}
use Rattle.ram_words.specs.Ram.{place_of, first_words}
use Rattle.ram_words.specs.declared.answer.Fixed.{Fixed}
use Rattle.ram_words.specs.declared.answer.Fixed.TheVariants as fixes
use Rattle.ram_words.specs.declared.answer.Got.{Got}

-- at the start each word holds the image's
abbrev pub at_start : ℕ → Image → ℕ → Words
at_start ram image flips = record { values = first_words ram image; histories = replicate (ram / 4) []; past = []; flips = flips }

-- the bytes of RAM
abbrev pub ram_of : Words → ℕ
ram_of m = 4 * length m.histories

-- the value last written to the word at an address, and its history
abbrev pub value_at : Words → ℕ → ℕ
value_at m addr = slice_index m.values (place_of addr)

abbrev pub history_of : Words → ℕ → List Moment
history_of m addr = history_at (place_of addr) m.histories

-- ---- what it reads as

abbrev pub is_bad_at : Words → ℕ → Bool
is_bad_at m addr = is_bad_word (history_of m addr)

abbrev pub syndrome_at : Words → ℕ → ℕ
syndrome_at m addr = syndrome (history_of m addr)

-- a read of a word gives the value last written, unless it is bad
unfoldable pub answer_of_read : Words → ℕ → Result Got Bad
answer_of_read m addr =
    if is_bad_at m addr then Err (record { addr = addr; syn = syndrome_at m addr }) else Ok (record { value = value_at m addr; syn = syndrome_at m addr })

-- a line shows 0 for a bad word
abbrev pub word_shown : Words → ℕ → ℕ
word_shown m addr = if is_bad_at m addr then 0 else value_at m addr

abbrev pub line_of : Words → ℕ → Line
line_of m line = record {
  words = map (word_shown m) (words_of_line line);
  syn = map (syndrome_at m) (words_of_line line);
  bad = map (is_bad_at m) (words_of_line line);
}

-- the value for those who look from outside
unfoldable pub value_shown : Words → ℕ → Option ℕ
value_shown m addr = if is_bad_at m addr then None else Some (value_at m addr)

-- ---- how it is written

-- the word at an address is written in a way, if it is
abbrev pub with_write : Option How → ℕ → ℕ → Words → Words
with_write None addr value m = m
with_write (Some how) addr value m = written how (place_of addr) value m

-- a store of a byte or half merges it with the word that it lies in, unless that is bad
abbrev pub part_stored : ℕ → ℕ → ℕ → Words → Words
part_stored addr len value m =
    with_write (write_of len (history_of m (word_of addr)) turns.Store) (word_of addr) (merged (value_at m (word_of addr)) addr len value) m

-- and answers the syndrome that it read
unfoldable pub answer_of_part : Words → ℕ → Result ℕ Bad
answer_of_part m addr =
    if is_bad_at m (word_of addr) then Err (record { addr = word_of addr; syn = syndrome_at m (word_of addr) }) else Ok (syndrome_at m (word_of addr))

-- an atomic reads the word, and writes a byte of it or all of it, unless it is bad
abbrev pub exchanged : ℕ → ℕ → ℕ → Words → Words
exchanged addr len value m =
    with_write (write_of len (history_of m (word_of addr)) turns.Atomic) (word_of addr) (merged (value_at m (word_of addr)) addr len value) m

-- a fix writes the word anew with its value where it can be corrected
abbrev pub fixed : ℕ → Words → Words
fixed addr m = with_write (write_of 0 (history_of m addr) turns.Fix) addr (value_at m addr) m

-- and answers the bit that stood flipped, where one did, and the syndrome
unfoldable pub answer_of_fix : Words → ℕ → Fixed
answer_of_fix m addr =
    if is_bad_at m addr then fixes.Bad (syndrome_at m addr)
    else if is_fixed_word (history_of m addr) then fixes.Corrected (slice_index (turned_bits (history_of m addr)) 0) (syndrome_at m addr)
    else fixes.Clean
