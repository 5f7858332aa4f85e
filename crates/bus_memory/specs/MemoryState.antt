-- Memory over the transfers on the bus, as its users see it.
use Rattle.std.specs.Prelude.{ℕ, ◌+◌, ◌*◌, ◌/◌, ◌%◌, ◌^◌, ◌==◌, ◌&&◌, nat_lt, Bool, true, false, List, [], ◌∷◌, ◌++◌, length, map, slice_index, slice_set, Option, Some, None, Result, Ok, Err, if◌then◌else◌}
use Rattle.lf_model.specs.Bus.Words.{Word, word_history, words_begun, word_of, words_of_line}
use Rattle.lf_model.specs.Flips.{Moment, is_bad_word, is_fixed_word, turned_bits, syndrome}
use Rattle.lf_model.specs.Records.BusMemory.{memory_after, with_answer}
use Rattle.lf_model.specs.declared.bus.Bad.{Bad}
use Rattle.lf_model.specs.declared.bus.Line.{Line}
use Rattle.lf_model.specs.declared.bus.Transfer.{Transfer}
use Rattle.lf_model.specs.declared.bus.TurnKind.{TurnKind}
use Rattle.lf_model.specs.declared.bus.TurnKind.TheVariants.{Fetch, Load, Store, Atomic, Snoop, Look, Fix}
use Rattle.lf_model.specs.declared.flip.Flip.{Flip}
use Rattle.ram_words.specs.Parts.{merged}
use Rattle.ram_words.specs.Ram.{place_of}
use Rattle.ram_words.specs.declared.answer.Fixed.{Fixed}
use Rattle.ram_words.specs.declared.answer.Fixed.TheVariants as fixes
use Rattle.ram_words.specs.declared.answer.Got.{Got}

pub record MemoryState : Type 0 where
  -- the script
  pub script : List Flip
  -- the transfers so far, with what memory answered
  pub transfers : List Transfer
  -- a turn is begun: its flips struck, and its transfer is still to come
  pub begun : Bool
  -- of each word of RAM, from the first address on, the number last written
  pub values : List ℕ
  -- how many transfers there is room for in all
  pub room : ℕ

-- the bytes of RAM
abbrev pub ram_of : MemoryState → ℕ
ram_of m = 4 * length m.values

-- ---- the words that the script strikes

-- between turns
abbrev pub words_between : List Flip → List Transfer → List Word
words_between script transfers = (memory_after script [] transfers).words

-- and once a turn is begun, if one is
unfoldable pub words_at : List Flip → List Transfer → Bool → List Word
words_at script transfers begun =
    if begun then words_begun script (length transfers) (words_between script transfers) else words_between script transfers

abbrev pub words_met : MemoryState → List Word
words_met m = words_at m.script m.transfers m.begun

-- ---- what a word reads as

-- the history of the word at an address
abbrev pub met : MemoryState → ℕ → List Moment
met m addr = word_history (words_met m) addr

abbrev pub is_bad_at : MemoryState → ℕ → Bool
is_bad_at m addr = is_bad_word (met m addr)

abbrev pub syndrome_at : MemoryState → ℕ → ℕ
syndrome_at m addr = syndrome (met m addr)

-- the number last written to it
abbrev pub value_at : MemoryState → ℕ → ℕ
value_at m addr = slice_index m.values (place_of addr)

-- a bad word reads as an error
unfoldable pub read_answer : MemoryState → ℕ → Result Got Bad
read_answer m addr =
    if is_bad_at m addr then Err (record { addr = addr; syn = syndrome_at m addr }) else Ok (record { value = value_at m addr; syn = syndrome_at m addr })

-- a line shows 0 for a bad word
abbrev pub word_shown : MemoryState → ℕ → ℕ
word_shown m addr = if is_bad_at m addr then 0 else value_at m addr

abbrev pub line_shown : MemoryState → ℕ → Line
line_shown m line = record {
  words = map (word_shown m) (words_of_line line);
  syn = map (syndrome_at m) (words_of_line line);
  bad = map (is_bad_at m) (words_of_line line);
}

-- to one who looks from outside, a bad word has no value
unfoldable pub value_shown : MemoryState → ℕ → Option ℕ
value_shown m addr = if is_bad_at m addr then None else Some (value_at m addr)

-- a store of a byte or half reads its word, and answers the syndrome; one of words reads none
unfoldable pub store_answer : MemoryState → ℕ → ℕ → Result ℕ Bad
store_answer m addr len =
    if nat_lt len 4 && is_bad_at m (word_of addr) then Err (record { addr = word_of addr; syn = syndrome_at m (word_of addr) })
    else Ok (if nat_lt len 4 then syndrome_at m (word_of addr) else 0)

-- a fix answers by the bits that stand flipped
unfoldable pub fix_answer : MemoryState → ℕ → Fixed
fix_answer m addr =
    if is_bad_at m addr then fixes.Bad (syndrome_at m addr)
    else if is_fixed_word (met m addr) then fixes.Corrected (slice_index (turned_bits (met m addr)) 0) (syndrome_at m addr)
    else fixes.Clean

-- ---- what a turn leaves

-- the turn's transfer is made: memory answers it
abbrev pub made : Transfer → MemoryState → MemoryState
made asked m = record m { begun = false; transfers = m.transfers ++ with_answer (words_met m) asked ∷ [] }

-- the word that an address lies in is written with a number of this length, unless it is bad
abbrev pub merged_in : ℕ → ℕ → ℕ → MemoryState → MemoryState
merged_in addr len value m =
    if is_bad_at m (word_of addr) then m
    else record m { values = slice_set m.values (place_of addr) (merged (value_at m addr) addr len value) }

-- a store: of a byte or half, of a word, or of two words
abbrev pub stored : ℕ → ℕ → ℕ → MemoryState → MemoryState
stored addr len value m =
    if nat_lt len 4 then merged_in addr len value m
    else if len == 4 then record m { values = slice_set m.values (place_of addr) value }
    else record m { values = slice_set (slice_set m.values (place_of addr) (value / 2 ^ 32)) (place_of (addr + 4)) (value % 2 ^ 32) }

-- the kinds of transfer that read a line
abbrev pub reads_line : TurnKind → Bool
reads_line Fetch = true
reads_line Load = true
reads_line Store = false
reads_line Atomic = false
reads_line Snoop = false
reads_line Look = true
reads_line Fix = false
