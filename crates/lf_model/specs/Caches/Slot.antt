-- One slot of a cache: one way of one set, with its tag and its line of 32 bytes (GRLIB, LEON3FT, cache subsystem). A tag has
-- four bytes: bits 31 to 8 of the address, most significant first, and one valid bit for each word of the line. Each of them,
-- and each byte of the line, is kept with its parity, so that a flip of one bit is seen. These shapes are this machine's own.
use Rattle.std.specs.Prelude.{ℕ, ◌+◌, ◌-◌, ◌*◌, ◌/◌, ◌%◌, ◌^◌, ◌==◌, ◌&&◌, not, Bool, List, [], ◌∷◌, map, fold, replicate, slice_index, slice_index_or, slice_set, if◌then◌else◌}
use Rattle.std.specs.Int.{bit_at}
use Rattle.std.specs.List.{list_all, list_any, range_with_len}
use Rattle.lf_model.specs.Flips.{Moment, is_struck_byte}
use Rattle.lf_model.specs.Flips.How.{Whole}
use Rattle.lf_model.specs.Flips.Moment.{Written, Found}

-- ---- histories of units, by their numbers

-- the history of unit i
abbrev pub history_at : ℕ → List (List Moment) → List Moment
history_at i histories = slice_index_or histories i []

-- the histories where this happens to unit i
abbrev pub befalls : (List Moment → List Moment) → ℕ → List (List Moment) → List (List Moment)
befalls happen i histories = slice_set histories i (happen (history_at i histories))

-- the histories where this happens to each of these units
abbrev pub befalls_each : (List Moment → List Moment) → List ℕ → List (List Moment) → List (List Moment)
befalls_each happen units histories = fold (λ hs i. befalls happen i hs) histories units

-- a byte is written
abbrev pub written : List Moment → List Moment
written h = Written Whole ∷ h

-- a byte is checked: one that is struck is found so
abbrev pub checked_byte : List Moment → List Moment
checked_byte h = if is_struck_byte h then Found ∷ h else h

-- ---- slots

-- its tag bytes as they were last written, the histories of these and of the bytes of its line, and when it was last used
pub record Slot : Type 0 where
  pub tag : List ℕ
  pub tag_histories : List (List Moment)
  pub line_histories : List (List Moment)
  pub used : ℕ

abbrev pub empty_tag : List ℕ
empty_tag = 0 ∷ 0 ∷ 0 ∷ 0 ∷ []

abbrev pub empty_slot : Slot
empty_slot = record { tag = empty_tag; tag_histories = replicate 4 []; line_histories = replicate 32 []; used = 0 }

-- the line of an address: that of its first byte
abbrev pub line_of : ℕ → ℕ
line_of addr = addr - addr % 32

-- the tag of an address's line, with these valid bits
abbrev pub tag_of : ℕ → ℕ → List ℕ
tag_of addr valid = addr / 2 ^ 24 % 256 ∷ addr / 2 ^ 16 % 256 ∷ addr / 2 ^ 8 % 256 ∷ valid ∷ []

-- the valid bits of a slot
abbrev pub valid_bits : Slot → ℕ
valid_bits slot = slice_index slot.tag 3

-- a line is present in a slot where its valid byte is not 0
abbrev pub is_present : Slot → Bool
is_present slot = not (valid_bits slot == 0)

-- the line of this address is present in the slot
abbrev pub holds : ℕ → Slot → Bool
holds addr slot = is_present slot && (slice_index slot.tag 0 == addr / 2 ^ 24 % 256
    && slice_index slot.tag 1 == addr / 2 ^ 16 % 256 && slice_index slot.tag 2 == addr / 2 ^ 8 % 256)

-- word j of the line is valid
abbrev pub is_valid_word : Slot → ℕ → Bool
is_valid_word slot j = bit_at (valid_bits slot) j == 1

-- the words of its line that an access of this length wants, by their numbers: two for eight bytes, else one
abbrev pub wanted_words : ℕ → ℕ → List ℕ
wanted_words addr len = range_with_len (addr / 4 % 8) ((len + 3) / 4)

-- the bytes of these words
abbrev pub wanted_bytes : ℕ → ℕ → List ℕ
wanted_bytes addr len = range_with_len (4 * (addr / 4 % 8)) (4 * ((len + 3) / 4))

-- all wanted words are valid
abbrev pub has_wanted_words : ℕ → ℕ → Slot → Bool
has_wanted_words addr len slot = list_all (is_valid_word slot) (wanted_words addr len)

-- a byte of the wanted words is struck
abbrev pub has_struck_byte : ℕ → ℕ → Slot → Bool
has_struck_byte addr len slot = list_any (λ i. is_struck_byte (history_at i slot.line_histories)) (wanted_bytes addr len)

-- a tag byte is struck
abbrev pub has_struck_tag : Slot → Bool
has_struck_tag slot = list_any is_struck_byte slot.tag_histories

-- ---- what happens to a slot

-- its line is dropped: its four tag bytes are written with 0
abbrev pub dropped : Slot → Slot
dropped slot = record slot { tag = empty_tag; tag_histories = map written slot.tag_histories }

-- a tag check found a tag byte struck, and dropped the line
abbrev pub dropped_by_tag : Slot → Slot
dropped_by_tag slot = dropped (record slot { tag_histories = map checked_byte slot.tag_histories })

-- a look-up found a byte of the wanted words struck, and dropped the line
abbrev pub dropped_by_byte : ℕ → ℕ → Slot → Slot
dropped_by_byte addr len slot =
    dropped (record slot { line_histories = befalls_each checked_byte (wanted_bytes addr len) slot.line_histories })

-- the line of this address is filled in, with these valid bits: all its units are written
abbrev pub filled_slot : ℕ → ℕ → Slot → Slot
filled_slot addr valid slot =
    record slot { tag = tag_of addr valid; tag_histories = map written slot.tag_histories; line_histories = map written slot.line_histories }
