-- A slot with the bytes of its line, and what happens to it.
use Rattle.std.specs.Prelude.{◌≡◌, ℕ, Bool, ◌+◌, ◌*◌, ◌-◌, ◌/◌, ◌%◌, List, [], ◌∷◌, map, fold, replicate, take, drop, slice_index, slice_set, Contains}
use Rattle.std.specs.List.{list_any, range_with_len}
use Rattle.lf_model.specs.Caches.Change.{stored_bytes, stored_in}
use Rattle.lf_model.specs.Caches.Slot.{Slot, empty_slot, history_at, befalls, befalls_each, written, checked_byte, wanted_bytes, filled_slot}
use Rattle.lf_model.specs.Course.Arrays.{struck_by}
use Rattle.lf_model.specs.Flips.{Moment, is_struck_byte}
use Rattle.lf_model.specs.Operation.{byte_of}
use Rattle.ft_cells.specs.declared.flipped.Flipped.{Flipped}
use Rattle.parity_units.specs.Bytes.{answer_of}

-- a slot, and the bytes last written to its line
pub record SlotState : Type 0 where
  pub slot : Slot
  pub bytes : List ℕ

abbrev pub empty_state : SlotState
empty_state = record { slot = empty_slot; bytes = replicate 32 0 }

abbrev pub with_slot : (Slot → Slot) → SlotState → SlotState
with_slot change s = record s { slot = change s.slot }

-- ---- accesses

-- one, two, four or eight bytes, at a multiple of that
pub record IsAccess (addr len : ℕ) : Type 0 where
  pub size : Contains (1 ∷ 2 ∷ 4 ∷ 8 ∷ []) len
  pub aligned : addr % len ≡ 0

-- the number of these bytes, the most significant first
abbrev pub number_of : List ℕ → ℕ
number_of bytes = fold (λ n byte. n * 256 + byte) 0 bytes

-- what an access reads: the bytes last written at its address
abbrev pub value_at : ℕ → ℕ → List ℕ → ℕ
value_at addr len bytes = number_of (take len (drop (addr % 32) bytes))

-- ---- what happens to a slot

-- its tag bytes are checked
abbrev pub tags_checked : Slot → Slot
tags_checked slot = record slot { tag_histories = map checked_byte slot.tag_histories }

-- the bytes of the words that an access wants are checked
abbrev pub bytes_checked : ℕ → ℕ → Slot → Slot
bytes_checked addr len slot = record slot { line_histories = befalls_each checked_byte (wanted_bytes addr len) slot.line_histories }

-- a flip of a bit is applied to a unit with this history where none stands, and else declined, with their number
abbrev pub flip_answer : List Moment → Flipped
flip_answer h = answer_of (is_struck_byte h)

-- so many bytes of the line from the first on have a struck one
abbrev pub has_struck_in : ℕ → ℕ → Slot → Bool
has_struck_in first count slot = list_any (λ i. is_struck_byte (history_at i slot.line_histories)) (range_with_len first count)

-- the bytes of a line of eight words
abbrev pub bytes_of : List ℕ → List ℕ
bytes_of words = map (λ i. byte_of (slice_index words (i / 4)) 4 (i % 4)) (range_with_len 0 32)

-- the line of this address is filled in, with these valid bits and words
abbrev pub filled_state : ℕ → ℕ → List ℕ → SlotState → SlotState
filled_state addr valid words s = record { slot = filled_slot addr valid s.slot; bytes = bytes_of words }

-- a byte of its line is written
abbrev pub byte_stored : ℕ → ℕ → SlotState → SlotState
byte_stored place byte s = record {
  slot = record s.slot { line_histories = befalls written place s.slot.line_histories };
  bytes = slice_set s.bytes place byte;
}

-- a store writes these bytes of its line
abbrev pub bytes_stored : ℕ → ℕ → ℕ → List ℕ → List ℕ → List ℕ
bytes_stored addr len value places bytes = fold (λ bs place. slice_set bs place (byte_of value len (place - addr % 32))) bytes places

abbrev pub stored_state : ℕ → ℕ → ℕ → SlotState → SlotState
stored_state addr len value s = record { slot = stored_in addr len s.slot; bytes = bytes_stored addr len value (stored_bytes addr len s.slot) s.bytes }

-- a flip strikes a tag byte, or a byte of its line
abbrev pub tag_flipped : ℕ → ℕ → ℕ → Slot → Slot
tag_flipped place number bit slot = record slot { tag_histories = befalls (struck_by number bit) place slot.tag_histories }

abbrev pub line_flipped : ℕ → ℕ → ℕ → Slot → Slot
line_flipped place number bit slot = record slot { line_histories = befalls (struck_by number bit) place slot.line_histories }

abbrev pub tag_struck : ℕ → ℕ → ℕ → SlotState → SlotState
tag_struck place number bit s = with_slot (tag_flipped place number bit) s

abbrev pub line_struck : ℕ → ℕ → ℕ → SlotState → SlotState
line_struck place number bit s = with_slot (line_flipped place number bit) s

-- it is used
abbrev pub used_in : ℕ → Slot → Slot
used_in at slot = record slot { used = at }

abbrev pub used_at : ℕ → SlotState → SlotState
used_at at s = with_slot (used_in at) s
