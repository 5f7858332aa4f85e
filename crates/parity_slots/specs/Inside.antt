-- How a slot is kept.
use Rattle.std.specs.Prelude.{◌≡◌, ℕ, ◌<◌, List, [], ◌∷◌, length, slice_index}
use Rattle.lf_model.specs.Caches.Slot.{history_at}
use Rattle.lf_model.specs.Flips.{Moment}
use Rattle.parity_slots.specs.ParityWords.{bytes_in}
use Rattle.parity_slots.specs.SlotState.{SlotState}
use Rattle.parity_slots.specs.declared.parity_word.ParityWord.{ParityWord}
use Rattle.parity_units.specs.Bytes.{IsByteOf}
use Rattle.parity_units.specs.Events.{byte_at}
use Rattle.parity_units.specs.declared.byte.ParityByte.{ParityByte}

-- these are the bytes of values with these histories
pub record AreBytes (values : List ℕ) (histories : List (List Moment)) (bytes : List ParityByte) : Type 0 where
  pub each : (i : ℕ) → i < length bytes → IsByteOf (slice_index values i) (history_at i histories) (byte_at bytes i)
  pub all_histories : length histories ≡ length bytes
  pub all_values : length values ≡ length bytes

pub record IsSlotOf (s : SlotState) (tag : ParityWord) (line : List ParityWord) (used : ℕ) : Type 0 where
  pub tag_bytes : AreBytes s.slot.tag s.slot.tag_histories (bytes_in 4 (tag ∷ []))
  pub line_bytes : AreBytes s.bytes s.slot.line_histories (bytes_in 32 line)
  pub line_length : length line ≡ 8
  pub last_used : used ≡ s.slot.used
