-- The slots of a cache, as the replay has them.
use Rattle.std.specs.Prelude.{◌≡◌, ℕ, false, List, slice_index_or, slice_set}
use Rattle.flip_ledger.specs.Follows.{has_struck}
use Rattle.lf_model.specs.Caches.Slot.{Slot, empty_slot, history_at}

-- flips: how many the script has
pub record SlotsState : Type 0 where
  pub slots : List Slot
  pub flips : ℕ

abbrev pub slot_in : ℕ → SlotsState → Slot
slot_in i s = slice_index_or s.slots i empty_slot

-- a slot changes
abbrev pub changed : (Slot → Slot) → ℕ → SlotsState → SlotsState
changed change i s = record s { slots = slice_set s.slots i (change (slot_in i s)) }

-- a flip of the script has struck no byte of these slots
pub record IsToCome (number : ℕ) (slots : List Slot) : Type 0 where
  pub tags : (i byte : ℕ) → has_struck number (history_at byte (slice_index_or slots i empty_slot).tag_histories) ≡ false
  pub lines : (i byte : ℕ) → has_struck number (history_at byte (slice_index_or slots i empty_slot).line_histories) ≡ false
