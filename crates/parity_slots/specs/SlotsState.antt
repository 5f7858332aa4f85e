-- The slots of a cache, as its users see them.
use Rattle.std.specs.Prelude.{◌≡◌, ℕ, ◌*◌, ◌<◌, false, List, [], length, replicate, slice_index_or, slice_set}
use Rattle.flip_ledger.specs.Follows.{has_struck}
use Rattle.lf_model.specs.Caches.Slot.{Slot, empty_slot}
use Rattle.parity_slots.specs.SlotState.{SlotState}
use Rattle.parity_slots.specs.Units.{slot_units, histories_of}

-- lines: the bytes last written to the line of each slot; flips: how many the script has
pub record SlotsState : Type 0 where
  pub slots : List Slot
  pub lines : List (List ℕ)
  pub flips : ℕ

abbrev pub slot_in : ℕ → SlotsState → Slot
slot_in i s = slice_index_or s.slots i empty_slot

abbrev pub line_in : ℕ → SlotsState → List ℕ
line_in i s = slice_index_or s.lines i []

-- a slot with the bytes of its line
abbrev pub state_in : ℕ → SlotsState → SlotState
state_in i s = record { slot = slot_in i s; bytes = line_in i s }

-- slots at reset
abbrev pub reset_slots : ℕ → ℕ → SlotsState
reset_slots count flips = record { slots = replicate count empty_slot; lines = replicate count (replicate 32 0); flips = flips }

-- a slot changes, or a slot and its line
abbrev pub changed : (Slot → Slot) → ℕ → SlotsState → SlotsState
changed change i s = record s { slots = slice_set s.slots i (change (slot_in i s)) }

abbrev pub with_state : SlotState → ℕ → SlotsState → SlotsState
with_state new i s = record s { slots = slice_set s.slots i new.slot; lines = slice_set s.lines i new.bytes }

-- a flip of the script has not come to any unit
abbrev pub IsToCome : ℕ → List Slot → Type 0
IsToCome number slots = (unit : ℕ) → unit < slot_units * length slots → has_struck number (histories_of slots unit) ≡ false
