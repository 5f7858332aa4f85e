-- How the slots of a cache are kept.
use Rattle.std.specs.Prelude.{◌≡◌, ℕ, ◌*◌, ◌≤◌, List, length, map}
use Rattle.flip_ledger.specs.Follows.{Follows}
use Rattle.lf_model.specs.Caches.Slot.{Slot}
use Rattle.lf_model.specs.Flips.{byte_budget}
use Rattle.parity_slots.specs.SlotState.{SlotState}
use Rattle.parity_slots.specs.SlotsState.{SlotsState}
use Rattle.parity_slots.specs.Units.{slot_units, histories_of}
use Rattle.parity_slots.specs.declared.cache_slots.Slots.TheInside.{Inside}

abbrev pub slot_of : SlotState → Slot
slot_of s = s.slot

abbrev pub bytes_of_slot : SlotState → List ℕ
bytes_of_slot s = s.bytes

abbrev pub seen : Inside → SlotsState
seen s = record { slots = map slot_of s.slots.items; lines = map bytes_of_slot s.slots.items; flips = length s.ledger.flips }

-- four ways of 256 sets
abbrev pub most_slots : ℕ
most_slots = 1024

pub record IsKept (s : Inside) : Type 0 where
  pub few : length s.slots.items ≤ most_slots
  pub units : length s.ledger.standing ≡ slot_units * length s.slots.items
  pub follows : Follows byte_budget (histories_of (map slot_of s.slots.items)) s.ledger
