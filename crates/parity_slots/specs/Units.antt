-- The units of a slot, by number: 0 to 3 are its tag bytes, 4 to 35 the bytes of its line. Unit u of slot i is unit
-- 36 * i + u of the array.
use Rattle.std.specs.Prelude.{ℕ, ◌+◌, ◌-◌, ◌/◌, ◌%◌, nat_lt, List, if◌then◌else◌, slice_index_or}
use Rattle.lf_model.specs.Caches.Slot.{Slot, empty_slot, history_at}
use Rattle.lf_model.specs.Flips.{Moment}

abbrev pub slot_units : ℕ
slot_units = 36

-- the history of a unit of a slot
abbrev pub unit_of : Slot → ℕ → List Moment
unit_of slot u = if nat_lt u 4 then history_at u slot.tag_histories else history_at (u - 4) slot.line_histories

-- the histories of an array's units, where the slot whose first unit this is has become this one
abbrev pub with_units : ℕ → Slot → (ℕ → List Moment) → ℕ → List Moment
with_units first slot h u = if nat_lt u first then h u else if nat_lt u (first + slot_units) then unit_of slot (u - first) else h u

-- the histories of the units of these slots
abbrev pub histories_of : List Slot → ℕ → List Moment
histories_of slots u = unit_of (slice_index_or slots (u / slot_units) empty_slot) (u % slot_units)
