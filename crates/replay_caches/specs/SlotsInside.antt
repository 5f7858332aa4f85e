-- How the slots of a cache are kept.
use Rattle.std.specs.Prelude.{◌≡◌, ℕ, ◌+◌, ◌*◌, ◌≤◌, List, [], ◌∷◌, length, take, drop}
use Rattle.lf_model.specs.Caches.Slot.{Slot}
use Rattle.lf_model.specs.Flips.{Moment, byte_budget}
use Rattle.replay_caches.specs.Part.{slot_units, most_slots}
use Rattle.replay_caches.specs.SlotsState.{SlotsState}
use Rattle.replay_caches.specs.declared.slots.Slots.TheInside.{Inside}
use Rattle.replay_caches.specs.declared.stored.Stored.{Stored}

-- so many histories from the first on
abbrev pub histories_from : ℕ → ℕ → List (List Moment) → List (List Moment)
histories_from first count hs = take count (drop first hs)

-- a slot whose first unit is this one
abbrev pub slot_of : ℕ → List (List Moment) → Stored → Slot
slot_of first hs stored = record {
  tag = stored.tag;
  tag_histories = histories_from first 4 hs;
  line_histories = histories_from (first + 4) 32 hs;
  used = stored.used;
}

abbrev pub slots_from : ℕ → List (List Moment) → List Stored → List Slot
slots_from first hs [] = []
slots_from first hs (stored ∷ rest) = slot_of first hs stored ∷ slots_from (first + slot_units) hs rest

abbrev pub seen : Inside → SlotsState
seen s = record { slots = slots_from 0 s.units.histories s.stored.items; flips = s.units.flips }

pub record AreSlots (s : Inside) : Type 0 where
  pub budget : s.units.budget ≡ byte_budget
  pub few : length s.stored.items ≤ most_slots
  pub units : length s.units.histories ≡ slot_units * length s.stored.items
