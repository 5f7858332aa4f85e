-- The bytes of a slot that flips strike: its tag bytes, and the bytes of its line. Each slot has 36 units: unit 36 * i + u for tag
-- byte u of slot i, and unit 36 * i + 4 + u for byte u of its line.
use Rattle.std.specs.Prelude.{ℕ, ◌+◌, ◌*◌, ◌/◌, List, map, if◌then◌else◌}
use Rattle.lf_model.specs.Caches.Slot.{Slot, befalls, befalls_each, written, is_valid_word}
use Rattle.lf_model.specs.Flips.{Moment}
use Rattle.replay_caches.specs.declared.part.Part.{Part}
use Rattle.replay_caches.specs.declared.part.Part.TheVariants.{Tag, Line}

abbrev pub slot_units : ℕ
slot_units = 36

-- four ways of 256 sets
abbrev pub most_slots : ℕ
most_slots = 1024

-- how many bytes a part has, and its first unit in a slot
abbrev pub size_of : Part → ℕ
size_of Tag = 4
size_of Line = 32

abbrev pub first_in : Part → ℕ
first_in Tag = 0
first_in Line = 4

-- the unit of a byte
abbrev pub unit_in : Part → ℕ → ℕ → ℕ
unit_in part slot byte = slot_units * slot + first_in part + byte

-- the histories of its bytes
abbrev pub histories_in : Part → Slot → List (List Moment)
histories_in Tag slot = slot.tag_histories
histories_in Line slot = slot.line_histories

abbrev pub with_histories : Part → List (List Moment) → Slot → Slot
with_histories Tag hs slot = record slot { tag_histories = hs }
with_histories Line hs slot = record slot { line_histories = hs }

-- this happens to a byte, to each of these bytes, and to all bytes
abbrev pub befallen_in : Part → (List Moment → List Moment) → ℕ → Slot → Slot
befallen_in part happen byte slot = with_histories part (befalls happen byte (histories_in part slot)) slot

abbrev pub each_in : Part → (List Moment → List Moment) → List ℕ → Slot → Slot
each_in part happen bytes slot = with_histories part (befalls_each happen bytes (histories_in part slot)) slot

abbrev pub all_in : Part → (List Moment → List Moment) → Slot → Slot
all_in part happen slot = with_histories part (map happen (histories_in part slot)) slot

-- a store writes this byte of the line where its word is valid
abbrev pub byte_stored : ℕ → Slot → Slot
byte_stored byte slot = if is_valid_word slot (byte / 4) then befallen_in Line written byte slot else slot

-- its tag becomes another, and it is used
abbrev pub with_tag : List ℕ → Slot → Slot
with_tag tag slot = record slot { tag = tag }

abbrev pub used_in : ℕ → Slot → Slot
used_in at slot = record slot { used = at }
