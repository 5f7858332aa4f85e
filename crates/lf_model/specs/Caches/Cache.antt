-- A cache: its slots, set by set, and its counters of parity errors (GRLIB, LEON3FT, cache subsystem). That the counters stop
-- at 3 is this machine's own.
use Rattle.std.specs.Prelude.{ℕ, ◌≡◌, ◌+◌, ◌*◌, ◌/◌, ◌%◌, ◌==◌, ◌≤◌, nat_lt, true, Bool, List, [], ◌∷◌, Option, find, replicate, slice_index_or, slice_set, if◌then◌else◌}
use Rattle.std.specs.List.{range_with_len, list_any}
use Rattle.lf_model.specs.Caches.Slot.{Slot, empty_slot, holds}
use Rattle.lf_model.specs.declared.config.Shape.{Shape}

-- the sets that each way of a cache may have
abbrev pub is_number_of_sets : ℕ → Bool
is_number_of_sets n = list_any (λ sets. n == sets) (8 ∷ 16 ∷ 32 ∷ 64 ∷ 128 ∷ 256 ∷ [])

-- one to four ways of 8 to 256 sets
pub record IsCacheShape (shape : Shape) : Type 0 where
  pub some_way : 1 ≤ shape.ways
  pub few_ways : shape.ways ≤ 4
  pub sets : is_number_of_sets shape.sets ≡ true

-- way w of set s is slot s * ways + w; uses counts the uses of slots so far
pub record Cache : Type 0 where
  pub shape : Shape
  pub slots : List Slot
  pub uses : ℕ
  pub tag_errors : ℕ
  pub byte_errors : ℕ

-- a cache at reset
abbrev pub empty_cache : Shape → Cache
empty_cache shape = record { shape = shape; slots = replicate (shape.ways * shape.sets) empty_slot; uses = 0; tag_errors = 0; byte_errors = 0 }

-- a counter of parity errors with one more
abbrev pub raised : ℕ → ℕ
raised n = if nat_lt n 3 then n + 1 else n

abbrev pub slot_at : ℕ → Cache → Slot
slot_at i cache = slice_index_or cache.slots i empty_slot

abbrev pub with_slot : (Slot → Slot) → ℕ → Cache → Cache
with_slot change i cache = record cache { slots = slice_set cache.slots i (change (slot_at i cache)) }

-- the slots of the set of an address, way by way
abbrev pub set_of : ℕ → Cache → List ℕ
set_of addr cache = range_with_len (addr / 32 % cache.shape.sets * cache.shape.ways) cache.shape.ways

-- the slot in which the line of an address is present
abbrev pub matching : ℕ → Cache → Option ℕ
matching addr cache = find (λ i. holds addr (slot_at i cache)) (set_of addr cache)

-- the way of a slot
abbrev pub way_of : ℕ → Cache → ℕ
way_of i cache = i % cache.shape.ways

-- slot i becomes the most recently used
abbrev pub used : ℕ → Cache → Cache
used i cache = record (with_slot (λ slot. record slot { used = cache.uses + 1 }) i cache) { uses = cache.uses + 1 }
