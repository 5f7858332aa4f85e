-- A cache with the bytes of its lines.
use Rattle.std.specs.Prelude.{◌≡◌, ℕ, ◌+◌, ◌*◌, ◌/◌, ◌%◌, ◌<◌, false, List, [], Option, Some, None, not, find, fold, unwrap_or, replicate, slice_index_or, slice_set}
use Rattle.std.specs.Option.{option_or}
use Rattle.lf_model.specs.Caches.Cache.{Cache, empty_cache, slot_at, with_slot, set_of, matching, way_of, used}
use Rattle.lf_model.specs.Caches.Change.{stored_bytes, update_by, updated, older, victim, filled}
use Rattle.lf_model.specs.Caches.Look.{LookUp, checked}
use Rattle.lf_model.specs.Caches.Look.LookUp.{Hit as Hits, Miss as Misses}
use Rattle.lf_model.specs.Caches.Slot.{is_present, filled_slot, has_struck_tag}
use Rattle.lf_model.specs.declared.config.Shape.{Shape}
use Rattle.parity_slots.specs.SlotState.{bytes_of, value_at, bytes_stored}
use Rattle.lf_model.specs.declared.step.Look.{Look}
use Rattle.lf_model.specs.declared.step.Look.TheVariants.{Hit, Miss}

-- lines: the bytes last written to the line of each slot; flips: how many the script has
pub record CacheState : Type 0 where
  pub cache : Cache
  pub lines : List (List ℕ)
  pub flips : ℕ

abbrev pub reset_cache : Shape → ℕ → CacheState
reset_cache shape flips = record { cache = empty_cache shape; lines = replicate (shape.ways * shape.sets) (replicate 32 0); flips = flips }

abbrev pub line_at : ℕ → CacheState → List ℕ
line_at i s = slice_index_or s.lines i []

abbrev pub with_cache : Cache → CacheState → CacheState
with_cache cache s = record s { cache = cache }

-- a hit reads the bytes last written at its address
abbrev pub answer_of : ℕ → ℕ → CacheState → LookUp → Look
answer_of addr len s (Hits i) = Hit (value_at addr len (line_at i s)) (way_of i s.cache)
answer_of addr len s (Misses why) = Miss why

-- the slot that a fill takes, by that in which its line is present
abbrev pub victim_by : ℕ → Cache → Option ℕ → ℕ
victim_by addr cache found = unwrap_or (option_or found
    (option_or (find (λ i. not (is_present (slot_at i cache))) (set_of addr cache)) (fold (older cache) None (set_of addr cache)))) 0

-- a fill writes the whole line of its slot
abbrev pub filled_in : ℕ → ℕ → ℕ → List ℕ → CacheState → CacheState
filled_in i addr valid words s = record s { cache = used i (with_slot (filled_slot addr valid) i s.cache); lines = slice_set s.lines i (bytes_of words) }

abbrev pub filled_cache : ℕ → ℕ → List ℕ → CacheState → CacheState
filled_cache addr valid words s = record s { cache = filled addr valid s.cache; lines = slice_set s.lines (victim addr s.cache) (bytes_of words) }

-- an own store writes its bytes where its line is present, in the words that are valid
abbrev pub lines_stored : ℕ → ℕ → ℕ → CacheState → Option ℕ → List (List ℕ)
lines_stored addr len value s None = s.lines
lines_stored addr len value s (Some i) = slice_set s.lines i (bytes_stored addr len value (stored_bytes addr len (slot_at i s.cache)) (line_at i s))

-- after the tag check
abbrev pub stored_by : ℕ → ℕ → ℕ → CacheState → Option ℕ → CacheState
stored_by addr len value s found = record s { cache = update_by addr len s.cache found; lines = lines_stored addr len value s found }

abbrev pub stored_cache : ℕ → ℕ → ℕ → CacheState → CacheState
stored_cache addr len value s = let checked_state = with_cache (checked addr s.cache).cache s in
    record s { cache = updated addr len s.cache; lines = lines_stored addr len value checked_state (matching addr checked_state.cache) }

-- no tag byte of the set of an address is struck
abbrev pub IsCleanSet : ℕ → Cache → Type 0
IsCleanSet addr cache = (way : ℕ) → way < cache.shape.ways → has_struck_tag (slot_at (addr / 32 % cache.shape.sets * cache.shape.ways + way) cache) ≡ false
