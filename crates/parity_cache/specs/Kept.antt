-- How a cache is kept.
use Rattle.std.specs.Prelude.{◌≡◌, ℕ, ◌*◌, ◌/◌, ◌≤◌, Bool, true, false, List, length, slice_index_or}
use Rattle.lf_model.specs.Caches.Slot.{Slot, empty_slot, has_struck_tag}
use Rattle.lf_model.specs.Caches.Cache.{IsCacheShape}
use Rattle.parity_cache.specs.CacheState.{CacheState}
use Rattle.parity_cache.specs.declared.cache.ParityCache.TheInside.{Inside}

abbrev pub seen : Inside → CacheState
seen c = record {
  cache = record { shape = c.shape; slots = c.slots.slots; uses = c.uses; tag_errors = c.tag_errors; byte_errors = c.byte_errors };
  lines = c.slots.lines;
  flips = c.slots.flips;
}

-- where the mark of its set is clear, no tag byte of a slot is struck
abbrev pub AreMarked : List Bool → ℕ → List Slot → Type 0
AreMarked marks ways slots = (i : ℕ) → slice_index_or marks (i / ways) true ≡ false → has_struck_tag (slice_index_or slots i empty_slot) ≡ false

pub record IsKept (c : Inside) : Type 0 where
  pub shape : IsCacheShape c.shape
  pub some_set : 1 ≤ c.shape.sets
  pub few_sets : c.shape.sets ≤ 256
  pub slots : length c.slots.slots ≡ c.shape.ways * c.shape.sets
  pub tag_errors : c.tag_errors ≤ 3
  pub byte_errors : c.byte_errors ≤ 3
  pub marks : length c.may_be_struck ≡ 256
  pub marked : AreMarked c.may_be_struck c.shape.ways c.slots.slots
