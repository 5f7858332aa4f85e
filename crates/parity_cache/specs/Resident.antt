-- Which bytes of the lines of a cache are resident, and what they are.
use Rattle.std.specs.Prelude.{ℕ, ◌≡◌, ◌*◌, ◌/◌, ◌%◌, ◌<◌, true, false, length, slice_index, Contains}
use Rattle.lf_model.specs.Caches.Cache.{Cache, slot_at, set_of, IsCacheShape}
use Rattle.lf_model.specs.Caches.Slot.{history_at, holds, is_valid_word, has_struck_tag}
use Rattle.lf_model.specs.Flips.{is_struck_byte}
use Rattle.parity_cache.specs.CacheState.{CacheState, line_at}

-- in this slot the byte at an address is resident: the line is present, its word is valid, and neither the tag nor the byte is
-- struck
pub record IsResident (c : CacheState) (slot addr : ℕ) : Type 0 where
  pub of_set : Contains (set_of addr c.cache) slot
  pub held : holds addr (slot_at slot c.cache) ≡ true
  pub valid : is_valid_word (slot_at slot c.cache) (addr / 4 % 8) ≡ true
  pub tag_good : has_struck_tag (slot_at slot c.cache) ≡ false
  pub byte_good : is_struck_byte (history_at (addr % 32) (slot_at slot c.cache).line_histories) ≡ false

-- each resident byte is this one
abbrev pub Holds : (ℕ → ℕ) → CacheState → Type 0
Holds byte c = (slot addr : ℕ) → addr < 4294967296 → IsResident c slot addr → slice_index (line_at slot c) (addr % 32) ≡ byte addr

-- no line is present in two slots of its set
abbrev pub IsApart : Cache → Type 0
IsApart cache = (addr i j : ℕ) → Contains (set_of addr cache) i → Contains (set_of addr cache) j → holds addr (slot_at i cache) ≡ true
    → holds addr (slot_at j cache) ≡ true → i ≡ j

-- each way of each set has a line of 32 bytes, and no line is present twice: so is a cache at reset, and so it stays
pub record IsWellFormed (c : CacheState) : Type 0 where
  pub shape : IsCacheShape c.cache.shape
  pub slots : length c.cache.slots ≡ c.cache.shape.ways * c.cache.shape.sets
  pub lines : length c.lines ≡ length c.cache.slots
  pub bytes : (slot : ℕ) → slot < length c.lines → length (line_at slot c) ≡ 32
  pub apart : IsApart c.cache
