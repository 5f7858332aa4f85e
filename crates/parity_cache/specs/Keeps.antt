-- What every call keeps of a cache, and what a look-up may answer.
use Rattle.std.specs.Prelude.{◌≡◌, ℕ, ◌+◌, ◌*◌, ◌^◌, ◌<◌, ◌≤◌, false, ⊤, length}
use Rattle.lf_model.specs.Caches.Cache.{Cache, slot_at}
use Rattle.lf_model.specs.Caches.Slot.{has_struck_tag}
use Rattle.lf_model.specs.declared.step.Look.{Look}
use Rattle.lf_model.specs.declared.step.Look.TheVariants.{Hit, Miss}
use Rattle.parity_cache.specs.CacheState.{CacheState}

-- after a call that uses slots at most so many times
pub record Keeps (uses : ℕ) (old new : CacheState) : Type 0 where
  pub shape : new.cache.shape ≡ old.cache.shape
  pub slots : length new.cache.slots ≡ length old.cache.slots
  pub flips : new.flips ≡ old.flips
  pub uses_at_most : new.cache.uses ≤ old.cache.uses + uses
  pub tag_errors : old.cache.tag_errors ≤ 3 → new.cache.tag_errors ≤ 3
  pub byte_errors : old.cache.byte_errors ≤ 3 → new.cache.byte_errors ≤ 3

-- a hit reads a number of as many bytes as it was asked for
abbrev pub FitsIn : ℕ → Look → Type 0
FitsIn len (Hit value way) = value < 2 ^ (8 * len)
FitsIn len (Miss why) = ⊤

-- a slot whose tag is not struck has one that is not then too: only a flip strikes
abbrev pub StaysClean : Cache → Cache → Type 0
StaysClean old new = (i : ℕ) → has_struck_tag (slot_at i old) ≡ false → has_struck_tag (slot_at i new) ≡ false
