-- What every call keeps of a cache.
use Rattle.std.specs.Prelude.{◌≡◌, ℕ, ◌+◌, ◌≤◌, length}
use Rattle.replay_caches.specs.CacheState.{CacheState}

-- after a call that uses slots at most so many times
pub record Keeps (uses : ℕ) (old new : CacheState) : Type 0 where
  pub shape : new.cache.shape ≡ old.cache.shape
  pub slots : length new.cache.slots ≡ length old.cache.slots
  pub flips : new.flips ≡ old.flips
  pub uses_at_most : new.cache.uses ≤ old.cache.uses + uses
