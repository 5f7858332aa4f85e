-- What the arrays of a core keep where no flip strikes: which flips struck each of their units.
use Rattle.std.specs.Prelude.{◌≡◌, ℕ, length}
use Rattle.flip_ledger.specs.Follows.{has_struck}
use Rattle.lf_model.specs.Caches.Slot.{history_at}
use Rattle.replay_arrays.specs.CellsState.{CellsState}
use Rattle.replay_arrays.specs.declared.parts.Parts.{Parts}
use Rattle.replay_caches.specs.CacheState.{CacheState}
use Rattle.replay_caches.specs.KeepsStruck.{KeepsStruck}

pub record KeepsCells (old new : CellsState) : Type 0 where
  pub flips : new.flips ≡ old.flips
  pub long : length new.histories ≡ length old.histories
  pub struck : (number cell : ℕ) → has_struck number (history_at cell new.histories) ≡ has_struck number (history_at cell old.histories)

pub record KeepsCache (old new : CacheState) : Type 0 where
  pub flips : new.flips ≡ old.flips
  pub shape : new.cache.shape ≡ old.cache.shape
  pub struck : KeepsStruck old.cache new.cache

pub record KeepsParts (old new : Parts) : Type 0 where
  pub cells : KeepsCells old.cells new.cells
  pub fetch_cache : KeepsCache old.fetch_cache new.fetch_cache
  pub data_cache : KeepsCache old.data_cache new.data_cache
