use Rattle.std.proofs.Common.{◌≡◌, ℕ, ◌+◌, ◌<◌, false}
use Rattle.lf_model.specs.Caches.Cache.{slot_at}
use Rattle.lf_model.specs.Caches.Slot.{has_struck_tag}
use Rattle.parity_cache.specs.CacheState.{with_cache}
use Rattle.parity_cache.specs.Keeps.{Keeps, StaysClean}
use Rattle.parity_cache.proofs.SetLemmas.{checked_from}
use Rattle.parity_cache.proofs.cache.ParityCache.check_ways.Given as goal

abbrev pub invariant-loop-way : goal.invariant-loop-way
invariant-loop-way l = record {
  dropped : l.dropped ≡ (checked_from l.first l.way l.initial.self.cache).dropped;
  checked : l.self ≡ with_cache (checked_from l.first l.way l.initial.self.cache).cache l.initial.self;
  clean : (w : ℕ) → w < l.way → has_struck_tag (slot_at (l.first + w) l.self.cache) ≡ false;
  uses : l.self.cache.uses ≡ l.initial.self.cache.uses;
  stays : StaysClean l.initial.self.cache l.self.cache;
  keeps : Keeps 0 l.initial.self l.self;
}
