use Rattle.std.proofs.Common.{◌≡◌}
use Rattle.replay_caches.specs.CacheState.{with_cache}
use Rattle.replay_caches.specs.Keeps.{Keeps}
use Rattle.replay_caches.proofs.SetLemmas.{checked_from}
use Rattle.replay_caches.proofs.cache.Cache.check_set.Given as goal

abbrev pub invariant-loop-way : goal.invariant-loop-way
invariant-loop-way l = record {
  dropped : l.dropped ≡ (checked_from l.first l.way l.initial.self.cache).dropped;
  checked : l.self ≡ with_cache (checked_from l.first l.way l.initial.self.cache).cache l.initial.self;
  keeps : Keeps 0 l.initial.self l.self;
}
