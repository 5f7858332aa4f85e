use Rattle.std.proofs.Common.{◌≡◌, ◌<◌, length, Some, None}
use Rattle.std.specs.Prelude.{fold}
use Rattle.std.specs.List.{range_with_len}
use Rattle.lf_model.specs.Caches.Change.{older}
use Rattle.replay_caches.proofs.cache.Cache.oldest_slot.Given as goal

abbrev pub invariant-loop-way : goal.invariant-loop-way
invariant-loop-way l = record {
  found : fold (older l.self.cache) None (range_with_len l.first l.way) ≡ Some l.oldest;
  within : l.oldest < length l.self.cache.slots;
}
