use Rattle.replay_arrays.proofs.PendingLemmas.{cells_same, cache_keeps, all_keep}
use Rattle.replay_caches.proofs.StruckLemmas.{flush_keeps}
use Rattle.replay_arrays.proofs.arrays.Arrays.flush.Goals as goal

pub invariant_of-self : goal.invariant_of-self
invariant_of-self c =
    let parts = c.self.inside.parts in
    all_keep c.self.inside c.self.invariant _
    (record {
      cells = cells_same parts.cells;
      fetch_cache = cache_keeps 0 parts.fetch_cache _ _ c.flush.ensures.keeps c.flush.ensures.flushed (flush_keeps parts.fetch_cache.cache);
      data_cache = cache_keeps 0 parts.data_cache _ _ c.flush-2.ensures.keeps c.flush-2.ensures.flushed (flush_keeps parts.data_cache.cache);
    })
