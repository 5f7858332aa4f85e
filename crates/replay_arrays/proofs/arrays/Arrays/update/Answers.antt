use Rattle.replay_arrays.proofs.PendingLemmas.{cache_keeps, keep_by_data_cache}
use Rattle.replay_caches.proofs.StruckLemmas.{update_keeps}
use Rattle.replay_arrays.proofs.arrays.Arrays.update.Goals as goal

pub invariant_of-self : goal.invariant_of-self
invariant_of-self c =
    keep_by_data_cache c.self.inside c.self.invariant _
    (cache_keeps 1 c.self.inside.parts.data_cache _ _ c.update.ensures.keeps c.update.ensures.updated (update_keeps c.args.addr c.args.len c.self.inside.parts.data_cache.cache))
