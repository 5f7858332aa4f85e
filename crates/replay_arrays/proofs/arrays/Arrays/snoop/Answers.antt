use Rattle.replay_arrays.proofs.PendingLemmas.{cache_keeps, keep_by_data_cache}
use Rattle.replay_caches.proofs.StruckLemmas.{snoop_keeps}
use Rattle.replay_arrays.proofs.arrays.Arrays.snoop.Goals as goal

pub invariant_of-self : goal.invariant_of-self
invariant_of-self c =
    keep_by_data_cache c.self.inside c.self.invariant _
    (cache_keeps 0 c.self.inside.parts.data_cache _ _ c.snoop.ensures.keeps c.snoop.ensures.snooped (snoop_keeps c.args.addr c.self.inside.parts.data_cache.cache))
