use Rattle.replay_arrays.proofs.PendingLemmas.{cache_keeps, keep_by_fetch_cache}
use Rattle.replay_caches.proofs.StruckLemmas.{look_keeps}
use Rattle.replay_arrays.proofs.arrays.Arrays.look_fetch.Goals as goal

pub invariant_of-self : goal.invariant_of-self
invariant_of-self c =
    keep_by_fetch_cache c.self.inside c.self.invariant _
    (cache_keeps 1 c.self.inside.parts.fetch_cache _ _ c.look.ensures.keeps c.look.ensures.looked (look_keeps c.args.addr 4 c.self.inside.parts.fetch_cache.cache))
