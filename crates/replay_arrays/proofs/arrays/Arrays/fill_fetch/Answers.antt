use Rattle.replay_arrays.proofs.PendingLemmas.{cache_keeps, keep_by_fetch_cache}
use Rattle.replay_caches.proofs.StruckLemmas.{fill_keeps}
use Rattle.replay_arrays.proofs.arrays.Arrays.fill_fetch.Goals as goal

pub invariant_of-self : goal.invariant_of-self
invariant_of-self c =
    keep_by_fetch_cache c.self.inside c.self.invariant _
    (cache_keeps 1 c.self.inside.parts.fetch_cache _ _ c.fill.ensures.keeps c.fill.ensures.filled (fill_keeps c.args.addr c.args.valid c.self.inside.parts.fetch_cache.cache))
