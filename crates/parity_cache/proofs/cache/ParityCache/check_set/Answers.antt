use Rattle.std.proofs.Common.{sym, ap}
use Rattle.lf_model.specs.Caches.Look.{Checked}
use Rattle.parity_cache.specs.CacheState.{with_cache}
use Rattle.parity_cache.proofs.SetLemmas.{clean_checked}
use Rattle.parity_cache.proofs.cache.ParityCache.check_set.Goals as goal

pub returns-then-is_clean_set-clause-dropped : goal.returns-then-is_clean_set-clause-dropped
returns-then-is_clean_set-clause-dropped c =
    sym (ap (λ (k : Checked). k.dropped) (clean_checked c.args.addr c.args.self.now.cache (c.is_clean_set.ensures c.if-is_clean_set.true)))

pub returns-then-is_clean_set-clause-checked : goal.returns-then-is_clean_set-clause-checked
returns-then-is_clean_set-clause-checked c =
    sym (ap (λ (k : Checked). with_cache k.cache c.args.self.now) (clean_checked c.args.addr c.args.self.now.cache (c.is_clean_set.ensures c.if-is_clean_set.true)))
