use Rattle.std.proofs.Common.{Some, None, ap, ◌∙◌, arith}
use Rattle.lf_model.specs.Caches.Cache.{matching}
use Rattle.parity_cache.specs.CacheState.{CacheState, stored_by}
use Rattle.parity_cache.proofs.KeepLemmas.{keeps_then, keeps_more}
use Rattle.parity_cache.proofs.SetLemmas.{stored_is}
use Rattle.parity_cache.proofs.cache.ParityCache.update.Goals as goal

pub returns-in-Some-clause-stored : goal.returns-in-Some-clause-stored
returns-in-Some-clause-stored c =
    let found = c.in-Some.ensures.slot ∙ ap (λ (t : CacheState). matching c.args.addr t.cache) c.check_set.ensures.checked in
    c.store_in.ensures.stored
    ∙ ap (λ (t : CacheState). stored_by c.args.addr c.args.len c.args.value t (Some c.in-Some.i)) c.check_set.ensures.checked
    ∙ stored_is c.args.addr c.args.len c.args.value c.args.self.now (Some c.in-Some.i) found

pub returns-in-None-clause-stored : goal.returns-in-None-clause-stored
returns-in-None-clause-stored c =
    let found = c.in-None.ensures.slot ∙ ap (λ (t : CacheState). matching c.args.addr t.cache) c.check_set.ensures.checked in
    c.check_set.ensures.checked ∙ stored_is c.args.addr c.args.len c.args.value c.args.self.now None found

pub returns-in-Some-clause-keeps : goal.returns-in-Some-clause-keeps
returns-in-Some-clause-keeps c = keeps_then 0 1 1 c.args.self.now c.check_set.new.self c.store_in.new.self (omega arith) c.check_set.ensures.keeps c.store_in.ensures.keeps

pub returns-in-None-clause-keeps : goal.returns-in-None-clause-keeps
returns-in-None-clause-keeps c = keeps_more 0 1 c.args.self.now c.check_set.new.self (omega arith) c.check_set.ensures.keeps
