use Rattle.std.proofs.Common.{Some, None, sym, ap, ◌∙◌, arith}
use Rattle.lf_model.specs.Caches.Cache.{Cache, matching}
use Rattle.lf_model.specs.Caches.Change.{update_by}
use Rattle.replay_caches.specs.CacheState.{CacheState, with_cache}
use Rattle.replay_caches.proofs.SetLemmas.{updated_is, keeps_then, keeps_more}
use Rattle.replay_caches.proofs.cache.Cache.update.Goals as goal

pub returns-in-Some-clause-updated : goal.returns-in-Some-clause-updated
returns-in-Some-clause-updated c =
    let found = c.in-Some.ensures.slot ∙ ap (λ (t : CacheState). matching c.args.addr t.cache) c.check_set.ensures.checked in
    c.store_in.ensures.stored
    ∙ ap (λ (t : CacheState). with_cache (update_by c.args.addr c.args.len t.cache (Some c.in-Some.i)) t) c.check_set.ensures.checked
    ∙ ap (λ (cache : Cache). with_cache cache c.args.self.now) (sym (updated_is c.args.addr c.args.len c.args.self.now.cache (Some c.in-Some.i) found))

pub returns-in-None-clause-updated : goal.returns-in-None-clause-updated
returns-in-None-clause-updated c =
    let found = c.in-None.ensures.slot ∙ ap (λ (t : CacheState). matching c.args.addr t.cache) c.check_set.ensures.checked in
    c.check_set.ensures.checked
    ∙ ap (λ (cache : Cache). with_cache cache c.args.self.now) (sym (updated_is c.args.addr c.args.len c.args.self.now.cache None found))

pub returns-in-Some-clause-keeps : goal.returns-in-Some-clause-keeps
returns-in-Some-clause-keeps c = keeps_then 0 1 1 c.args.self.now c.check_set.new.self c.store_in.new.self (omega arith) c.check_set.ensures.keeps c.store_in.ensures.keeps

pub returns-in-None-clause-keeps : goal.returns-in-None-clause-keeps
returns-in-None-clause-keeps c = keeps_more 0 1 c.args.self.now c.check_set.new.self (omega arith) c.check_set.ensures.keeps
