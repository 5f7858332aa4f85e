use Rattle.std.proofs.Common.{Some, None, sym, ap, ◌∙◌, arith}
use Rattle.lf_model.specs.Caches.Cache.{Cache, with_slot, matching}
use Rattle.lf_model.specs.Caches.Slot.{dropped}
use Rattle.replay_caches.specs.CacheState.{CacheState, with_cache}
use Rattle.replay_caches.proofs.SetLemmas.{snooped_is, keeps_then}
use Rattle.replay_caches.proofs.cache.Cache.snoop.Goals as goal

pub returns-in-Some-clause-snooped : goal.returns-in-Some-clause-snooped
returns-in-Some-clause-snooped c =
    let found = c.in-Some.ensures.slot ∙ ap (λ (t : CacheState). matching c.args.addr t.cache) c.check_set.ensures.checked in
    c.drop_slot.ensures.dropped
    ∙ ap (λ (t : CacheState). with_cache (with_slot dropped c.in-Some.i t.cache) t) c.check_set.ensures.checked
    ∙ ap (λ (cache : Cache). with_cache cache c.args.self.now) (sym (snooped_is c.args.addr c.args.self.now.cache (Some c.in-Some.i) found))

pub returns-in-None-clause-snooped : goal.returns-in-None-clause-snooped
returns-in-None-clause-snooped c =
    let found = c.in-None.ensures.slot ∙ ap (λ (t : CacheState). matching c.args.addr t.cache) c.check_set.ensures.checked in
    c.check_set.ensures.checked ∙ ap (λ (cache : Cache). with_cache cache c.args.self.now) (sym (snooped_is c.args.addr c.args.self.now.cache None found))

pub returns-in-Some-clause-keeps : goal.returns-in-Some-clause-keeps
returns-in-Some-clause-keeps c = keeps_then 0 0 0 c.args.self.now c.check_set.new.self c.drop_slot.new.self (omega arith) c.check_set.ensures.keeps c.drop_slot.ensures.keeps
