use Rattle.std.proofs.Common.{Some, None, sym, ap, ◌∙◌, arith}
use Rattle.lf_model.specs.Caches.Cache.{Cache, slot_at, with_slot, matching}
use Rattle.lf_model.specs.Caches.Slot.{dropped, has_struck_tag}
use Rattle.parity_cache.specs.CacheState.{CacheState, with_cache}
use Rattle.parity_cache.proofs.CleanLemmas.{drop_stays, set_stays}
use Rattle.parity_cache.proofs.KeepLemmas.{keeps_then}
use Rattle.parity_cache.proofs.SetLemmas.{snooped_is}
use Rattle.parity_cache.proofs.cache.ParityCache.drop_line.Goals as goal

pub returns-in-Some-clause-dropped : goal.returns-in-Some-clause-dropped
returns-in-Some-clause-dropped c =
    let found = c.in-Some.ensures.slot ∙ ap (λ (t : CacheState). matching c.args.addr t.cache) c.check_set.ensures.checked in
    c.drop_slot.ensures.dropped
    ∙ ap (λ (t : CacheState). with_cache (with_slot dropped c.in-Some.i t.cache) t) c.check_set.ensures.checked
    ∙ ap (λ (cache : Cache). with_cache cache c.args.self.now) (sym (snooped_is c.args.addr c.args.self.now.cache (Some c.in-Some.i) found))

pub returns-in-None-clause-dropped : goal.returns-in-None-clause-dropped
returns-in-None-clause-dropped c =
    let found = c.in-None.ensures.slot ∙ ap (λ (t : CacheState). matching c.args.addr t.cache) c.check_set.ensures.checked in
    c.check_set.ensures.checked ∙ ap (λ (cache : Cache). with_cache cache c.args.self.now) (sym (snooped_is c.args.addr c.args.self.now.cache None found))

pub returns-in-Some-clause-keeps : goal.returns-in-Some-clause-keeps
returns-in-Some-clause-keeps c = keeps_then 0 0 0 c.args.self.now c.check_set.new.self c.drop_slot.new.self (omega arith) c.check_set.ensures.keeps c.drop_slot.ensures.keeps

pub returns-in-Some-clause-clean : goal.returns-in-Some-clause-clean
returns-in-Some-clause-clean c = λ a clean.
    set_stays a 0 c.check_set.new.self c.drop_slot.new.self c.drop_slot.ensures.keeps
    (λ j unstruck. ap (λ (t : CacheState). has_struck_tag (slot_at j t.cache)) c.drop_slot.ensures.dropped ∙ drop_stays c.check_set.new.self.cache c.in-Some.i c.in-Some.ensures.within j unstruck)
    (set_stays a 0 c.args.self.now c.check_set.new.self c.check_set.ensures.keeps c.check_set.ensures.stays clean)

pub returns-in-None-clause-clean : goal.returns-in-None-clause-clean
returns-in-None-clause-clean c = λ a clean. set_stays a 0 c.args.self.now c.check_set.new.self c.check_set.ensures.keeps c.check_set.ensures.stays clean
