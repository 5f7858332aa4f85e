use Rattle.std.proofs.Common.{Bool, Some, None, sym, ap, ◌∙◌, cond, arith}
use Rattle.lf_model.specs.Caches.Cache.{slot_at, matching}
use Rattle.lf_model.specs.Caches.Slot.{has_struck_tag}
use Rattle.lf_model.specs.Caches.Look.{Looked, look_in, checked}
use Rattle.parity_cache.specs.CacheState.{CacheState, with_cache, answer_of}
use Rattle.parity_cache.proofs.CleanLemmas.{look_stays, set_stays}
use Rattle.parity_cache.proofs.KeepLemmas.{keeps_then, keeps_more}
use Rattle.parity_cache.proofs.SetLemmas.{look_is, answer_same}
use Rattle.lf_model.specs.declared.bus.Why.{Why}
use Rattle.lf_model.specs.declared.bus.Why.TheVariants as whys
use Rattle.lf_model.specs.declared.step.Look.TheVariants.{Miss}
use Rattle.parity_cache.proofs.cache.ParityCache.look_in_struck.Goals as goal

pub returns-in-Some-clause-answer : goal.returns-in-Some-clause-answer
returns-in-Some-clause-answer c =
    let old = c.args.self.now in
    let addr = c.args.addr in
    let len = c.args.len in
    let is = c.check_marked-dropped.ensures.checked in
    let found = c.in-Some.ensures.slot ∙ ap (λ (t : CacheState). matching c.args.addr t.cache) is in
    c.look_in.ensures.answer
    ∙ ap (λ (t : CacheState). answer_of c.args.addr c.args.len t (look_in c.args.addr c.args.len c.in-Some.i t.cache).answer) is
    ∙ answer_same addr len old (checked addr old.cache).cache (look_in addr len c.in-Some.i (checked addr old.cache).cache).answer (sym (ap (λ (t : CacheState). t.cache.shape) is) ∙ c.check_marked-dropped.ensures.keeps.shape)
    ∙ ap (λ (l : Looked). answer_of c.args.addr c.args.len c.args.self.now l.answer) (sym (look_is addr len old.cache (Some c.in-Some.i) found))

pub returns-in-Some-clause-looked : goal.returns-in-Some-clause-looked
returns-in-Some-clause-looked c =
    let old = c.args.self.now in
    let is = c.check_marked-dropped.ensures.checked in
    let found = c.in-Some.ensures.slot ∙ ap (λ (t : CacheState). matching c.args.addr t.cache) is in
    c.look_in.ensures.looked
    ∙ ap (λ (t : CacheState). with_cache (look_in c.args.addr c.args.len c.in-Some.i t.cache).cache t) is
    ∙ ap (λ (l : Looked). with_cache l.cache c.args.self.now) (sym (look_is c.args.addr c.args.len old.cache (Some c.in-Some.i) found))

pub returns-in-None-clause-answer : goal.returns-in-None-clause-answer
returns-in-None-clause-answer c =
    let found = c.in-None.ensures.slot ∙ ap (λ (t : CacheState). matching c.args.addr t.cache) c.check_marked-dropped.ensures.checked in
    ap (λ (why : Why). Miss why) (c.absent_cause.ensures ∙ ap (λ (b : Bool). cond b whys.Tag whys.Absent) c.check_marked-dropped.ensures.dropped)
    ∙ ap (λ (l : Looked). answer_of c.args.addr c.args.len c.args.self.now l.answer) (sym (look_is c.args.addr c.args.len c.args.self.now.cache None found))

pub returns-in-None-clause-looked : goal.returns-in-None-clause-looked
returns-in-None-clause-looked c =
    let found = c.in-None.ensures.slot ∙ ap (λ (t : CacheState). matching c.args.addr t.cache) c.check_marked-dropped.ensures.checked in
    c.check_marked-dropped.ensures.checked
    ∙ ap (λ (l : Looked). with_cache l.cache c.args.self.now) (sym (look_is c.args.addr c.args.len c.args.self.now.cache None found))

pub returns-in-Some-clause-clean : goal.returns-in-Some-clause-clean
returns-in-Some-clause-clean c =
    set_stays c.args.addr 1 c.check_marked-dropped.new.self c.look_in.new.self c.look_in.ensures.keeps
    (λ j unstruck.
    ap (λ (t : CacheState). has_struck_tag (slot_at j t.cache)) c.look_in.ensures.looked
    ∙ look_stays c.check_marked-dropped.new.self.cache c.in-Some.i c.in-Some.ensures.within c.args.addr c.args.len j unstruck)
    c.check_marked-dropped.ensures.clean

pub returns-in-Some-clause-keeps : goal.returns-in-Some-clause-keeps
returns-in-Some-clause-keeps c = keeps_then 0 1 1 c.args.self.now c.check_marked-dropped.new.self c.look_in.new.self (omega arith) c.check_marked-dropped.ensures.keeps c.look_in.ensures.keeps

pub returns-in-None-clause-keeps : goal.returns-in-None-clause-keeps
returns-in-None-clause-keeps c = keeps_more 0 1 c.args.self.now c.check_marked-dropped.new.self (omega arith) c.check_marked-dropped.ensures.keeps
