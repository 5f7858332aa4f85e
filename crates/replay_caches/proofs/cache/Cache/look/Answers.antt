use Rattle.std.proofs.Common.{Bool, Some, None, sym, ap, ◌∙◌, cond, arith}
use Rattle.lf_model.specs.Caches.Cache.{matching}
use Rattle.lf_model.specs.Caches.Look.{Looked, look_in}
use Rattle.lf_model.specs.declared.bus.Why.{Why}
use Rattle.lf_model.specs.declared.bus.Why.TheVariants as whys
use Rattle.replay_caches.specs.CacheState.{CacheState, with_cache, answer_of}
use Rattle.replay_caches.specs.declared.answer.LookUp.TheVariants.{Miss}
use Rattle.replay_caches.proofs.SetLemmas.{look_is, keeps_then, keeps_more}
use Rattle.replay_caches.proofs.cache.Cache.look.Goals as goal

pub returns-in-Some-clause-answer : goal.returns-in-Some-clause-answer
returns-in-Some-clause-answer c =
    let is = c.check_set-dropped.ensures.checked in
    let found = c.in-Some.ensures.slot ∙ ap (λ (t : CacheState). matching c.args.addr t.cache) is in
    c.look_in.ensures.answer
    ∙ ap (λ (t : CacheState). answer_of (look_in c.args.addr c.args.len c.in-Some.i t.cache).answer) is
    ∙ ap (λ (l : Looked). answer_of l.answer) (sym (look_is c.args.addr c.args.len c.args.self.now.cache (Some c.in-Some.i) found))

pub returns-in-Some-clause-looked : goal.returns-in-Some-clause-looked
returns-in-Some-clause-looked c =
    let is = c.check_set-dropped.ensures.checked in
    let found = c.in-Some.ensures.slot ∙ ap (λ (t : CacheState). matching c.args.addr t.cache) is in
    c.look_in.ensures.looked
    ∙ ap (λ (t : CacheState). with_cache (look_in c.args.addr c.args.len c.in-Some.i t.cache).cache t) is
    ∙ ap (λ (l : Looked). with_cache l.cache c.args.self.now) (sym (look_is c.args.addr c.args.len c.args.self.now.cache (Some c.in-Some.i) found))

pub returns-in-None-clause-answer : goal.returns-in-None-clause-answer
returns-in-None-clause-answer c =
    let found = c.in-None.ensures.slot ∙ ap (λ (t : CacheState). matching c.args.addr t.cache) c.check_set-dropped.ensures.checked in
    ap (λ (why : Why). Miss why) (c.absent_cause.ensures ∙ ap (λ (b : Bool). cond b whys.Tag whys.Absent) c.check_set-dropped.ensures.dropped)
    ∙ ap (λ (l : Looked). answer_of l.answer) (sym (look_is c.args.addr c.args.len c.args.self.now.cache None found))

pub returns-in-None-clause-looked : goal.returns-in-None-clause-looked
returns-in-None-clause-looked c =
    let found = c.in-None.ensures.slot ∙ ap (λ (t : CacheState). matching c.args.addr t.cache) c.check_set-dropped.ensures.checked in
    c.check_set-dropped.ensures.checked
    ∙ ap (λ (l : Looked). with_cache l.cache c.args.self.now) (sym (look_is c.args.addr c.args.len c.args.self.now.cache None found))

pub returns-in-Some-clause-keeps : goal.returns-in-Some-clause-keeps
returns-in-Some-clause-keeps c = keeps_then 0 1 1 c.args.self.now c.check_set-dropped.new.self c.look_in.new.self (omega arith) c.check_set-dropped.ensures.keeps c.look_in.ensures.keeps

pub returns-in-None-clause-keeps : goal.returns-in-None-clause-keeps
returns-in-None-clause-keeps c = keeps_more 0 1 c.args.self.now c.check_set-dropped.new.self (omega arith) c.check_set-dropped.ensures.keeps
