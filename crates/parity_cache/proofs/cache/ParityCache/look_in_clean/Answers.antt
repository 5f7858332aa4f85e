use Rattle.std.proofs.Common.{Some, None, sym, ap, ◌∙◌, arith}
use Rattle.lf_model.specs.Caches.Cache.{slot_at}
use Rattle.lf_model.specs.Caches.Slot.{has_struck_tag}
use Rattle.lf_model.specs.Caches.Look.{Looked}
use Rattle.parity_cache.specs.CacheState.{CacheState, with_cache, answer_of}
use Rattle.parity_cache.proofs.CleanLemmas.{look_stays, set_stays}
use Rattle.parity_cache.proofs.KeepLemmas.{keeps_same, keeps_more}
use Rattle.parity_cache.proofs.SetLemmas.{look_clean}
use Rattle.parity_cache.proofs.cache.ParityCache.look_in_clean.Goals as goal

pub returns-in-Some-clause-answer : goal.returns-in-Some-clause-answer
returns-in-Some-clause-answer c =
    c.look_in.ensures.answer
    ∙ ap (λ (l : Looked). answer_of c.args.addr c.args.len c.args.self.now l.answer)
    (sym (look_clean c.args.addr c.args.len c.args.self.now.cache (Some c.in-Some.i) c.requires.unstruck c.in-Some.ensures.slot))

pub returns-in-Some-clause-looked : goal.returns-in-Some-clause-looked
returns-in-Some-clause-looked c =
    c.look_in.ensures.looked
    ∙ ap (λ (l : Looked). with_cache l.cache c.args.self.now)
    (sym (look_clean c.args.addr c.args.len c.args.self.now.cache (Some c.in-Some.i) c.requires.unstruck c.in-Some.ensures.slot))

pub returns-in-None-clause-answer : goal.returns-in-None-clause-answer
returns-in-None-clause-answer c =
    ap (λ (l : Looked). answer_of c.args.addr c.args.len c.args.self.now l.answer)
    (sym (look_clean c.args.addr c.args.len c.args.self.now.cache None c.requires.unstruck c.in-None.ensures.slot))

pub returns-in-None-clause-looked : goal.returns-in-None-clause-looked
returns-in-None-clause-looked c =
    ap (λ (l : Looked). with_cache l.cache c.args.self.now)
    (sym (look_clean c.args.addr c.args.len c.args.self.now.cache None c.requires.unstruck c.in-None.ensures.slot))

pub returns-in-Some-clause-clean : goal.returns-in-Some-clause-clean
returns-in-Some-clause-clean c =
    set_stays c.args.addr 1 c.args.self.now c.look_in.new.self c.look_in.ensures.keeps
    (λ j unstruck.
    ap (λ (t : CacheState). has_struck_tag (slot_at j t.cache)) c.look_in.ensures.looked
    ∙ look_stays c.args.self.now.cache c.in-Some.i c.in-Some.ensures.within c.args.addr c.args.len j unstruck)
    c.requires.unstruck

pub returns-in-None-clause-keeps : goal.returns-in-None-clause-keeps
returns-in-None-clause-keeps c = keeps_more 0 1 c.args.self.now c.args.self.now (omega arith) (keeps_same c.args.self.now)
