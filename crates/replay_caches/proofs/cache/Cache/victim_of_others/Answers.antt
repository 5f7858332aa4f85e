use Rattle.std.proofs.Common.{ℕ, Option, None, sym, ap, ◌∙◌}
use Rattle.std.specs.Prelude.{unwrap_or, fold}
use Rattle.std.specs.Option.{option_or}
use Rattle.lf_model.specs.Caches.Cache.{set_of}
use Rattle.lf_model.specs.Caches.Change.{older}
use Rattle.replay_caches.proofs.cache.Cache.victim_of_others.Goals as goal

pub returns-in-Some-clause-slot : goal.returns-in-Some-clause-slot
returns-in-Some-clause-slot c = ap (λ (o : Option ℕ). unwrap_or (option_or None (option_or o (fold (older c.args.self.now.cache) None (set_of c.args.addr c.args.self.now.cache)))) 0) c.in-Some.ensures.slot

pub returns-in-None-clause-slot : goal.returns-in-None-clause-slot
returns-in-None-clause-slot c =
    ap (λ (o : Option ℕ). unwrap_or (option_or None (option_or None o)) 0) (sym c.oldest_slot.ensures.slot)
    ∙ ap (λ (o : Option ℕ). unwrap_or (option_or None (option_or o (fold (older c.args.self.now.cache) None (set_of c.args.addr c.args.self.now.cache)))) 0) c.in-None.ensures.slot
