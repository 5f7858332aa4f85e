use Rattle.std.proofs.Common.{ℕ, ap, ◌∙◌}
use Rattle.lf_model.specs.Caches.Cache.{Cache, with_slot, used}
use Rattle.lf_model.specs.Caches.Slot.{filled_slot}
use Rattle.replay_caches.specs.CacheState.{with_cache}
use Rattle.replay_caches.proofs.SetLemmas.{filled_is}
use Rattle.replay_caches.proofs.cache.Cache.fill.Goals as goal

pub returns-clause-filled : goal.returns-clause-filled
returns-clause-filled c =
    c.fill_slot.ensures.filled
    ∙ ap (λ (i : ℕ). with_cache (used i (with_slot (filled_slot c.args.addr c.args.valid) i c.args.self.now.cache)) c.args.self.now) c.victim-slot.ensures.slot
    ∙ ap (λ (cache : Cache). with_cache cache c.args.self.now) (filled_is c.args.addr c.args.valid c.args.self.now.cache)
