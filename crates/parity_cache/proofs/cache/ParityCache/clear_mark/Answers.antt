use Rattle.std.proofs.Common.{◌≡◌, ℕ, ◌+◌, ◌*◌, ◌/◌, ◌%◌, false, slice_index_or, sym, subst}
use Rattle.lf_model.specs.Caches.Slot.{empty_slot, has_struck_tag}
use Rattle.parity_cache.proofs.KeptLemmas.{kept_clear}
use Rattle.parity_cache.proofs.cache.ParityCache.clear_mark.Goals as goal

pub invariant_of-self : goal.invariant_of-self
invariant_of-self c =
    let is : c.set_of-set.result ≡ c.args.addr / 32 % c.self.inside.shape.sets = rw (← c.self.view_is) at c.set_of-set.ensures in
    let clean = rw (← c.self.view_is) at c.requires in
    kept_clear c.self.inside c.self.invariant c.set_of-set.result
    (λ way lt. subst (λ (set : ℕ). has_struck_tag (slice_index_or c.self.inside.slots.slots (set * c.self.inside.shape.ways + way) empty_slot) ≡ false) (sym is) (clean way lt))
