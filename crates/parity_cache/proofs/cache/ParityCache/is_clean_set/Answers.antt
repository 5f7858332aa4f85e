use Rattle.std.proofs.Common.{◌≡◌, ℕ, ◌+◌, ◌*◌, ◌/◌, ◌%◌, ◌<◌, false, length, slice_index_or, arith, subst}
use Rattle.std.proofs.lemmas.Nat.{mod_below}
use Rattle.lf_model.specs.Caches.Slot.{empty_slot, has_struck_tag}
use Rattle.parity_cache.proofs.MarkLemmas.{marked_set, clear_mark}
use Rattle.parity_cache.proofs.cache.ParityCache.is_clean_set.Goals as goal

pub returns : goal.returns
returns c = λ clear.
    let is : c.set_of.result ≡ c.args.addr / 32 % c.self.inside.shape.sets = rw (← c.self.view_is) at c.set_of.ensures in
    let below = mod_below (c.args.addr / 32) c.self.inside.shape.sets c.self.invariant.some_set in
    let within : c.set_of.result < length c.self.inside.may_be_struck = omega (arith, is, below, c.self.invariant.few_sets, c.self.invariant.marks) in
    rw (← c.self.view_is) (λ way lt.
    subst (λ (set : ℕ). has_struck_tag (slice_index_or c.self.inside.slots.slots (set * c.self.inside.shape.ways + way) empty_slot) ≡ false) is
    (marked_set c.self.inside.may_be_struck c.self.inside.shape.ways c.self.inside.slots.slots c.set_of.result way lt c.self.invariant.marked (clear_mark c.self.inside.may_be_struck c.set_of.result within clear)))
