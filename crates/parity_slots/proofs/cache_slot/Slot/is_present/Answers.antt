use Rattle.std.proofs.Common.{◌≡◌, ◌==◌, ℕ, not, false, ap}
use Rattle.lf_model.specs.Caches.Slot.{has_struck_tag}
use Rattle.parity_slots.proofs.SlotLemmas.{valid_is}
use Rattle.parity_slots.proofs.cache_slot.Slot.is_present.Goals as goal

pub returns : goal.returns
returns c =
    let inside = c.self.inside in
    let none : has_struck_tag inside.state.slot ≡ false = rw (← c.self.view_is) at c.requires in
    rw (← c.self.view_is, c.value.ensures.is) (ap (λ (n : ℕ). not (n == 0)) (valid_is inside.state inside.tag inside.line inside.used c.self.invariant none))
