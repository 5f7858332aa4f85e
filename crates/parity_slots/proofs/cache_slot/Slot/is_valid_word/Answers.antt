use Rattle.std.proofs.Common.{◌≡◌, ◌==◌, ℕ, false, ap}
use Rattle.lf_model.specs.Caches.Slot.{has_struck_tag}
use Rattle.parity_slots.proofs.SlotLemmas.{valid_bit}
use Rattle.parity_slots.proofs.cache_slot.Slot.is_valid_word.Goals as goal

pub returns : goal.returns
returns c =
    let inside = c.self.inside in
    let none : has_struck_tag inside.state.slot ≡ false = rw (← c.self.view_is) at c.requires.unstruck in
    rw (← c.self.view_is, c.value.ensures.is) (ap (λ (n : ℕ). n == 1) (valid_bit inside.state inside.tag inside.line inside.used c.self.invariant none c.args.place c.requires.place))
