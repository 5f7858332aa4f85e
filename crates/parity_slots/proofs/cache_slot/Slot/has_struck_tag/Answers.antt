use Rattle.std.proofs.Common.{sym, ◌∙◌}
use Rattle.parity_slots.proofs.SlotLemmas.{struck_tag}
use Rattle.parity_slots.proofs.cache_slot.Slot.has_struck_tag.Goals as goal

pub returns : goal.returns
returns c =
    let inside = c.self.inside in
    rw (← c.self.view_is) (c.is_bad.ensures ∙ sym (struck_tag inside.state inside.tag inside.line inside.used c.self.invariant))
