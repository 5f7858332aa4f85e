use Rattle.std.proofs.Common.{sym, ◌∙◌}
use Rattle.parity_slots.proofs.SlotLemmas.{word_shows}
use Rattle.parity_slots.proofs.cache_slot.Slot.is_bad_word.Goals as goal

pub returns : goal.returns
returns c =
    let inside = c.self.inside in
    rw (← c.self.view_is) (c.is_bad.ensures ∙ sym (word_shows inside.state inside.tag inside.line inside.used c.self.invariant c.args.place c.requires))
