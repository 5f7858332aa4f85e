use Rattle.std.proofs.Common.{[], ◌∷◌}
use Rattle.parity_slots.specs.ParityWords.{bytes_in}
use Rattle.parity_units.specs.declared.events.Event.TheVariants.{Check}
use Rattle.parity_slots.specs.Units.{with_units}
use Rattle.parity_slots.proofs.ByteRows.{row_checked}
use Rattle.parity_slots.proofs.SlotLemmas.{tag_units, follows_tag}
use Rattle.parity_slots.proofs.cache_slot.Slot.check_tag.Goals as goal

pub invariant_of-self : goal.invariant_of-self
invariant_of-self c =
    let inside = c.self.inside in
    let is = c.self.invariant in
    rw c.change.ensures.value (record {
      tag_bytes = row_checked inside.state.slot.tag inside.state.slot.tag_histories (bytes_in 4 (inside.tag ∷ [])) is.tag_bytes;
      line_bytes = is.line_bytes;
      line_length = is.line_length;
      last_used = is.last_used;
    })

pub returns-clause-follows : goal.returns-clause-follows
returns-clause-follows c =
    let inside = c.self.inside in
    rw (← c.self.view_is) (λ h follows.
    follows_tag inside.state inside.tag inside.line inside.used c.self.invariant c.args.first h Check c.note_word.new.ledger
    (c.note_word.ensures.follows (with_units c.args.first inside.state.slot h)
    (tag_units inside.state inside.tag inside.line inside.used c.self.invariant c.args.first h) follows))
