use Rattle.std.proofs.Common.{◌≡◌, ◌==◌, ◌&&◌, ◌/◌, ◌%◌, ◌^◌, Bool, false, slice_index, sym, ap, ◌∙◌, arith}
use Rattle.lf_model.specs.Caches.Slot.{has_struck_tag}
use Rattle.parity_slots.proofs.SlotLemmas.{line_is}
use Rattle.parity_slots.proofs.cache_slot.Slot.holds.Goals as goal

pub returns-then-is_present : goal.returns-then-is_present
returns-then-is_present c =
    let inside = c.self.inside in
    let addr = c.args.addr in
    let tag = inside.state.slot.tag in
    let none : has_struck_tag inside.state.slot ≡ false = rw (← c.self.view_is) at c.requires in
    rw (← c.self.view_is, c.value.ensures.is)
    (line_is inside.state inside.tag inside.line inside.used c.self.invariant none c.args.addr (omega arith) c.value.ensures.fits
    ∙ ap (λ (b : Bool). b && (slice_index tag 0 == addr / 2 ^ 24 % 256 && slice_index tag 1 == addr / 2 ^ 16 % 256 && slice_index tag 2 == addr / 2 ^ 8 % 256))
    (sym c.if-is_present.true ∙ (rw (← c.self.view_is) at c.is_present.ensures)))
