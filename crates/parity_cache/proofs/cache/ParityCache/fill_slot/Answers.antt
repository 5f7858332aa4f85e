use Rattle.std.proofs.Common.{◌<◌, length, slice_set}
use Rattle.lf_model.specs.Caches.Slot.{filled_slot}
use Rattle.parity_slots.specs.SlotState.{bytes_of}
use Rattle.parity_slots.specs.SlotsState.{slot_in}
use Rattle.parity_cache.proofs.KeptLemmas.{kept_one}
use Rattle.parity_cache.proofs.SetLemmas.{written_tag}
use Rattle.parity_cache.proofs.cache.ParityCache.fill_slot.Goals as goal

pub invariant_of-self : goal.invariant_of-self
invariant_of-self c =
    let s = c.self.inside.slots in
    let within : c.args.i < length c.self.inside.slots.slots = rw (← c.self.view_is) at c.requires.slot in
    rw c.fill.ensures (kept_one c.self.inside c.self.invariant c.args.i (filled_slot c.args.line c.args.valid (slot_in c.args.i s)) (slice_set s.lines c.args.i (bytes_of c.args.words.now)) c.self.inside.byte_errors within c.self.invariant.byte_errors (λ e. written_tag (slot_in c.args.i s).tag_histories))
