use Rattle.std.proofs.Common.{◌<◌, length}
use Rattle.lf_model.specs.Caches.Slot.{dropped}
use Rattle.parity_slots.specs.SlotsState.{slot_in}
use Rattle.parity_cache.proofs.KeptLemmas.{kept_one}
use Rattle.parity_cache.proofs.SetLemmas.{written_tag}
use Rattle.parity_cache.proofs.cache.ParityCache.drop_slot.Goals as goal

pub invariant_of-self : goal.invariant_of-self
invariant_of-self c =
    let s = c.self.inside.slots in
    let within : c.args.slot < length c.self.inside.slots.slots = rw (← c.self.view_is) at c.requires in
    rw c.drop_line.ensures (kept_one c.self.inside c.self.invariant c.args.slot (dropped (slot_in c.args.slot s)) s.lines c.self.inside.byte_errors within c.self.invariant.byte_errors (λ e. written_tag (slot_in c.args.slot s).tag_histories))
