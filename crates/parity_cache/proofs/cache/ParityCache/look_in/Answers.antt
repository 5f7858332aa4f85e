use Rattle.std.proofs.Common.{◌<◌, length}
use Rattle.lf_model.specs.Caches.Slot.{dropped_by_byte}
use Rattle.parity_slots.specs.SlotsState.{slot_in}
use Rattle.parity_cache.proofs.KeptLemmas.{kept_one}
use Rattle.parity_cache.proofs.SetLemmas.{written_tag}
use Rattle.parity_cache.proofs.cache.ParityCache.look_in.Goals as goal

pub invariant_of-self : goal.invariant_of-self
invariant_of-self c =
    let s = c.self.inside.slots in
    let within : c.args.i < length c.self.inside.slots.slots = rw (← c.self.view_is) at c.requires.slot in
    rw c.drop_by_byte.ensures (kept_one c.self.inside c.self.invariant c.args.i (dropped_by_byte c.args.addr c.args.len (slot_in c.args.i s)) s.lines c.raised-self-inside.result within c.raised-self-inside.ensures.few (λ e. written_tag (slot_in c.args.i s).tag_histories))
