use Rattle.std.proofs.Common.{◌*◌, ◌<◌, length, sym, ap, ◌∙◌, arith}
use Rattle.lf_model.specs.Caches.Slot.{Slot}
use Rattle.replay_caches.specs.Part.{slot_units, used_in}
use Rattle.replay_caches.specs.SlotsInside.{seen, slot_of}
use Rattle.replay_caches.specs.declared.stored.Stored.{Stored}
use Rattle.replay_caches.proofs.SlotsLemmas.{place, slot_is, seen_stored}
use Rattle.replay_caches.proofs.slots.Slots.set_used.Goals as goal

pub index_mut-requires : goal.index_mut-requires
index_mut-requires c =
    let lt : c.args.i < length (seen c.self.inside).slots = rw (← c.self.view_is) at c.requires in
    let within = place c.self.inside c.self.invariant c.args.i lt in
    omega (arith, within)

pub returns : goal.returns
returns c =
    let s = c.self.inside in
    let lt : c.args.i < length (seen c.self.inside).slots = rw (← c.self.view_is) at c.requires in
    let change : Slot → Slot = used_in c.args.at in
    let new : Stored = record { tag = c.index_mut.result.now.tag; used = c.args.at } in
    rw (← c.self.view_is)
    (seen_stored s c.self.invariant c.args.i lt (used_in c.args.at) (record { tag = c.index_mut.result.now.tag; used = c.args.at })
    (ap (λ (t : Stored). used_in c.args.at (slot_of (slot_units * c.args.i) s.units.histories t)) c.index_mut.ensures.value ∙ ap (used_in c.args.at) (sym (slot_is s c.self.invariant c.args.i lt c.index_mut.result.now))))
