use Rattle.std.proofs.Common.{◌<◌, length, sym, ap, ◌∙◌, arith}
use Rattle.lf_model.specs.Caches.Slot.{Slot}
use Rattle.replay_caches.specs.SlotsInside.{seen}
use Rattle.replay_caches.specs.SlotsState.{slot_in}
use Rattle.replay_caches.specs.declared.stored.Stored.{Stored}
use Rattle.replay_caches.proofs.SlotsLemmas.{place, slot_is}
use Rattle.replay_caches.proofs.slots.Slots.is_present.Goals as goal

pub index-requires : goal.index-requires
index-requires c =
    let lt : c.args.i < length (seen c.self.inside).slots = rw (← c.self.view_is) at c.requires in
    let within = place c.self.inside c.self.invariant c.args.i lt in
    omega (arith, within)

pub returns : goal.returns
returns c =
    let lt : c.args.i < length (seen c.self.inside).slots = rw (← c.self.view_is) at c.requires in
    rw (← c.self.view_is)
    (c.is_present.ensures (slot_in c.args.i (seen c.self.inside))
    (ap (λ (t : Slot). t.tag) (slot_is c.self.inside c.self.invariant c.args.i lt c.index.result.now) ∙ ap (λ (t : Stored). t.tag) (sym c.index.ensures)))
