use Rattle.std.proofs.Common.{◌+◌, ap, ◌∙◌}
use Rattle.std.specs.List.{range_with_len}
use Rattle.lf_model.specs.Caches.Slot.{written}
use Rattle.replay_caches.specs.Part.{befallen_in, each_in}
use Rattle.replay_caches.specs.SlotsState.{SlotsState, slot_in, changed}
use Rattle.replay_caches.proofs.RunLemmas.{changed_as, changed_then, each_more}
use Rattle.replay_caches.proofs.slots.Slots.write_bytes.Goals as goal

pub loop-k-preserved : goal.loop-k-preserved
loop-k-preserved c =
    let s = c.args.self.now in
    let part = c.args.part in
    c.write.ensures
    ∙ ap (λ (t : SlotsState). changed (befallen_in c.args.part written (c.args.first + c.loop-k.k)) c.args.i t) c.loop-k.invariant
    ∙ changed_then c.args.i s (each_in part written (range_with_len c.args.first c.loop-k.k)) (befallen_in part written (c.args.first + c.loop-k.k)) c.requires.slot
    ∙ changed_as c.args.i s (λ slot. befallen_in c.args.part written (c.args.first + c.loop-k.k) (each_in c.args.part written (range_with_len c.args.first c.loop-k.k) slot)) (each_in part written (range_with_len c.args.first (c.loop-k.k + 1)))
    (each_more part written (slot_in c.args.i s) c.args.first c.loop-k.k)
