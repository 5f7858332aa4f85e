use Rattle.std.proofs.Common.{ℕ, ◌<◌, length, ap, ◌∙◌}
use Rattle.std.specs.List.{range_with_len}
use Rattle.lf_model.specs.Caches.Slot.{written}
use Rattle.replay_caches.specs.Part.{size_of, each_in, all_in}
use Rattle.replay_caches.specs.SlotsInside.{seen}
use Rattle.replay_caches.specs.SlotsState.{slot_in, changed}
use Rattle.replay_caches.proofs.RunLemmas.{changed_as, all_of_part}
use Rattle.replay_caches.proofs.SlotsLemmas.{lengths}
use Rattle.replay_caches.proofs.slots.Slots.write_all.Goals as goal

pub returns : goal.returns
returns c =
    let lt : c.args.i < length (seen c.self.inside).slots = rw (← c.self.view_is) at c.requires in
    c.write_bytes.ensures
    ∙ ap (λ (n : ℕ). changed (each_in c.args.part written (range_with_len 0 n)) c.args.i c.args.self.now) c.size.ensures
    ∙ (rw (← c.self.view_is)
    (changed_as c.args.i (seen c.self.inside) (each_in c.args.part written (range_with_len 0 (size_of c.args.part))) (all_in c.args.part written)
    (all_of_part c.args.part written (slot_in c.args.i (seen c.self.inside)) (lengths c.self.inside c.self.invariant c.args.i lt c.args.part))))
