use Rattle.std.proofs.Common.{ℕ, ap, ap₂, ◌∙◌}
use Rattle.std.specs.List.{range_with_len}
use Rattle.lf_model.specs.Caches.Slot.{checked_byte, dropped, wanted_bytes}
use Rattle.replay_caches.specs.Part.{each_in}
use Rattle.replay_caches.specs.SlotsState.{SlotsState, changed}
use Rattle.replay_caches.specs.declared.part.Part.TheVariants.{Line}
use Rattle.replay_caches.proofs.RunLemmas.{changed_then}
use Rattle.replay_caches.proofs.slots.Slots.drop_by_byte.Goals as goal

pub returns : goal.returns
returns c =
    c.drop_line.ensures
    ∙ ap (λ (t : SlotsState). changed dropped c.args.i t)
    (c.check_bytes.ensures
    ∙ ap₂ (λ (a n : ℕ). changed (each_in Line checked_byte (range_with_len a n)) c.args.i c.args.self.now) c.wanted_first.ensures c.wanted_count.ensures)
    ∙ changed_then c.args.i c.args.self.now (each_in Line checked_byte (wanted_bytes c.args.addr c.args.len)) dropped c.requires
