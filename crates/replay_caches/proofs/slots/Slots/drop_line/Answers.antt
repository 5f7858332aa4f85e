use Rattle.std.proofs.Common.{ap, ◌∙◌}
use Rattle.lf_model.specs.Caches.Slot.{empty_tag, written}
use Rattle.replay_caches.specs.Part.{all_in, with_tag}
use Rattle.replay_caches.specs.SlotsState.{SlotsState, changed}
use Rattle.replay_caches.specs.declared.part.Part.TheVariants.{Tag}
use Rattle.replay_caches.proofs.RunLemmas.{changed_then}
use Rattle.replay_caches.proofs.slots.Slots.drop_line.Goals as goal

pub returns : goal.returns
returns c =
    c.write_all.ensures
    ∙ ap (λ (t : SlotsState). changed (all_in Tag written) c.args.i t) c.set_tag.ensures
    ∙ changed_then c.args.i c.args.self.now (with_tag empty_tag) (all_in Tag written) c.requires
