use Rattle.std.proofs.Common.{ap, ◌∙◌}
use Rattle.lf_model.specs.Caches.Slot.{checked_byte, dropped}
use Rattle.replay_caches.specs.Part.{all_in}
use Rattle.replay_caches.specs.SlotsState.{SlotsState, changed}
use Rattle.replay_caches.specs.declared.part.Part.TheVariants.{Tag}
use Rattle.replay_caches.proofs.RunLemmas.{changed_then}
use Rattle.replay_caches.proofs.slots.Slots.drop_by_tag.Goals as goal

pub returns : goal.returns
returns c =
    c.drop_line.ensures
    ∙ ap (λ (t : SlotsState). changed dropped c.args.i t) c.check_all.ensures
    ∙ changed_then c.args.i c.args.self.now (all_in Tag checked_byte) dropped c.requires
