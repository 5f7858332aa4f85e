use Rattle.std.proofs.Common.{◌<◌, length, ◌∙◌}
use Rattle.replay_caches.specs.SlotsInside.{seen}
use Rattle.replay_caches.specs.SlotsState.{slot_in}
use Rattle.replay_caches.specs.declared.part.Part.TheVariants.{Tag}
use Rattle.replay_caches.proofs.RunLemmas.{any_tag}
use Rattle.replay_caches.proofs.SlotsLemmas.{lengths}
use Rattle.replay_caches.proofs.slots.Slots.has_struck_tag.Goals as goal

pub returns : goal.returns
returns c =
    let lt : c.args.i < length (seen c.self.inside).slots = rw (← c.self.view_is) at c.requires in
    c.has_struck.ensures ∙ (rw (← c.self.view_is) (any_tag (slot_in c.args.i (seen c.self.inside)) (lengths c.self.inside c.self.invariant c.args.i lt Tag)))
