use Rattle.std.proofs.Common.{ℕ, List, ap, ◌∙◌}
use Rattle.lf_model.specs.Caches.Slot.{Slot, written, tag_of}
use Rattle.replay_caches.specs.Part.{all_in, with_tag}
use Rattle.replay_caches.specs.SlotsState.{SlotsState, changed}
use Rattle.replay_caches.specs.declared.part.Part.TheVariants.{Tag, Line}
use Rattle.replay_caches.proofs.RunLemmas.{changed_then}
use Rattle.replay_caches.proofs.slots.Slots.fill.Goals as goal

pub returns : goal.returns
returns c =
    let s = c.args.self.now in
    c.write_all-2.ensures
    ∙ ap (λ (t : SlotsState). changed (all_in Line written) c.args.i t)
    (c.write_all.ensures
    ∙ ap (λ (t : SlotsState). changed (all_in Tag written) c.args.i t) (c.set_tag.ensures ∙ ap (λ (tag : List ℕ). changed (with_tag tag) c.args.i s) c.tag_of.ensures)
    ∙ changed_then c.args.i s (with_tag (tag_of c.args.addr c.args.valid)) (all_in Tag written) c.requires)
    ∙ changed_then c.args.i s (λ (slot : Slot). all_in Tag written (with_tag (tag_of c.args.addr c.args.valid) slot)) (all_in Line written) c.requires
