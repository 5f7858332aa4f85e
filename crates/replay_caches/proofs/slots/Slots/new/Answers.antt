use Rattle.std.proofs.Common.{◌*◌, List, ap, ap₂, ◌∙◌, arith}
use Rattle.lf_model.specs.Caches.Slot.{Slot}
use Rattle.replay_units.specs.Units.{Units}
use Rattle.replay_caches.specs.SlotsInside.{slots_from}
use Rattle.replay_caches.specs.declared.stored.Stored.{Stored}
use Rattle.replay_caches.proofs.SlotLists.{slots_fresh}
use Rattle.replay_caches.proofs.slots.Slots.new.Goals as goal

pub returns : goal.returns
returns c =
    ap₂ (λ (u : Units) (stored : List Stored). record { slots = slots_from 0 u.histories stored; flips = u.flips }) c.in_ok-new.ensures (c.in_ok-vec.ensures.items_if_clones_equal (λ y is. is))
    ∙ ap (λ (slots : List Slot). record { slots = slots; flips = c.args.flips }) (slots_fresh (36 * c.args.count) 0 c.args.count (omega arith))
