use Rattle.std.proofs.Common.{◌≡◌, ◌+◌, ◌*◌, ◌<◌}
use Rattle.parity_slots.specs.SlotState.{tag_flipped}
use Rattle.parity_slots.specs.SlotsState.{slot_in}
use Rattle.parity_cache.proofs.KeptLemmas.{kept_flip}
use Rattle.parity_cache.proofs.UnitLemmas.{to_come_in}
use Rattle.parity_cache.proofs.cache.ParityCache.flip.Goals as goal

pub flip_tag-requires-clause-once : goal.flip_tag-requires-clause-once
flip_tag-requires-clause-once c = to_come_in c.args.number _ c.self.invariant.shape.some_way c.self.invariant.slots (rw (← c.self.view_is) at c.requires.once)

pub flip_line-requires-clause-once : goal.flip_line-requires-clause-once
flip_line-requires-clause-once c = to_come_in c.args.number _ c.self.invariant.shape.some_way c.self.invariant.slots (rw (← c.self.view_is) at c.requires.once)

pub invariant_of-self : goal.invariant_of-self
invariant_of-self c =
    let way_fits : c.args.at.way < c.self.inside.shape.ways = rw (← c.self.view_is) at c.requires.unit.way_fits in
    let set_fits : c.args.at.set < c.self.inside.shape.sets = rw (← c.self.view_is) at c.requires.unit.set_fits in
    let slot : c.slot_of-i.result ≡ c.args.at.set * c.self.inside.shape.ways + c.args.at.way = rw (← c.self.view_is) at c.slot_of-i.ensures.slot in
    rw (c.flip_tag.ensures.struck, c.from.ensures, slot)
    (kept_flip c.self.inside c.self.invariant c.args.at.set c.args.at.way
    (tag_flipped c.from-byte.result c.args.number c.args.bit (slot_in (c.args.at.set * c.self.inside.shape.ways + c.args.at.way) c.self.inside.slots)) way_fits set_fits)
