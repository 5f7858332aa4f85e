use Rattle.std.proofs.Common.{◌<◌, length, map, sym, arith}
use Rattle.std.proofs.lemmas.List.{length-map}
use Rattle.parity_slots.specs.Kept.{slot_of}
use Rattle.parity_slots.proofs.SlotsLemmas.{state_here}
use Rattle.parity_slots.proofs.cache_slots.Slots.slot.Goals as goal

pub returns : goal.returns
returns c =
    let s = c.self.inside in
    let place : c.args.i < length (map slot_of s.slots.items) = rw (← c.self.view_is) at c.requires in
    let within : c.args.i < length s.slots.items = omega (arith, place, length-map s.slots.items slot_of) in
    rw (← c.self.view_is) (sym (state_here s c.args.i c.index.ensures within))
