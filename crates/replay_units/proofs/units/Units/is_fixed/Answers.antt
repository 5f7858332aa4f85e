use Rattle.lf_model.specs.Caches.Slot.{history_at}
use Rattle.lf_model.specs.Flips.{standing}
use Rattle.replay_units.proofs.UnitLemmas.{bits_here, places_here}
use Rattle.replay_units.proofs.units.Units.is_fixed.Goals as goal

pub returns : goal.returns
returns c =
    let units = c.self.inside in
    let hs = units.histories in
    let within = rw (← c.self.view_is) at c.requires.unit in
    let word = rw (← c.self.view_is) at c.requires.word in
    rw (← c.self.view_is)
    (c.is_fixed.ensures (standing 2 (history_at c.args.unit hs)) (bits_here hs units.bits.items c.args.unit (rw word at c.self.invariant.bits) within c.index.ensures))

pub is_fixed-requires : goal.is_fixed-requires
is_fixed-requires c =
    let units = c.self.inside in
    let within = rw (← c.self.view_is) at c.requires.unit in
    places_here units.budget units.histories units.bits.items c.args.unit c.self.invariant.bits within c.index.ensures
