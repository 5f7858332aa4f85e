use Rattle.std.proofs.Common.{ℕ, ◌+◌, ◌*◌, ap, ◌∙◌}
use Rattle.flip_ledger.specs.Follows.{has_struck}
use Rattle.lf_model.specs.Fates.{fate_of}
use Rattle.lf_model.specs.Flips.{byte_budget}
use Rattle.parity_cache.specs.Kept.{seen}
use Rattle.parity_cache.specs.CacheUnits.{slot_of_unit}
use Rattle.parity_cache.proofs.UnitLemmas.{to_come_in, history_is, number_within, slot_within, unit_in_slot}
use Rattle.parity_slots.specs.Units.{slot_units}
use Rattle.parity_cache.proofs.cache.ParityCache.fate.Goals as goal

pub returns-clause-struck : goal.returns-clause-struck
returns-clause-struck c =
    let cache = (seen c.self.inside).cache in
    rw (← c.self.view_is) (λ at is struck.
    let unit : ℕ = slot_units * slot_of_unit at (seen c.self.inside).cache + unit_in_slot at in
    let same = history_is at (seen c.self.inside).cache is in
    c.fate.ensures.struck (slot_units * slot_of_unit at (seen c.self.inside).cache + unit_in_slot at)
    (number_within at (seen c.self.inside).cache is (slot_within at (seen c.self.inside).cache is c.self.invariant.slots))
    (ap (has_struck c.args.number) same ∙ struck)
    ∙ ap (fate_of byte_budget c.args.number) same)

pub returns-clause-late : goal.returns-clause-late
returns-clause-late c = rw (← c.self.view_is) (λ none. c.fate.ensures.late (to_come_in c.args.number (seen c.self.inside).cache c.self.invariant.shape.some_way c.self.invariant.slots none))
