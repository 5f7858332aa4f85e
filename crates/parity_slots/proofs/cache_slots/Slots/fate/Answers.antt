use Rattle.std.proofs.Common.{arith}
use Rattle.std.proofs.lemmas.List.{length-map}
use Rattle.lf_model.specs.Flips.{byte_budget}
use Rattle.parity_slots.specs.Kept.{slot_of}
use Rattle.parity_slots.proofs.cache_slots.Slots.fate.Goals as goal

pub returns-clause-struck : goal.returns-clause-struck
returns-clause-struck c =
    let s = c.self.inside in
    rw (← c.self.view_is) (λ unit lt struck. c.fate.ensures.struck byte_budget unit _ c.self.invariant.follows (omega (arith, lt, c.self.invariant.units, length-map s.slots.items slot_of)) struck)

pub returns-clause-late : goal.returns-clause-late
returns-clause-late c =
    let s = c.self.inside in
    rw (← c.self.view_is) (λ none. c.fate.ensures.late byte_budget _ c.self.invariant.follows (λ unit lt. none unit (omega (arith, lt, c.self.invariant.units, length-map s.slots.items slot_of))))
