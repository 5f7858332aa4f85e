use Rattle.std.proofs.Common.{arith}
use Rattle.replay_units.proofs.units.Units.fate.Goals as goal

pub returns-clause-struck : goal.returns-clause-struck
returns-clause-struck c =
    let units = c.self.inside in
    rw (← c.self.view_is) (λ unit lt struck. c.fate.ensures.struck units.budget unit _ c.self.invariant.follows (omega (arith, lt, c.self.invariant.units)) struck)

pub returns-clause-late : goal.returns-clause-late
returns-clause-late c =
    let units = c.self.inside in
    rw (← c.self.view_is) (λ none. c.fate.ensures.late units.budget _ c.self.invariant.follows (λ unit lt. none unit (omega (arith, lt, c.self.invariant.units))))
