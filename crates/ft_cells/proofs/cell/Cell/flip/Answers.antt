use Rattle.std.proofs.Common.{◌+◌, ◌<◌, ℕ, List, ap, ◌∙◌, arith}
use Rattle.lf_num.specs.Toggles.{differing_places}
use Rattle.ft_cells.specs.Cells.{CellState}
use Rattle.ft_cells.proofs.StoredLemmas.{stored_turned, differing-turned, back_again}
use Rattle.ft_cells.proofs.cell.Cell.flip.Goals as goal

pub invariant_of-self : goal.invariant_of-self
invariant_of-self g c =
    let below : c.self.inside.hits < g.P.Protect.BUDGET = omega (arith, c.self.invariant.in_budget, c.if-self-BUDGET.false, c.BUDGET.ensures) in
    stored_turned c.args.bit c.self.invariant c.turn-self-inside.ensures.bits c.turn-self-inside.ensures.fits below

pub returns-clause-flips : goal.returns-clause-flips
returns-clause-flips g c =
    let P = g.P.Protect in
    let cell = c.self.inside in
    let code = P.encoded cell.written.value in
    let below : cell.hits < P.BUDGET = omega (arith, c.self.invariant.in_budget, c.if-self-BUDGET.false, c.BUDGET.ensures) in
    let toggled = ap (λ (n : ℕ). differing_places P.BITS n code) c.turn-self-inside.ensures.bits ∙ differing-turned P.BITS (P.number cell.bits) code c.args.bit in
    rw (← c.self.view_is) (below, ap (λ (set : List ℕ). record { value = cell.written.value; toggled = set; hits = cell.hits + 1 }) toggled)

pub returns-clause-back : goal.returns-clause-back
returns-clause-back g c =
    let P = g.P.Protect in
    let cell = c.self.inside in
    let fits = g.met.P.Protect.encoding_fits cell.written.value c.self.invariant.value in
    λ _ one.
    back_again P.BITS (P.number cell.bits) (P.encoded cell.written.value) c.args.bit c.self.invariant.fits fits
    (ap (λ (state : CellState _). state.toggled) c.self.view_is ∙ one) c.turn-self-inside.ensures.bits
