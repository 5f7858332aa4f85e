use Rattle.std.proofs.Common.{sym, ap, ◌∙◌}
use Rattle.ft_cells.proofs.StoredLemmas.{stored_fresh, state_fresh}
use Rattle.ft_cells.proofs.cell.Cell.new.Goals as goal

pub invariant_of-result : goal.invariant_of-result
invariant_of-result g c =
    let P = g.P.Protect in
    stored_fresh (c.fresh.ensures.code ∙ ap P.encoded (sym c.of.ensures)) c.fresh.ensures.fits (ap P.is_value c.of.ensures ∙ c.fresh.ensures.value)

pub returns : goal.returns
returns g c =
    let P = g.P.Protect in
    state_fresh P.BITS c.args.v c.of.result.value (c.fresh.ensures.code ∙ ap P.encoded (sym c.of.ensures)) c.of.ensures
