use Rattle.std.proofs.Common.{sym}
use Rattle.lf_num.proofs.ToggleLemmas.{struck-differing}
use Rattle.ft_cells.proofs.StoredLemmas.{is_cell}
use Rattle.ft_cells.proofs.cell.Cell.bits.Goals as goal

pub returns-clause-bits : goal.returns-clause-bits
returns-clause-bits g c =
    let P = g.P.Protect in
    let cell = c.self.inside in
    let fits = g.met.P.Protect.encoding_fits cell.written.value c.self.invariant.value in
    rw (← c.self.view_is) (sym (struck-differing P.BITS (P.number cell.bits) (P.encoded cell.written.value) c.self.invariant.fits fits))

pub returns-clause-cell : goal.returns-clause-cell
returns-clause-cell g c = rw (← c.self.view_is) (is_cell c.self.inside.written.value c.self.invariant)
