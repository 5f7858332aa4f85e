use Rattle.std.proofs.Common.{sym, arith}
use Rattle.lf_num.specs.Toggles.{differing_places}
use Rattle.lf_num.proofs.ToggleLemmas.{struck-differing}
use Rattle.ft_cells.proofs.StoredLemmas.{is_cell}
use Rattle.ft_cells.proofs.cell.Cell.read_struck.Goals as goal

pub returns-clause-answer : goal.returns-clause-answer
returns-clause-answer g c =
    let P = g.P.Protect in
    let cell = c.self.inside in
    let bits = P.number cell.bits in
    let code = P.encoded cell.written.value in
    let holds = c.self.invariant in
    let known = is_cell cell.written.value holds in
    let fits = g.met.P.Protect.encoding_fits cell.written.value holds.value in
    rw (← c.self.view_is)
    (c.read.ensures cell.written.value (differing_places P.BITS bits code) holds.value known.set (omega (arith, known.few, known.in_budget)) (sym (struck-differing P.BITS bits code holds.fits fits)))

pub returns-clause-cell : goal.returns-clause-cell
returns-clause-cell g c = rw (← c.self.view_is) (is_cell c.self.inside.written.value c.self.invariant)
