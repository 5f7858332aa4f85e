use Rattle.std.proofs.Common.{◌<◌, arith}
use Rattle.edac_code.proofs.Tables.{column-found, column-absent}
use Rattle.edac_code.proofs.struck_bit.Goals as goal

pub returns-in_err-place-clause-absent : goal.returns-in_err-place-clause-absent
returns-in_err-place-clause-absent c = rw c.from_residual.ensures (column-absent _ c.in_err-place.ensures.absent)

pub overflow_cast-result : goal.overflow_cast-result
overflow_cast-result c =
    let within : c.in_ok-place.place < 39 = (column-found _ _ c.in_ok-place.ensures.found).0 in
    record { fits = omega arith }

pub returns-clause-found : goal.returns-clause-found
returns-clause-found c = column-found _ _ c.in_ok-place.ensures.found
