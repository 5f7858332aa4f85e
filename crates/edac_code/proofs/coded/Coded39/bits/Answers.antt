use Rattle.std.proofs.Common.{ℕ, ◌^◌, ◌<◌, ap, ◌∙◌, arith}
use Rattle.std.specs.Int.Bits.{bit_xor}
use Rattle.std.proofs.lemmas.Nat.{xor_lt}
use Rattle.edac_code.specs.Code.{check_bits}
use Rattle.edac_code.specs.Kept.{cell_of}
use Rattle.edac_code.proofs.Checks.{check_bits-lt}
use Rattle.edac_code.proofs.KeptBits.{cell_of-lt}
use Rattle.edac_code.proofs.coded.Coded39.bits.Goals as goal

pub returns-clause-bits : goal.returns-clause-bits
unfolding cell_of
returns-clause-bits c =
    let cell = c.args.self in
    let small : bit_xor (check_bits cell.word) cell.syndrome < 2 ^ 7 = xor_lt 7 (check_bits cell.word) cell.syndrome (check_bits-lt cell.word) cell.small in
    let stored = c.from-2.ensures ∙ ap (λ (x : ℕ). bit_xor x cell.syndrome) c.check_bits.ensures.value in
    omega (arith, small, stored, c.from.ensures)

pub returns-clause-fits : goal.returns-clause-fits
returns-clause-fits c =
    rw (returns-clause-bits c) (cell_of-lt c.args.self.word c.args.self.syndrome c.args.self.whole c.args.self.small)
