use Rattle.std.proofs.Common.{◌/◌, ◌^◌, ◌∙◌, ap}
use Rattle.std.specs.Int.Bits.{bit_xor}
use Rattle.edac_code.specs.Code.{check_bits, syndrome}
use Rattle.edac_code.proofs.Answered.{has_struck_syndrome, sum_of_turned}
use Rattle.edac_code.proofs.syndrome39.Goals as goal

pub returns-clause-value : goal.returns-clause-value
unfolding syndrome
returns-clause-value c =
    ap (bit_xor (c.args.cell / 2 ^ 32)) (c.check_bits.ensures.value ∙ ap check_bits c.data.ensures)

pub returns-clause-struck : goal.returns-clause-struck
returns-clause-struck c = has_struck_syndrome c.args.cell _ (returns-clause-value c)

pub returns-clause-turned : goal.returns-clause-turned
returns-clause-turned c = sum_of_turned c.args.cell _ c.requires (returns-clause-struck c)
