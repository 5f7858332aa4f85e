use Rattle.std.proofs.Common.{arith}
use Rattle.edac_code.specs.Code.{code}
use Rattle.edac_code.proofs.encode39.Goals as goal

pub returns-clause-code : goal.returns-clause-code
unfolding code
returns-clause-code c = omega (arith, c.check_bits.ensures.value)
