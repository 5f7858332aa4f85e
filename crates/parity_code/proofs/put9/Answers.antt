use Rattle.std.proofs.Common.{arith}
use Rattle.parity_code.specs.Parity.{code}
use Rattle.parity_code.proofs.put9.Goals as goal

pub returns-clause-code : goal.returns-clause-code
unfolding code
returns-clause-code c = grind arith
