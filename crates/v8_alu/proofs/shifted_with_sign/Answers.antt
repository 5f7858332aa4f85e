use Rattle.std.specs.Prelude.{◌%◌}
use Rattle.std.proofs.Common.{arith}
use Rattle.lf_num.proofs.SignLemmas.{shifted-lt}
use Rattle.v8_alu.proofs.shifted_with_sign.Goals as goal

pub sext-requires-clause-value : goal.sext-requires-clause-value
sext-requires-clause-value c = shifted-lt c.args.a (c.args.b % 32) c.ranges.a.fits (omega arith)
