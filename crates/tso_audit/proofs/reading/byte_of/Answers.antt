use Rattle.std.proofs.Common.{◌-◌}
use Rattle.lf_num.proofs.ShiftLemmas.{shifted}
use Rattle.tso_audit.proofs.reading.byte_of.Goals as goal

pub returns : goal.returns
returns c = rw c.from-after.ensures (shifted c.args.value (c.args.len - 1 - c.args.i))
