use Rattle.std.proofs.Common.{◌-◌}
use Rattle.lf_num.proofs.ShiftLemmas.{shifted}
use Rattle.order_log.proofs.log.byte_put.Goals as goal

pub returns : goal.returns
returns c = rw c.from.ensures (shifted c.args.entry.now.put (c.args.entry.now.len - 1 - (c.args.addr - c.args.entry.now.addr)))
