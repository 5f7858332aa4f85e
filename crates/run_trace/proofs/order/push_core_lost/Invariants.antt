use Rattle.std.proofs.Common.{◌≡◌, ◌++◌, filter, take}
use Rattle.run_trace.specs.Order.{is_lost_in}
use Rattle.run_trace.proofs.order.push_core_lost.Given as goal

abbrev pub invariant-loop-op : goal.invariant-loop-op
invariant-loop-op l = l.order.items ≡ l.fn.order.items ++ filter (is_lost_in l.kept) (take l.op-index l.kept.ops)
