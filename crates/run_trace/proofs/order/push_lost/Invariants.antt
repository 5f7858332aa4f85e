use Rattle.std.proofs.Common.{◌≡◌, ◌++◌, take}
use Rattle.run_trace.specs.Order.{chosen, is_lost_in}
use Rattle.run_trace.proofs.order.push_lost.Given as goal

abbrev pub invariant-loop-kept : goal.invariant-loop-kept
invariant-loop-kept l = l.order.items ≡ l.fn.order.items ++ chosen is_lost_in (take l.kept-index l.records)
