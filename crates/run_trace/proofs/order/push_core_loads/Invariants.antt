use Rattle.run_trace.proofs.Placing.{LoadsPlaced}
use Rattle.run_trace.proofs.order.push_core_loads.Given as goal

abbrev pub invariant-loop-k : goal.invariant-loop-k
invariant-loop-k l = LoadsPlaced l.seen l.kept l.fn.order.items l.order.items l.k
