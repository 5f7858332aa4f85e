use Rattle.run_trace.proofs.Placing.{CoresPlaced}
use Rattle.run_trace.proofs.order.push_loads.Given as goal

abbrev pub invariant-loop-c : goal.invariant-loop-c
invariant-loop-c l = CoresPlaced l.seen l.records l.fn.order.items l.order.items l.cursors.items l.c
