use Rattle.run_trace.proofs.Placing.{Weaving}
use Rattle.run_trace.proofs.order.order_of.Given as goal

abbrev pub invariant-loop-place : goal.invariant-loop-place
invariant-loop-place l = Weaving l.records l.log.entries l.order.items l.cursors.items l.place
