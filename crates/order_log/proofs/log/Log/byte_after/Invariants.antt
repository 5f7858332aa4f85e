use Rattle.std.proofs.Common.{take, drop}
use Rattle.order_log.proofs.StoredLemmas.{LeaveAlone}
use Rattle.order_log.proofs.log.Log.byte_after.Given as goal

abbrev pub invariant-loop-place : goal.invariant-loop-place
invariant-loop-place l = LeaveAlone l.addr (drop l.place (take l.i l.self.entries))
