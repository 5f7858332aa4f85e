use Rattle.std.proofs.Common.{◌≡◌, drop, length, count_by}
use Rattle.lf_model.specs.Operation.{of_core}
use Rattle.tso_thread.proofs.ProgramOrder.{HaveFirst}
use Rattle.tso_thread.proofs.program_order.program_order.Given as goal

abbrev pub invariant-loop-i : goal.invariant-loop-i
invariant-loop-i l = (length l.ops.items ≡ count_by (of_core l.core) l.order) × HaveFirst l.core (drop l.i l.order) l.ops.items
