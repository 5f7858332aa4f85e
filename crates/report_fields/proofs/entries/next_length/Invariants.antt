use Rattle.std.proofs.Common.{◌≡◌, filter, length}
use Rattle.lf_model.specs.Operation.{enters}
use Rattle.report_fields.proofs.entries.next_length.Given as goal

abbrev pub invariant-loop-op : goal.invariant-loop-op
invariant-loop-op l = filter enters l.left ≡ filter enters l.order

abbrev pub decreases-loop-op : goal.decreases-loop-op
decreases-loop-op l = length l.left
