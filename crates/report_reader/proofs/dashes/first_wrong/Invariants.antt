use Rattle.std.proofs.Common.{◌≡◌, filter, drop}
use Rattle.lf_model.specs.Operation.{enters}
use Rattle.report_reader.specs.Dashes.{wrong_at}
use Rattle.report_reader.proofs.dashes.first_wrong.Given as goal

abbrev pub invariant-loop-i : goal.invariant-loop-i
invariant-loop-i l = wrong_at l.cores (filter enters l.left) l.i (drop l.i l.transfers) ≡ wrong_at l.cores (filter enters l.order) 0 l.transfers
