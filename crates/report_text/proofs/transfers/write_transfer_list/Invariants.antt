use Rattle.std.proofs.Common.{drop}
use Rattle.std.specs.Prelude.{filter}
use Rattle.lf_model.specs.Operation.{enters}
use Rattle.lf_model.specs.TransferLines.{lines_of}
use Rattle.report_text.specs.Written.{progress}
use Rattle.report_text.proofs.Writing.{Behind}
use Rattle.report_text.proofs.transfers.write_transfer_list.Given as goal

-- the lines before this one are written
abbrev pub invariant-loop-transfer : goal.invariant-loop-transfer
invariant-loop-transfer g l =
    Behind (progress (g.K.Sink.taken l.fn.out) (g.K.Sink.faults l.fn.out) l.fn.text)
    (progress (g.K.Sink.taken l.out) (g.K.Sink.faults l.out) l.text) (lines_of l.cores (filter enters l.left) (drop l.transfer-index l.transfers)) (lines_of l.cores (filter enters l.order) l.transfers)
