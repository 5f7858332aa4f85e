use Rattle.std.proofs.Common.{drop}
use Rattle.std.specs.List.{flat_map}
use Rattle.lf_model.specs.Report.{op_line}
use Rattle.report_text.specs.Written.{progress}
use Rattle.report_text.proofs.Writing.{Behind}
use Rattle.report_text.proofs.outcome.write_operations.Given as goal

-- the lines before this one are written
abbrev pub invariant-loop-op : goal.invariant-loop-op
invariant-loop-op g l =
    Behind (progress (g.K.Sink.taken l.fn.out) (g.K.Sink.faults l.fn.out) l.fn.text)
    (progress (g.K.Sink.taken l.out) (g.K.Sink.faults l.out) l.text) (flat_map op_line (drop l.op-index l.order)) (flat_map op_line l.order)
