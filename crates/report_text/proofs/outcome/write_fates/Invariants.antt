use Rattle.std.proofs.Common.{drop}
use Rattle.lf_model.specs.Report.{fate_lines}
use Rattle.report_text.specs.Written.{progress}
use Rattle.report_text.proofs.Writing.{Behind}
use Rattle.report_text.proofs.outcome.write_fates.Given as goal

-- the lines before this one are written
abbrev pub invariant-loop-i : goal.invariant-loop-i
invariant-loop-i g l =
    Behind (progress (g.K.Sink.taken l.fn.out) (g.K.Sink.faults l.fn.out) l.fn.text)
    (progress (g.K.Sink.taken l.out) (g.K.Sink.faults l.out) l.text) (fate_lines l.i (drop l.i l.fates)) (fate_lines 0 l.fates)
