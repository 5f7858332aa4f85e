use Rattle.std.proofs.Common.{drop}
use Rattle.lf_model.specs.Report.{cores_lines}
use Rattle.report_text.specs.Written.{progress}
use Rattle.report_text.proofs.Writing.{Behind}
use Rattle.report_text.proofs.cores.write_core_list.Given as goal

-- the lines before this one are written
abbrev pub invariant-loop-k : goal.invariant-loop-k
invariant-loop-k g l =
    Behind (progress (g.K.Sink.taken l.fn.out) (g.K.Sink.faults l.fn.out) l.fn.text)
    (progress (g.K.Sink.taken l.out) (g.K.Sink.faults l.out) l.text) (cores_lines l.k (drop l.k l.cores)) (cores_lines 0 l.cores)
