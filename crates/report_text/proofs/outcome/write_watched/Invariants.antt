use Rattle.std.proofs.Common.{drop}
use Rattle.std.specs.List.{flat_map}
use Rattle.lf_model.specs.Report.{watch_line}
use Rattle.report_text.specs.Written.{progress}
use Rattle.report_text.proofs.Writing.{Behind}
use Rattle.report_text.proofs.outcome.write_watched.Given as goal

-- the lines before this one are written
abbrev pub invariant-loop-word : goal.invariant-loop-word
invariant-loop-word g l =
    Behind (progress (g.K.Sink.taken l.fn.out) (g.K.Sink.faults l.fn.out) l.fn.text)
    (progress (g.K.Sink.taken l.out) (g.K.Sink.faults l.out) l.text) (flat_map watch_line (drop l.word-index l.words)) (flat_map watch_line l.words)
