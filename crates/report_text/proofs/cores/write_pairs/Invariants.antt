use Rattle.std.proofs.Common.{drop}
use Rattle.std.specs.List.{flat_map}
use Rattle.lf_model.specs.Texts.{hex}
use Rattle.report_text.specs.Written.{progress}
use Rattle.report_text.proofs.Writing.{Behind}
use Rattle.report_text.proofs.cores.write_pairs.Given as goal

-- the lines before this one are written
abbrev pub invariant-loop-byte : goal.invariant-loop-byte
invariant-loop-byte g l =
    Behind (progress (g.K.Sink.taken l.fn.out) (g.K.Sink.faults l.fn.out) l.fn.text)
    (progress (g.K.Sink.taken l.out) (g.K.Sink.faults l.out) l.text) (flat_map (hex 2) (drop l.byte-index l.bytes)) (flat_map (hex 2) l.bytes)
