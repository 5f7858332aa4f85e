use Rattle.report_text.proofs.Lines.{lines_on}
use Rattle.report_text.proofs.Writing.{begins, behind_more}
use Rattle.lf_model.specs.Texts.{hex}
use Rattle.report_text.proofs.cores.write_pairs.Goals as goal

pub loop-byte-init : goal.loop-byte-init
loop-byte-init g c = begins _ _

pub loop-byte-preserved : goal.loop-byte-preserved
loop-byte-preserved g c = behind_more c.loop-byte.invariant c.write_pair.ensures.written (lines_on (hex 2) _ _ _ c.loop-byte-test.true)
