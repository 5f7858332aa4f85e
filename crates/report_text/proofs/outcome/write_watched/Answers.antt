use Rattle.report_text.proofs.Lines.{lines_on}
use Rattle.report_text.proofs.Writing.{begins, behind_more}
use Rattle.lf_model.specs.Report.{watch_line}
use Rattle.report_text.proofs.outcome.write_watched.Goals as goal

pub loop-word-init : goal.loop-word-init
loop-word-init g c = begins _ _

pub loop-word-preserved : goal.loop-word-preserved
loop-word-preserved g c = behind_more c.loop-word.invariant c.write_watched_word.ensures.written (lines_on watch_line _ _ _ c.loop-word-test.true)
