use Rattle.report_text.proofs.Lines.{fates_on}
use Rattle.report_text.proofs.Writing.{begins, behind_more}
use Rattle.report_text.proofs.outcome.write_fates.Goals as goal

pub loop-i-init : goal.loop-i-init
loop-i-init g c = begins _ _

pub loop-i-preserved : goal.loop-i-preserved
loop-i-preserved g c = behind_more c.loop-i.invariant c.write_fate.ensures.written (fates_on _ _ _ c.loop-i-test.true)
