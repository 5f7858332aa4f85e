use Rattle.report_text.proofs.Lines.{cores_on}
use Rattle.report_text.proofs.Writing.{begins, behind_more}
use Rattle.report_text.proofs.cores.write_core_list.Goals as goal

pub loop-k-init : goal.loop-k-init
loop-k-init g c = begins _ _

pub loop-k-preserved : goal.loop-k-preserved
loop-k-preserved g c = behind_more c.loop-k.invariant c.write_core.ensures.written (cores_on _ _ _ c.loop-k-test.true c.index-cores-k.is)
