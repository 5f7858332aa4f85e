use Rattle.report_text.proofs.Lines.{lines_on}
use Rattle.report_text.proofs.Writing.{begins, behind_more}
use Rattle.lf_model.specs.Report.{op_line}
use Rattle.report_text.proofs.outcome.write_operations.Goals as goal

pub loop-op-init : goal.loop-op-init
loop-op-init g c = begins _ _

pub loop-op-preserved : goal.loop-op-preserved
loop-op-preserved g c = behind_more c.loop-op.invariant c.write_operation.ensures.written (lines_on op_line _ _ _ c.loop-op-test.true)
