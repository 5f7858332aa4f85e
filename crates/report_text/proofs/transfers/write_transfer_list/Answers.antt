use Rattle.std.proofs.Common.{filter}
use Rattle.lf_model.specs.Operation.{enters}
use Rattle.report_text.proofs.Lines.{transfers_on}
use Rattle.report_text.proofs.Writing.{begins, behind_more}
use Rattle.report_text.proofs.transfers.write_transfer_list.Goals as goal

pub loop-transfer-init : goal.loop-transfer-init
loop-transfer-init g c = begins _ _

pub loop-transfer-preserved : goal.loop-transfer-preserved
loop-transfer-preserved g c =
    behind_more c.loop-transfer.invariant c.write_transfer.ensures.written
    (transfers_on c.args.cores.now (filter enters c.loop-transfer.left.now) _ _ _ _ _ c.loop-transfer-test.true c.length_at-len.ensures.length c.length_at-len.ensures.later)
