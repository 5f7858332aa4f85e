use Rattle.std.proofs.Common.{◌∙◌, sym, arith}
use Rattle.ledger_audit.proofs.OwnTransfers.{ordered, ascending, followed, is_stopped, at_end}
use Rattle.ledger_audit.proofs.core_steps.are_in_order.Goals as goal

pub returns-in-None-clause-found : goal.returns-in-None-clause-found
returns-in-None-clause-found c = λ in_order ascends.
    let all = followed c.args.core c.args.steps 0 c.args.transfers.now in_order ascends in
    let stopped = is_stopped c.args.core c.args.steps c.loop-transfer.first c.args.transfers.now c.loop-transfer.transfer-index _ c.loop-transfer-test.true (sym c.next_step.ensures ∙ c.in-None.is) in
    sym stopped ∙ (sym c.loop-transfer.invariant ∙ all)

pub returns-clause-ordered : goal.returns-clause-ordered
returns-clause-ordered c = λ holds. ordered c.args.core c.args.steps 0 c.args.transfers.now
    (c.loop-transfer.invariant ∙ at_end c.args.core c.args.steps c.loop-transfer.first c.args.transfers.now c.loop-transfer.transfer-index (omega (arith, c.loop-transfer.auto.transfer-index-end)))

pub returns-clause-ascending : goal.returns-clause-ascending
returns-clause-ascending c = λ holds. ascending c.args.core c.args.steps 0 c.args.transfers.now
    (c.loop-transfer.invariant ∙ at_end c.args.core c.args.steps c.loop-transfer.first c.args.transfers.now c.loop-transfer.transfer-index (omega (arith, c.loop-transfer.auto.transfer-index-end)))
