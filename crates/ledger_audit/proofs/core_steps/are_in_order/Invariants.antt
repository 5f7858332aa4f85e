use Rattle.std.proofs.Common.{◌≡◌, drop}
use Rattle.ledger_audit.proofs.OwnTransfers.{follows_from}
use Rattle.ledger_audit.proofs.core_steps.are_in_order.Given as goal

abbrev pub invariant-loop-transfer : goal.invariant-loop-transfer
invariant-loop-transfer l = follows_from l.core l.steps 0 l.transfers ≡ follows_from l.core l.steps l.first (drop l.transfer-index l.transfers)
