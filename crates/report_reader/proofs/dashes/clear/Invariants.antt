use Rattle.std.proofs.Common.{◌≡◌}
use Rattle.report_reader.proofs.Bare.{bare_front}
use Rattle.report_reader.proofs.dashes.clear.Given as goal

abbrev pub invariant-loop-transfer : goal.invariant-loop-transfer
invariant-loop-transfer l = l.transfers ≡ bare_front l.transfer-index l.fn.transfers
