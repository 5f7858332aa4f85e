use Rattle.std.proofs.Common.{◌≡◌, map, take}
use Rattle.lf_model.specs.Ledger.Account.{without_length}
use Rattle.run_trace.proofs.parts.without_lengths.Given as goal

abbrev pub invariant-loop-transfer : goal.invariant-loop-transfer
invariant-loop-transfer l = l.reported.items ≡ map without_length (take l.transfer-index l.transfers)
