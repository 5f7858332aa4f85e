use Rattle.std.proofs.Common.{◌≡◌, map, take}
use Rattle.lf_model.specs.Bus.Status.{status_after}
use Rattle.ledger_audit.specs.Account.{transfer_of}
use Rattle.ledger_audit.proofs.ahb.registers_after.Given as goal

abbrev pub invariant-loop-turn : goal.invariant-loop-turn
invariant-loop-turn l = l.registers ≡ status_after (map transfer_of (take l.turn-index l.turns))
