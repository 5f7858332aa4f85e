use Rattle.std.proofs.Common.{◌≡◌, map, take}
use Rattle.std.specs.Prelude.{is_none}
use Rattle.ledger_audit.proofs.cores.are_blank.Given as goal

abbrev pub invariant-loop-number : goal.invariant-loop-number
invariant-loop-number l = take l.number l.blank ≡ map is_none (take l.number l.registers)
