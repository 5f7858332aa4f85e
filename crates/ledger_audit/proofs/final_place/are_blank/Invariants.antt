use Rattle.std.proofs.Common.{◌≡◌, map, take}
use Rattle.lf_model.specs.Ledger.Account.{value_missing}
use Rattle.ledger_audit.proofs.final_place.are_blank.Given as goal

abbrev pub invariant-loop-place : goal.invariant-loop-place
invariant-loop-place l = take l.place l.blank ≡ map value_missing (take l.place l.words)
