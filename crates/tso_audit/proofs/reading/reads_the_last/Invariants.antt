use Rattle.std.proofs.Common.{◌≡◌, ◌<◌, ◌+◌, ◌-◌, ℕ, get_or}
use Rattle.lf_model.specs.Operation.{made, byte_got}
use Rattle.lf_model.specs.Start.{ram_first}
use Rattle.tso_audit.specs.LastPlaces.{byte_before, start_in}
use Rattle.tso_audit.proofs.reading.reads_the_last.Given as goal

abbrev pub invariant-loop-i : goal.invariant-loop-i
invariant-loop-i l = (i : ℕ) → i < l.i
    → byte_got (l.op.addr + i) (made l.op) ≡ byte_before l.order (l.op.addr + i) (start_in l.at_start (l.op.addr + i)) (get_or l.places (l.op.addr + i - ram_first) 0)
