use Rattle.std.proofs.Common.{◌≡◌, map}
use Rattle.std.specs.List.{range_with_len}
use Rattle.core_parts.specs.CoreValue.{start_value}
use Rattle.machine_play.proofs.machine.cores_at_reset.Given as goal

abbrev pub invariant-loop-number : goal.invariant-loop-number
invariant-loop-number l = l.cores.items ≡ map (start_value l.s) (range_with_len 0 l.number)
