use Rattle.std.proofs.Common.{◌≡◌, length}
use Rattle.core_parts.proofs.parts.drop_waiting.Given as goal

abbrev pub invariant-waiting : goal.invariant-waiting
invariant-waiting l = l.buffer.depth ≡ l.initial.buffer.depth

abbrev pub decreases-waiting : goal.decreases-waiting
decreases-waiting l = length l.buffer.waiting
