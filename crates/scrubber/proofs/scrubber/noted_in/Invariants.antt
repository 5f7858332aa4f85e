use Rattle.std.proofs.Common.{◌≡◌, ◌≤◌, length}
use Rattle.scrubber.specs.WalkState.{noted_to}
use Rattle.scrubber.proofs.scrubber.noted_in.Given as goal

abbrev pub invariant-loop-place : goal.invariant-loop-place
invariant-loop-place l = (l.noted.items ≡ noted_to l.line l.read.syn l.place) × (length l.noted.items ≤ l.place)
