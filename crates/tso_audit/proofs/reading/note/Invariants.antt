use Rattle.std.proofs.Common.{◌≡◌, ◌<◌, ◌&&◌, ℕ, max, length, get_or}
use Rattle.std.specs.Prelude.{if◌then◌else◌, nat_le, nat_lt}
use Rattle.tso_audit.proofs.reading.note.Given as goal

abbrev pub invariant-loop-x : goal.invariant-loop-x
invariant-loop-x l = (y : ℕ) → y < length l.places → get_or l.places y 0 ≡ max (get_or l.fn.places y 0) (if nat_le l.first y && nat_lt y l.x then l.place else 0)
