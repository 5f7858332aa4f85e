use Rattle.std.proofs.Common.{◌≡◌, ◌<◌, ℕ, None, drop, slice_index_or}
use Rattle.ledger_audit.specs.LostStores.{none_before, before_of}
use Rattle.ledger_audit.proofs.lost.before_in.Given as goal

abbrev pub invariant-loop-place : goal.invariant-loop-place
invariant-loop-place l = (c : ℕ) → c < 8 → slice_index_or l.before c none_before ≡ before_of c (slice_index_or l.lost c None) (drop l.place l.order)
