use Rattle.std.proofs.Common.{◌≡◌, ◌<◌, ℕ, None, drop, slice_index_or}
use Rattle.ledger_audit.specs.LostStores.{lost_of}
use Rattle.ledger_audit.proofs.lost.lost_in.Given as goal

abbrev pub invariant-loop-place : goal.invariant-loop-place
invariant-loop-place l = (c : ℕ) → c < 8 → slice_index_or l.lost c None ≡ lost_of c (drop l.place l.order)
