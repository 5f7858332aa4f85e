use Rattle.std.proofs.Common.{ℕ, ◌<◌}
use Rattle.ledger_audit.specs.FirstPlaces.{SameTurnAt}
use Rattle.ledger_audit.proofs.transfers.first_other_turn.Given as goal

abbrev pub invariant-loop-turn : goal.invariant-loop-turn
invariant-loop-turn l = (j : ℕ) → j < l.turn → SameTurnAt l.given l.told j
