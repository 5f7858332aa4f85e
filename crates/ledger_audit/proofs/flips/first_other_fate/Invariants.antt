use Rattle.std.proofs.Common.{ℕ, ◌<◌}
use Rattle.ledger_audit.specs.FirstPlaces.{SameFateAt}
use Rattle.ledger_audit.proofs.flips.first_other_fate.Given as goal

abbrev pub invariant-loop-flip : goal.invariant-loop-flip
invariant-loop-flip l = (j : ℕ) → j < l.flip → SameFateAt l.given l.told j
