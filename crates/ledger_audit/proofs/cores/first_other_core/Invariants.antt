use Rattle.std.proofs.Common.{ℕ, ◌<◌}
use Rattle.ledger_audit.specs.FirstPlaces.{SameCoreAt}
use Rattle.ledger_audit.specs.LostStores.{TellsLost}
use Rattle.ledger_audit.proofs.cores.first_other_core.Given as goal

abbrev pub invariant-loop-core : goal.invariant-loop-core
invariant-loop-core l = record {
  lost : TellsLost l.trace.order l.lost;
  held : (j : ℕ) → j < l.core → SameCoreAt l.given l.trace j;
}
