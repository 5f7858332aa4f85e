use Rattle.std.proofs.Common.{ℕ, List}
use Rattle.flip_ledger.specs.Follows.{Follows, Keeps}
use Rattle.lf_model.specs.Flips.{Moment, byte_budget}
use Rattle.parity_units.specs.Events.{befallen, over, AreUnits}
use Rattle.parity_units.proofs.events.note.Given as goal

abbrev pub invariant-loop-i : goal.invariant-loop-i
invariant-loop-i l = record {
  keeps : Keeps l.initial.ledger l.ledger;
  follows : (h : ℕ → List Moment) → AreUnits l.first l.bytes h → Follows byte_budget h l.initial.ledger → Follows byte_budget (over l.first l.i (befallen l.event) h) l.ledger;
}
