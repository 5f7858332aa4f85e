use Rattle.std.proofs.Common.{ℕ, ◌*◌, List}
use Rattle.flip_ledger.specs.Follows.{Follows, Keeps}
use Rattle.lf_model.specs.Flips.{Moment, byte_budget}
use Rattle.parity_slots.specs.ParityWords.{AreWordUnits}
use Rattle.parity_units.specs.Events.{befallen, over}
use Rattle.parity_slots.proofs.parity_word.note_words.Given as goal

abbrev pub invariant-loop-w : goal.invariant-loop-w
invariant-loop-w l = record {
  keeps : Keeps l.initial.ledger l.ledger;
  follows : (h : ℕ → List Moment) → AreWordUnits l.first l.words h → Follows byte_budget h l.initial.ledger → Follows byte_budget (over l.first (4 * l.w) (befallen l.event) h) l.ledger;
}
