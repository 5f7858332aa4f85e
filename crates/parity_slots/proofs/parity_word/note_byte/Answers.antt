use Rattle.std.proofs.Common.{◌≡◌, ℕ, zero, suc, List, [], ◌∷◌, false, sym, ap, ◌∙◌, arith}
use Rattle.lf_model.specs.Flips.{Moment, is_struck_byte}
use Rattle.parity_units.specs.Events.{AreUnits}
use Rattle.parity_units.specs.declared.byte.ParityByte.{ParityByte}
use Rattle.parity_slots.proofs.WordLemmas.{unmarked, follows_unmarked}
use Rattle.parity_slots.proofs.parity_word.note_byte.Goals as goal

one_unit : (unit : ℕ) (byte : ParityByte) (h : ℕ → List Moment) → byte.struck ≡ is_struck_byte (h unit) → AreUnits unit (byte ∷ []) h
one_unit unit byte h is zero lt = is ∙ ap (λ (u : ℕ). is_struck_byte (h u)) (omega arith)
one_unit unit byte h is (suc i) lt = absurd (omega arith)

pub returns-then-word-ne0-clause-follows : goal.returns-then-word-ne0-clause-follows
returns-then-word-ne0-clause-follows c = λ h is follows.
    c.note.ensures.follows h (one_unit c.args.unit c.byte.result h (ap (λ (b : ParityByte). b.struck) c.byte.ensures ∙ is)) follows

pub returns-else-word-ne0-clause-follows : goal.returns-else-word-ne0-clause-follows
returns-else-word-ne0-clause-follows c = λ h is follows.
    let unstruck : is_struck_byte (h c.args.unit) ≡ false = sym is ∙ unmarked c.args.word c.args.k (omega (arith, c.if-word-ne0.false)) in
    follows_unmarked c.args.unit 1 c.args.event h c.args.ledger.now
    (λ i lt. ap (λ (u : ℕ). is_struck_byte (h u)) (omega (arith, lt)) ∙ unstruck)
    (omega (arith, c.requires.unit)) follows
