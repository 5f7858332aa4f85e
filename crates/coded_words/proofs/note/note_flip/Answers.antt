use Rattle.std.proofs.Common.{◌≡◌, ℕ, ◌<◌, ◌≤◌, Bool, true, false, cond, nat_lt, length, refl, sym, ◌∙◌}
use Rattle.std.proofs.lemmas.Bool.{ltb-true, ltb-false}
use Rattle.ft_cells.specs.declared.flipped.Flipped.TheVariants.{Applied, Declined}
use Rattle.flip_ledger.specs.Ledger.{standing_in}
use Rattle.coded_words.specs.WordState.{answer_by}
use Rattle.coded_words.proofs.note.note_flip.Goals as goal

-- a flip is applied below the budget, and declined at it
applied_below : (n : ℕ) → Applied ≡ answer_by n → n < 2
applied_below n is = cases (nat_lt n 2) refl is
  where
    cases : (b : Bool) → nat_lt n 2 ≡ b → Applied ≡ cond b Applied (Declined n) → n < 2
    cases true e is = ltb-true n 2 e
    cases false e is = cc

declined_full : (n hits : ℕ) → Declined hits ≡ answer_by n → 2 ≤ n
declined_full n hits is = cases (nat_lt n 2) refl is
  where
    cases : (b : Bool) → nat_lt n 2 ≡ b → Declined hits ≡ cond b Applied (Declined n) → 2 ≤ n
    cases true e is = cc
    cases false e is = ltb-false n 2 e

pub returns-in-Applied-clause-follows : goal.returns-in-Applied-clause-follows
returns-in-Applied-clause-follows c = λ bit h new gains follows.
    c.strike.ensures.follows 2 bit h new (applied_below (length (standing_in c.args.ledger.now c.args.unit)) (sym c.in-Applied.is ∙ c.requires.answer)) gains follows

pub returns-in-Declined-clause-follows : goal.returns-in-Declined-clause-follows
returns-in-Declined-clause-follows c = λ bit h new gains follows.
    c.decline.ensures.follows 2 c.args.unit bit h new c.requires.unit
    (declined_full (length (standing_in c.args.ledger.now c.args.unit)) c.in-Declined.field-0 (sym c.in-Declined.is ∙ c.requires.answer)) gains follows
