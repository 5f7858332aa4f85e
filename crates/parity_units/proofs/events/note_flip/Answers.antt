use Rattle.std.proofs.Common.{◌≡◌, ℕ, ◌<◌, ◌≤◌, Bool, true, false, cond, nat_lt, length, refl, sym, ◌∙◌, arith}
use Rattle.std.proofs.lemmas.Bool.{ltb-true, ltb-false}
use Rattle.ft_cells.specs.declared.flipped.Flipped.TheVariants.{Applied, Declined}
use Rattle.flip_ledger.specs.Ledger.{standing_in}
use Rattle.parity_units.specs.Bytes.{answer_of}
use Rattle.parity_units.proofs.events.note_flip.Goals as goal

-- a flip is applied where none stands, and else declined
applied_none : (n : ℕ) → Applied ≡ answer_of (nat_lt 0 n) → n < 1
applied_none n is = cases (nat_lt 0 n) refl is
  where
    cases : (b : Bool) → nat_lt 0 n ≡ b → Applied ≡ cond b (Declined 1) Applied → n < 1
    cases true e is = cc
    cases false e is = let le : n ≤ 0 = ltb-false 0 n e in omega arith

declined_some : (n hits : ℕ) → Declined hits ≡ answer_of (nat_lt 0 n) → 1 ≤ n
declined_some n hits is = cases (nat_lt 0 n) refl is
  where
    cases : (b : Bool) → nat_lt 0 n ≡ b → Declined hits ≡ cond b (Declined 1) Applied → 1 ≤ n
    cases true e is = let lt : 0 < n = ltb-true 0 n e in omega arith
    cases false e is = cc

pub strike-requires-clause-room : goal.strike-requires-clause-room
strike-requires-clause-room c =
    let few = applied_none (length (standing_in c.args.ledger.now c.args.unit)) (sym c.in-Applied.is ∙ c.requires.answer) in
    omega (arith, few)

pub returns-in-Applied-clause-follows : goal.returns-in-Applied-clause-follows
returns-in-Applied-clause-follows c = λ bit h new gains follows.
    c.strike.ensures.follows 1 bit h new (applied_none (length (standing_in c.args.ledger.now c.args.unit)) (sym c.in-Applied.is ∙ c.requires.answer)) gains follows

pub returns-in-Declined-clause-follows : goal.returns-in-Declined-clause-follows
returns-in-Declined-clause-follows c = λ bit h new gains follows.
    c.decline.ensures.follows 1 c.args.unit bit h new c.requires.unit
    (declined_some (length (standing_in c.args.ledger.now c.args.unit)) c.in-Declined.field-0 (sym c.in-Declined.is ∙ c.requires.answer)) gains follows
