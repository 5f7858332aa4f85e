use Rattle.std.proofs.Common.{◌<◌, ◌≤◌, length, arith}
use Rattle.flip_ledger.specs.Ledger.{standing_in}
use Rattle.replay_units.proofs.note.note_flip.Goals as goal

pub returns-then-count-budget-clause-follows : goal.returns-then-count-budget-clause-follows
returns-then-count-budget-clause-follows c = λ bit h new gains follows.
    let below : length (standing_in c.args.ledger.now c.args.unit) < c.args.budget = omega (arith, c.requires.count, c.if-count-budget.true) in
    c.strike.ensures.follows c.args.budget bit h new below gains follows

pub returns-else-count-budget-clause-follows : goal.returns-else-count-budget-clause-follows
returns-else-count-budget-clause-follows c = λ bit h new gains follows.
    let full : c.args.budget ≤ length (standing_in c.args.ledger.now c.args.unit) = omega (arith, c.requires.count, c.if-count-budget.false) in
    c.decline.ensures.follows c.args.budget c.args.unit bit h new c.requires.unit full gains follows
