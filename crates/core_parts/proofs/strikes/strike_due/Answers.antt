use Rattle.core_parts.proofs.StepLemmas.{along_more, may_strike, all_struck, planned_later, units_later, came_later, due_end}
use Rattle.core_parts.proofs.strikes.strike_due.Goals as goal

pub strike-requires : goal.strike-requires
strike-requires c =
    let given = rw (c.in-Some.is, c.steps.ensures.steps) at c.next_due.ensures in
    may_strike c.args.site.now.flips c.args.made.now.core c.args.made.now.steps c.args.arrays.now c.args.plan.now c.requires.planned c.due.arrays c.due.plan c.due.invariant c.in-Some.next c.next_due.new.self given.0 given.1
    c.requires.units c.requires.came

pub due-preserved : goal.due-preserved
due-preserved c =
    let given = rw (c.in-Some.is, c.steps.ensures.steps) at c.next_due.ensures in
    along_more c.args.site.now.flips c.args.made.now.core c.args.made.now.steps c.args.arrays.now c.args.plan.now c.requires.planned c.due.arrays c.due.plan c.due.invariant c.in-Some.next c.next_due.new.self given.0 given.1
    c.strike.ensures

pub returns-clause-struck : goal.returns-clause-struck
returns-clause-struck c =
    all_struck c.args.site.now.flips c.args.made.now.core c.args.made.now.steps c.args.arrays.now c.args.plan.now c.requires.planned c.due.arrays c.due.plan c.due.invariant
    (due_end c.args.made.now.steps c.due.plan c.next_due.new.self c.next_due.result (rw c.steps.ensures.steps at c.next_due.ensures) c.in_default.not-Some)

pub returns-clause-planned : goal.returns-clause-planned
returns-clause-planned c =
    let given = rw (c.in_default.is, c.steps.ensures.steps) at c.next_due.ensures in
    rw given.0
    (planned_later c.args.site.now.flips c.args.made.now.core c.args.made.now.steps c.args.arrays.now c.args.plan.now c.requires.planned c.due.arrays c.due.plan c.due.invariant
    (due_end c.args.made.now.steps c.due.plan c.next_due.new.self c.next_due.result (rw c.steps.ensures.steps at c.next_due.ensures) c.in_default.not-Some))

pub returns-clause-units : goal.returns-clause-units
returns-clause-units c =
    units_later c.args.site.now.flips c.args.made.now.core c.args.made.now.steps c.args.arrays.now c.args.plan.now c.requires.planned c.due.arrays c.due.plan c.due.invariant
    (due_end c.args.made.now.steps c.due.plan c.next_due.new.self c.next_due.result (rw c.steps.ensures.steps at c.next_due.ensures) c.in_default.not-Some) c.requires.units

pub returns-clause-came : goal.returns-clause-came
returns-clause-came c =
    came_later c.args.site.now.flips c.args.made.now.core c.args.made.now.steps c.args.arrays.now c.args.plan.now c.requires.planned c.due.arrays c.due.plan c.due.invariant
    (due_end c.args.made.now.steps c.due.plan c.next_due.new.self c.next_due.result (rw c.steps.ensures.steps at c.next_due.ensures) c.in_default.not-Some) c.requires.units c.requires.came
