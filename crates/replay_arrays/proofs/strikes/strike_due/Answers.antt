use Rattle.replay_arrays.proofs.StrikeLemmas.{along_start, along_more, all_struck, planned_later, due_end}
use Rattle.replay_arrays.proofs.strikes.strike_due.Goals as goal

pub due-init : goal.due-init
due-init c = along_start _ _ _ _ _ c.requires.pending

pub strike-requires : goal.strike-requires
strike-requires c =
    let given = rw c.in-Some.is at c.next_due.ensures in
    (rw given.0 at c.due.invariant.pending.strikes).0

pub due-preserved : goal.due-preserved
due-preserved c =
    let given = rw c.in-Some.is at c.next_due.ensures in
    along_more _ _ _ _ _ _ _ c.due.invariant _ _ given.0 given.1 c.strike.ensures

pub returns-clause-begun : goal.returns-clause-begun
returns-clause-begun c =
    all_struck _ _ _ _ _ c.requires.planned _ _ c.due.invariant (due_end c.args.step c.due.plan c.next_due.new.self c.next_due.result c.next_due.ensures c.in_default.not-Some)

pub returns-clause-planned : goal.returns-clause-planned
returns-clause-planned c =
    let given = rw c.in_default.is at c.next_due.ensures in
    rw given.0
    (planned_later _ _ _ _ _ c.requires.planned _ _ c.due.invariant (due_end c.args.step c.due.plan c.next_due.new.self c.next_due.result c.next_due.ensures c.in_default.not-Some))

pub returns-clause-pending : goal.returns-clause-pending
returns-clause-pending c =
    let given = rw c.in_default.is at c.next_due.ensures in
    rw given.0 c.due.invariant.pending
