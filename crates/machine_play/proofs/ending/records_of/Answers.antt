use Rattle.std.proofs.Common.{◌++◌, [], ◌∷◌, sym, subst}
use Rattle.machine_play.specs.Ending.{AllLeave}
use Rattle.machine_play.proofs.Leaving.{one_more_leaves}
use Rattle.machine_play.proofs.ending.records_of.Goals as goal

pub loop-core-preserved : goal.loop-core-preserved
loop-core-preserved c =
    subst (AllLeave (c.loop-core.yielded ++ c.in-Some.core ∷ [])) (sym c.in_ok-push.ensures.items)
    (one_more_leaves c.loop-core.yielded c.loop-core.records.items c.in-Some.core c.finish.result c.loop-core.invariant (record { leaves = c.finish.ensures.leaves; ok = c.finish.ensures.ok }))
