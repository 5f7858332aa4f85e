use Rattle.std.proofs.Common.{◌<◌, refl, subst}
use Rattle.flip_ledger.specs.declared.plan.Strike.{Strike}
use Rattle.flip_ledger.proofs.PlanLemmas.{none_due}
use Rattle.flip_ledger.proofs.plan.FlipPlan.next_due.Goals as goal

pub returns-then-strike-at : goal.returns-then-strike-at
returns-then-strike-at c =
    let strikes = c.self.inside.strikes.items in
    let here = c.index-strike.result.now in
    rw (← c.self.view_is) (
      refl,
      none_due strikes c.self.inside.next c.args.at here c.self.invariant.by_time
          (λ lt. subst (λ (s : Strike). c.args.at < s.at) c.index-strike.ensures c.if-strike-at.true),
    )
