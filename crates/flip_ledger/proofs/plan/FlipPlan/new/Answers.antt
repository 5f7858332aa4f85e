use Rattle.std.proofs.Common.{rules, arith}
use Rattle.std.proofs.lemmas.List.Sorted.{answers_always}
use Rattle.flip_ledger.proofs.PlanLemmas.{planned, by_time}
use Rattle.flip_ledger.proofs.plan.FlipPlan.new.Goals as goal

pub invariant_of-result : goal.invariant_of-result
invariant_of-result c = record {
  within = omega arith;
  by_time = by_time c.sort_by_key.new.self.items (c.in_ok-sort_by_key.ensures.sorted (λ s. s.at) (answers_always _ _ _ (λ f a r g h. search rules)));
}

pub returns : goal.returns
returns c =
    planned c.args.owner c.args.flips.now c.in_ok-strikes.strikes.items c.sort_by_key.new.self.items c.in_ok-strikes.ensures
    (c.sort_by_key.ensures.stable (λ s. s.at) (answers_always _ _ _ (λ f a r g h. search rules)))
