use Rattle.tso_audit.proofs.OnceFirst.{all_once, once_all}
use Rattle.tso_audit.proofs.parts.is_numbered.Goals as goal

pub returns : goal.returns
returns c = (
  (λ true_. all_once c.deref.result.now c.in_ok-times.times.items c.args.order.now c.args.c c.count_of.result (cc) c.count_of.ensures c.in_ok-times.ensures.length c.in_ok-times.ensures.times (c.are_all_one.ensures.0 true_)),
  (λ once. c.are_all_one.ensures.1 (once_all c.deref.result.now c.in_ok-times.times.items c.args.order.now c.args.c c.count_of.result (cc) c.count_of.ensures c.in_ok-times.ensures.length c.in_ok-times.ensures.times once)),
)
