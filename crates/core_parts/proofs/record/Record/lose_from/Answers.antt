use Rattle.std.proofs.Common.{rules}
use Rattle.core_parts.proofs.RegularMade.{regular_losing}
use Rattle.core_parts.proofs.record.Record.lose_from.Goals as goal

pub invariant_of-self : goal.invariant_of-self
invariant_of-self c = record {
  one_each = search rules;
  same_room = search rules;
  within = search rules;
  few = search rules;
  fit = rw c.lose_from.ensures.items (regular_losing c.args.first c.self.inside.ops.items c.self.invariant.fit);
}
