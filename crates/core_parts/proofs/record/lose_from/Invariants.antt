use Rattle.std.proofs.Common.{◌≡◌, ◌++◌, map, take, drop, vec_len}
use Rattle.std.specs.Vec.{vec_capacity}
use Rattle.core_laws.specs.SeenSoFar.{lost_from}
use Rattle.core_parts.proofs.record.lose_from.Given as goal

abbrev pub invariant-loop-i : goal.invariant-loop-i
invariant-loop-i l = record {
  lost : l.ops.items ≡ map (lost_from l.first) (take l.i l.initial.ops.items) ++ drop l.i l.initial.ops.items;
  all : vec_len l.ops ≡ vec_len l.initial.ops;
  reserved : vec_capacity l.ops ≡ vec_capacity l.initial.ops;
}
