use Rattle.std.proofs.Common.{◌≡◌, ◌++◌, length, map, take, drop}
use Rattle.flip_ledger.specs.Ledger.{named_where}
use Rattle.flip_ledger.proofs.ledger.name_where.Given as goal

abbrev pub invariant-loop-i : goal.invariant-loop-i
invariant-loop-i l = record {
  named : l.flips.items ≡ map (named_where l.unit l.turn) (take l.i l.initial.flips.items) ++ drop l.i l.initial.flips.items;
  all : length l.flips.items ≡ length l.initial.flips.items;
}
