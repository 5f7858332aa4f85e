use Rattle.std.proofs.Common.{length, take, ◌-◌, ◌≤◌}
use Rattle.lf_io.specs.Taken.{Takes}
use Rattle.lf_io.proofs.put.put_all.Given as goal

-- the part before `at` was taken
abbrev pub invariant-loop-at : goal.invariant-loop-at
invariant-loop-at g l = record {
  within : l.at ≤ length l.piece;
  taken : Takes (g.K.Sink.taken l.fn.out) (g.K.Sink.taken l.out) (take l.at l.piece);
  counted : g.K.Sink.faults l.fn.out ≤ g.K.Sink.faults l.out;
}

abbrev pub decreases-loop-at : goal.decreases-loop-at
decreases-loop-at g l = length l.piece - l.at
