use Rattle.std.proofs.Common.{arith}
use Rattle.lf_io.proofs.Taking.{takes_more}
use Rattle.lf_io.proofs.put.put_all.Goals as goal

pub loop-at-preserved : goal.loop-at-preserved
loop-at-preserved g c = record {
  within = omega (arith, c.in_ok-at.ensures.within);
  taken = takes_more _ _ _ _ _ _ c.loop-at.invariant.taken c.in_ok-at.ensures.taken;
  counted = omega (arith, c.write.ensures.never_falls);
}
