use Rattle.lf_num.proofs.Sums.{ones_below-all}
use Rattle.lf_num.proofs.ones.Goals as goal

pub returns : goal.returns
returns c = record { count = ones_below-all 64 c.args.v c.ranges.v.fits }
