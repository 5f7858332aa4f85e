use Rattle.std.proofs.Common.{length, ap, sym}
use Rattle.replay_arrays.proofs.StrikeLemmas.{pending_start}
use Rattle.replay_arrays.proofs.arrays.Arrays.new.Goals as goal

pub invariant_of-result : goal.invariant_of-result
invariant_of-result c =
    let script = c.args.setup.now.flips in
    let count = ap length c.as_slice-flips.ensures.items in
    let planned = rw c.as_slice-flips.ensures.items at c.in_ok-new-2.ensures in
    rw (c.of.ensures, c.in_ok-new.ensures)
    (record {
      flips = record { cells = count; fetch_cache = count; data_cache = count };
      planned = planned;
      pending = pending_start c.args.core script c.args.setup.now.config _ (sym count) c.in_ok-new-2.field-0 c.requires.aims planned;
    })
