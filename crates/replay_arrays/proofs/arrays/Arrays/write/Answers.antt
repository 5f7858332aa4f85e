use Rattle.replay_arrays.proofs.PendingLemmas.{keep_by_cells, write_keeps}
use Rattle.replay_arrays.proofs.arrays.Arrays.write.Goals as goal

pub invariant_of-self : goal.invariant_of-self
invariant_of-self c = keep_by_cells c.self.inside c.self.invariant _ (rw c.write.ensures (write_keeps c.args.cells.now c.self.inside.parts.cells))
