use Rattle.replay_arrays.proofs.PendingLemmas.{keep_by_cells, read_keeps}
use Rattle.replay_arrays.proofs.arrays.Arrays.read.Goals as goal

pub invariant_of-self : goal.invariant_of-self
invariant_of-self c = keep_by_cells c.self.inside c.self.invariant _ (rw c.read.ensures.cells (read_keeps c.args.cells.now c.self.inside.parts.cells))
