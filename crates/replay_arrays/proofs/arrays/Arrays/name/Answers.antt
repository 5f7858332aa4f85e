use Rattle.replay_arrays.proofs.PendingLemmas.{keep_by_cells, name_keeps}
use Rattle.replay_arrays.proofs.arrays.Arrays.name.Goals as goal

pub invariant_of-self : goal.invariant_of-self
invariant_of-self c = keep_by_cells c.self.inside c.self.invariant _ (rw c.name.ensures (name_keeps c.args.cell c.self.inside.parts.cells))
