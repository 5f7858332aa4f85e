use Rattle.std.proofs.Common.{◌≡◌, drop}
use Rattle.lf_model.specs.Course.Arrays.{read_cells}
use Rattle.replay_arrays.proofs.cells.Cells.read.Given as goal

abbrev pub invariant-loop-i : goal.invariant-loop-i
invariant-loop-i l = (read_cells (drop l.i l.cells) l.self.histories ≡ read_cells l.cells l.fn.self.histories) × (l.self.flips ≡ l.fn.self.flips)
