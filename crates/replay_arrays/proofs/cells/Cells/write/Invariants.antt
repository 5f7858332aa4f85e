use Rattle.std.proofs.Common.{◌≡◌, take}
use Rattle.lf_model.specs.Caches.Slot.{befalls_each, written}
use Rattle.replay_arrays.proofs.cells.Cells.write.Given as goal

abbrev pub invariant-loop-i : goal.invariant-loop-i
invariant-loop-i l = l.self ≡ record l.fn.self { histories = befalls_each written (take l.i l.cells) l.fn.self.histories }
