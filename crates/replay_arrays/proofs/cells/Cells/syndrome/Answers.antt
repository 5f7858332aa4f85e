use Rattle.std.proofs.Common.{ℕ, ap, ◌∙◌}
use Rattle.lf_model.specs.Caches.Slot.{history_at}
use Rattle.lf_model.specs.Flips.{syndrome}
use Rattle.replay_arrays.proofs.cells.Cells.syndrome.Goals as goal

pub returns : goal.returns
returns c = rw (← c.self.view_is) (c.syndrome.ensures ∙ ap (λ (n : ℕ). syndrome (history_at n c.self.inside.units.histories)) c.from.ensures)
