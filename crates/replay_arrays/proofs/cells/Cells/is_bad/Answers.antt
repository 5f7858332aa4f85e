use Rattle.std.proofs.Common.{ℕ, ap, ◌∙◌}
use Rattle.lf_model.specs.Caches.Slot.{history_at}
use Rattle.lf_model.specs.Flips.{is_bad_word}
use Rattle.replay_arrays.proofs.cells.Cells.is_bad.Goals as goal

pub returns : goal.returns
returns c = rw (← c.self.view_is) (c.is_bad.ensures ∙ ap (λ (n : ℕ). is_bad_word (history_at n c.self.inside.units.histories)) c.from.ensures)
