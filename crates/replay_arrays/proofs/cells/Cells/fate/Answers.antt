use Rattle.std.proofs.Common.{ℕ, [], length, sym, ap, ◌∙◌, inl, inr}
use Rattle.std.proofs.lemmas.Bool.{cases_lt, false≢true}
use Rattle.std.proofs.lemmas.List.{get_or_past}
use Rattle.flip_ledger.specs.Follows.{has_struck}
use Rattle.lf_model.specs.Caches.Slot.{history_at}
use Rattle.lf_model.specs.Fates.{fate_of}
use Rattle.replay_arrays.proofs.cells.Cells.fate.Goals as goal

pub returns-clause-struck : goal.returns-clause-struck
returns-clause-struck c =
    let hs = c.self.inside.units.histories in
    rw (← c.self.view_is)
    (λ cell struck.
    elim (cases_lt cell (length hs)) [
      | inl within ↦ c.fate.ensures.struck cell within struck ∙ ap (λ (budget : ℕ). fate_of budget c.args.number (history_at cell hs)) c.self.invariant.budget
      | inr past ↦ absurd (false≢true (sym (ap (has_struck c.args.number) (get_or_past hs cell [] past)) ∙ struck))
    ])
