use Rattle.std.proofs.Common.{◌≡◌, ℕ, ◌∷◌, List, true, false, sym, ap, ◌∙◌}
use Rattle.std.proofs.lemmas.List.{length-set}
use Rattle.lf_model.specs.Caches.Slot.{history_at, befalls}
use Rattle.lf_model.specs.Flips.{Moment, is_fixed_word}
use Rattle.lf_model.specs.Flips.How.{ByReadBack}
use Rattle.lf_model.specs.Flips.Moment.{Written}
use Rattle.replay_units.specs.Units.{Units}
use Rattle.replay_arrays.specs.CellsState.{CellsState}
use Rattle.replay_arrays.proofs.CellLemmas.{put_right, left_alone}
use Rattle.replay_arrays.proofs.cells.Cells.read_back.Goals as goal

pub invariant_of-self : goal.invariant_of-self
invariant_of-self c =
    let hs = c.self.inside.units.histories in
    rw c.write.ensures (record {
      budget = c.self.invariant.budget;
      count = length-set hs c.from-then-is_fixed.result (Written ByReadBack ∷ history_at c.from-then-is_fixed.result hs) ∙ c.self.invariant.count;
    })

pub returns-then-is_fixed : goal.returns-then-is_fixed
returns-then-is_fixed c =
    let hs = c.self.inside.units.histories in
    let flips = c.self.inside.units.flips in
    let made : List (List Moment) → CellsState = λ histories. record { histories = histories; flips = flips } in
    let fixed : is_fixed_word (history_at c.args.cell hs) ≡ true = sym (c.is_fixed.ensures ∙ ap (λ (n : ℕ). is_fixed_word (history_at n hs)) c.from.ensures) ∙ c.if-is_fixed.true in
    rw (← c.self.view_is)
    (ap (λ (u : Units). record { histories = u.histories; flips = u.flips }) c.write.ensures
    ∙ ap (λ (n : ℕ). made (befalls (λ h. Written ByReadBack ∷ h) n hs)) c.from-then-is_fixed.ensures
    ∙ ap made (put_right hs c.args.cell fixed))

pub returns-else-is_fixed : goal.returns-else-is_fixed
returns-else-is_fixed c =
    let hs = c.self.inside.units.histories in
    let made : List (List Moment) → CellsState = λ histories. record { histories = histories; flips = c.self.inside.units.flips } in
    let not_it : is_fixed_word (history_at c.args.cell hs) ≡ false = sym (c.is_fixed.ensures ∙ ap (λ (n : ℕ). is_fixed_word (history_at n hs)) c.from.ensures) ∙ c.if-is_fixed.false in
    rw (← c.self.view_is) (ap made (left_alone hs c.args.cell not_it))
