-- A core's transfers, in its steps and after its last step.
use Rattle.std.proofs.Common.{◌≡◌, ◌∙◌, ◌<◌, ◌≤◌, ◌++◌, ℕ, true, false, nat_lt, nat_le, List, filter, ap}
use Rattle.std.proofs.lemmas.Bool.{lt-ltb, le-ltb, lt-leb, le-leb, leb-true}
use Rattle.std.proofs.lemmas.List.{append-nil}
use Rattle.std.proofs.lemmas.List.Elements.{filter-append}
use Rattle.std.specs.List.{AllByRecursion as Each}
use Rattle.core_laws.proofs.ListLemmas.{filter_all, each_passes}
use Rattle.core_laws.specs.StepsSoFar.{HasStepsSoFar}
use Rattle.lf_model.proofs.EachLemmas.{each_weaker, filter_none}
use Rattle.lf_model.specs.Ledger.Steps.{in_steps, past_steps}
use Rattle.lf_model.specs.declared.bus.Transfer.{Transfer}

-- these transfers are in so many steps, and those after them
pub record Parted (steps : ℕ) (own within past : List Transfer) : Type 0 where
  pub whole : own ≡ within ++ past
  pub within_is : in_steps steps own ≡ within
  pub past_is : past_steps steps own ≡ past

module _ (steps : ℕ) (within past : List Transfer) (below : Each (λ (t : Transfer). t.step < steps) within) (above : Each (λ (t : Transfer). steps ≤ t.step) past) where
  first_part : in_steps steps (within ++ past) ≡ within
  first_part =
      filter-append (λ (t : Transfer). nat_lt t.step steps) within past
      ∙ (ap (λ us. us ++ filter (λ (t : Transfer). nat_lt t.step steps) past)
      (filter_all (λ (t : Transfer). nat_lt t.step steps) within
      (each_weaker (λ (t : Transfer). t.step < steps) (λ (t : Transfer). nat_lt t.step steps ≡ true) within (λ t less. lt-ltb t.step steps less) below))
      ∙ (ap (λ us. within ++ us)
      (filter_none (λ (t : Transfer). nat_lt t.step steps) past
      (each_weaker (λ (t : Transfer). steps ≤ t.step) (λ (t : Transfer). nat_lt t.step steps ≡ false) past (λ t le. le-ltb t.step steps le) above))
      ∙ append-nil within))

  second_part : past_steps steps (within ++ past) ≡ past
  second_part =
      filter-append (λ (t : Transfer). nat_le steps t.step) within past
      ∙ (ap (λ us. us ++ filter (λ (t : Transfer). nat_le steps t.step) past)
      (filter_none (λ (t : Transfer). nat_le steps t.step) within
      (each_weaker (λ (t : Transfer). t.step < steps) (λ (t : Transfer). nat_le steps t.step ≡ false) within (λ t less. lt-leb steps t.step less) below))
      ∙ filter_all (λ (t : Transfer). nat_le steps t.step) past
      (each_weaker (λ (t : Transfer). steps ≤ t.step) (λ (t : Transfer). nat_le steps t.step ≡ true) past (λ t le. le-leb steps t.step le) above))

  pub parted : (own : List Transfer) → own ≡ within ++ past → Parted steps own within past
  parted own whole = record {
    whole = whole;
    within_is = ap (in_steps steps) whole ∙ first_part;
    past_is = ap (past_steps steps) whole ∙ second_part;
  }

-- what was said of a core's steps is said of the same numbers and lists
pub steps_as : (limit limit' steps steps' n n' waiting waiting' : ℕ) (within within' past past' : List Transfer) → HasStepsSoFar limit steps n waiting within past
    → limit' ≡ limit → steps' ≡ steps → n' ≡ n → waiting' ≡ waiting → within' ≡ within → past' ≡ past → HasStepsSoFar limit' steps' n' waiting' within' past'
steps_as limit limit' steps steps' n n' waiting waiting' within within' past past' h a b c d e f = rw (a, b, c, d, e, f) h

-- transfers after so many steps are of no earlier one
pub past_above : (steps : ℕ) (own : List Transfer) → Each (λ (t : Transfer). steps ≤ t.step) (past_steps steps own)
past_above steps own = each_weaker (λ (t : Transfer). nat_le steps t.step ≡ true) (λ (t : Transfer). steps ≤ t.step) (past_steps steps own)
    (λ t is. leb-true steps t.step is) (each_passes (λ (t : Transfer). nat_le steps t.step) own)
