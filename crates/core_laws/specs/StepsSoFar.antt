-- The steps of a running core and its transfers: what its record will say of them (lf_model, `Ledger/Steps`).
use Rattle.std.specs.Prelude.{ℕ, ◌≡◌, ◌≤◌, ◌<◌, ◌+◌, ◌==◌, ◌||◌, true, List, length, count_by}
use Rattle.std.specs.List.{AllByRecursion}
use Rattle.lf_model.specs.Ledger.Steps.{ascends_from, is_last_drain, retires_instruction}
use Rattle.lf_model.specs.declared.bus.Transfer.{Transfer}
use Rattle.lf_model.specs.declared.trace.CoreEnd.TheVariants.{Limit}

-- the core made so many of the steps that the configuration allows and retired n instructions, while so many stores wait. within:
-- its transfers in its steps; past: those after its last step, each the drain of a store
pub record HasStepsSoFar (limit steps n waiting : ℕ) (within past : List Transfer) : Type 0 where
  pub allowed : steps ≤ limit
  pub in_steps : AllByRecursion (λ (t : Transfer). t.step < steps) within
  pub ascending : ascends_from 0 within ≡ true
  pub drains : AllByRecursion (λ t. is_last_drain limit t ≡ true) past
  pub all_made : (length past == 0 || steps == limit) ≡ true
  pub few : length past + waiting ≤ 8
  pub retired : n + length within ≡ steps + count_by (retires_instruction Limit) within
