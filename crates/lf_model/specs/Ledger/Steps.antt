-- The steps of a core and its transfers: each step makes one at most, stores that still wait drain after the last step, and as
-- many steps retire an instruction as were counted.
use Rattle.std.specs.Prelude.{ℕ, ◌≡◌, ◌+◌, ◌-◌, ◌==◌, ◌&&◌, ◌||◌, nat_lt, nat_le, not, Bool, true, false, List, [], ◌∷◌, ◌++◌, length, filter, count_by}
use Rattle.std.specs.Int.{from_bool}
use Rattle.std.specs.List.{list_all, list_any}
use Rattle.lf_model.specs.Course.Core.{is_register_stop, is_stop_at}
use Rattle.lf_model.specs.Names.{same_kind, same_why}
use Rattle.lf_model.specs.declared.bus.Transfer.{Transfer}
use Rattle.lf_model.specs.declared.bus.TurnKind.TheVariants as kinds
use Rattle.lf_model.specs.declared.bus.Why.TheVariants as whys
use Rattle.lf_model.specs.declared.setup.Setup.{Setup}
use Rattle.lf_model.specs.declared.trace.CoreEnd.{CoreEnd}
use Rattle.lf_model.specs.declared.trace.CoreEnd.TheVariants.{Halt, Stop, Limit}
use Rattle.lf_model.specs.declared.trace.CoreResult.{CoreResult}

-- the transfers of a core
abbrev pub own_transfers : ℕ → List Transfer → List Transfer
own_transfers core transfers = filter (λ t. t.master == core) transfers

-- those that it made in its steps, and those after its last step
abbrev pub in_steps : ℕ → List Transfer → List Transfer
in_steps steps own = filter (λ t. nat_lt t.step steps) own

abbrev pub past_steps : ℕ → List Transfer → List Transfer
past_steps steps own = filter (λ t. nat_le steps t.step) own

-- each transfer is of a later step than the one before, the first of this step or a later one
abbrev pub ascends_from : ℕ → List Transfer → Bool
ascends_from step [] = true
ascends_from step (t ∷ ts) = nat_le step t.step && ascends_from (t.step + 1) ts

-- after the last step that the configuration allows, a store drains
abbrev pub is_last_drain : ℕ → Transfer → Bool
is_last_drain limit t = t.step == limit && same_kind t.kind kinds.Store && same_why t.why whys.End

-- a transfer is that of the last step
abbrev pub is_of_last_step : ℕ → Transfer → Bool
is_of_last_step steps t = t.step + 1 == steps

-- a transfer retires an instruction: an atomic does, unless it is the place of the core's stop
abbrev pub retires_instruction : CoreEnd → Transfer → Bool
retires_instruction end t = same_kind t.kind kinds.Atomic && not (is_stop_at t.turn end)

-- the last step retires nothing, as a bad register cell stopped the core in it
abbrev pub stops_in_last : CoreEnd → ℕ → List Transfer → Bool
stops_in_last end steps within = is_register_stop end && not (list_any (is_of_last_step steps) within)

-- how many steps retire an instruction: those without a transfer, that stop aside, and those whose transfer does
abbrev pub retiring_steps : CoreEnd → ℕ → List Transfer → ℕ
retiring_steps end steps within =
    steps - length within - from_bool (stops_in_last end steps within) + count_by (retires_instruction end) within

abbrev pub is_halt : CoreEnd → Bool
is_halt (Halt tt_) = true
is_halt (Stop tt_ place syn) = false
is_halt Limit = false

-- the last step retires an instruction, by these transfers
abbrev pub last_retires : CoreEnd → ℕ → List Transfer → Bool
last_retires end steps within = list_all (λ t. not (is_of_last_step steps t) || retires_instruction end t) within

-- the steps of a core with this result, whose transfers are these
pub record HasSteps (setup : Setup) (r : CoreResult) (own : List Transfer) : Type 0 where
  pub order : own ≡ in_steps r.steps own ++ past_steps r.steps own
  pub ascending : ascends_from 0 (in_steps r.steps own) ≡ true
  pub drains : list_all (is_last_drain setup.config.steps) (past_steps r.steps own) ≡ true
  pub few : nat_le (length (past_steps r.steps own)) 8 ≡ true
  pub all_made : (length (past_steps r.steps own) == 0 || r.steps == setup.config.steps) ≡ true
  pub retired : retiring_steps r.end r.steps (in_steps r.steps own) ≡ r.n
  pub halting : (not (is_halt r.end) || last_retires r.end r.steps (in_steps r.steps own)) ≡ true
