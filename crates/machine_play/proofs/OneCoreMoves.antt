-- What the calls of a core leave is what its events make: a step without a turn, a step with one, and a drain after the last step.
use Rattle.std.proofs.Common.{◌≡◌, ◌∙◌, ◌+◌, ◌<◌, ◌++◌, ℕ, Bool, true, false, nat_lt, List, [], ◌∷◌, length, find, take, Option, Some, None, refl, ap, sym, subst, arith, if◌then◌else◌}
use Rattle.std.proofs.lemmas.Bool.{ltb-true}
use Rattle.std.proofs.lemmas.List.{append-nil}
use Rattle.std.specs.List.{AllByRecursion as Each}
use Rattle.ahb_bus.specs.BusOk.{BusOk}
use Rattle.ahb_bus.specs.BusState.{BusState}
use Rattle.core_course.specs.Calls.{Joins, MayStep, MayTurn, MayTurnBy, Answers}
use Rattle.core_course.specs.CoreOk.{CoreOk}
use Rattle.core_course.specs.Settled.{phase_after}
use Rattle.core_parts.specs.CoreValue.{CoreValue}
use Rattle.core_parts.specs.Completes.{Keeps}
use Rattle.core_parts.specs.Moves.{tried_at}
use Rattle.core_parts.specs.Needs.{why_of}
use Rattle.core_parts.specs.Phases.{is_drained, state_by, state_of_core, ground_so_far}
use Rattle.core_parts.specs.Seat.{seat}
use Rattle.core_parts.specs.declared.phase.CoreState.TheVariants as states
use Rattle.core_parts.specs.declared.phase.Phase.{Phase}
use Rattle.core_parts.specs.declared.phase.Phase.TheVariants.{Between, Begun, Needs, Ended}
use Rattle.core_turns.specs.AskedTurn.{wants, made_good, comes_to}
use Rattle.leon_core.specs.CoreInside.{in_step}
use Rattle.leon_core.specs.EndsTurn.{turn_begun, did_of_turn}
use Rattle.leon_core.specs.LocalStep.{ends_after}
use Rattle.leon_core.specs.Moves.{StoresIn, store_steps, Moves}
use Rattle.lf_model.specs.Course.Syndromes.{met_bad, enters_log}
use Rattle.lf_model.specs.Names.{same_why}
use Rattle.lf_model.specs.declared.bus.Entry.{Entry}
use Rattle.lf_model.specs.declared.bus.Transfer.{Transfer}
use Rattle.lf_model.specs.declared.bus.Why.{Why}
use Rattle.lf_model.specs.declared.bus.Why.TheVariants.{Sched}
use Rattle.lf_model.specs.declared.setup.Setup.{Setup}
use Rattle.lf_model.specs.declared.step.Did.{Did}
use Rattle.lf_model.specs.declared.step.Did.TheVariants.{Retired, Turned, Need, Halt, Stop}
use Rattle.lf_model.specs.declared.step.Turn.{Turn}
use Rattle.lf_model.specs.declared.step.Turn.TheVariants.{Fetch, Load, Atomic, Drain, Snoop}
use Rattle.lf_model.specs.declared.trace.CoreEnd.TheVariants.{Limit}
use Rattle.machine_play.specs.Machine.{IsAtRest}
use Rattle.machine_play.specs.MachineMade.{is_running}
use Rattle.machine_play.specs.OneCore.{StepsWithoutTurn, MakesTurn, StepsWithTurn, DrainsAtEnd}
use Rattle.machine_play.proofs.Joining.{joins_kept}
use Rattle.machine_play.proofs.NeedsUnscheduled.{asked_unscheduled}
use Rattle.turn_course.specs.BusStep.{transfer_at, answer_of, IsEntered, AddsTransfer}

-- ---- its state

by_state : (less drained : Bool) → (if less then states.Running else if drained then states.Ended Limit else states.Draining) ≡ states.Running → less ≡ true
by_state true drained h = refl
by_state false true h = absurd (cc)
by_state false false h = absurd (cc)

past_state : (less drained : Bool) → (if less then states.Running else if drained then states.Ended Limit else states.Draining) ≡ states.Draining → less ≡ false
past_state true drained h = absurd (cc)
past_state false drained h = refl

-- a core that runs may make a step
pub may_step : (v : CoreValue) → IsAtRest v.phase → state_of_core v ≡ states.Running → MayStep v
may_step v rests runs = by v.phase refl rests runs
  where
    by : (phase : Phase) → v.phase ≡ phase → IsAtRest phase → state_by v phase ≡ states.Running → MayStep v
    by Between is rests runs = record { between = is; left = ltb-true v.steps v.setup.config.steps (by_state (nat_lt v.steps v.setup.config.steps) (is_drained v) runs) }
    by Begun is rests runs = absurd rests
    by (Needs turn) is rests runs = absurd rests
    by (Ended end) is rests runs = absurd (cc)

-- one that drains has made all its steps, and no step of it is begun
pub record HasMadeAll (v : CoreValue) : Type 0 where
  pub between : v.phase ≡ Between
  pub past : nat_lt v.steps v.setup.config.steps ≡ false

pub all_made : (v : CoreValue) → IsAtRest v.phase → state_of_core v ≡ states.Draining → HasMadeAll v
all_made v rests drains = by v.phase refl rests drains
  where
    by : (phase : Phase) → v.phase ≡ phase → IsAtRest phase → state_by v phase ≡ states.Draining → HasMadeAll v
    by Between is rests drains = record { between = is; past = past_state (nat_lt v.steps v.setup.config.steps) (is_drained v) drains }
    by Begun is rests drains = absurd rests
    by (Needs turn) is rests drains = absurd rests
    by (Ended end) is rests drains = absurd (cc)

-- after its last step it runs no more
not_running : (v : CoreValue) → IsAtRest v.phase → nat_lt v.steps v.setup.config.steps ≡ false → is_running (state_of_core v) ≡ false
not_running v rests past = by v.phase rests
  where
    after_last : (less drained : Bool) → less ≡ false → is_running (if less then states.Running else if drained then states.Ended Limit else states.Draining) ≡ false
    after_last true drained h = absurd (cc)
    after_last false true h = refl
    after_last false false h = refl

    by : (phase : Phase) → IsAtRest phase → is_running (state_by v phase) ≡ false
    by Between rests = after_last (nat_lt v.steps v.setup.config.steps) (is_drained v) past
    by Begun rests = absurd rests
    by (Needs turn) rests = absurd rests
    by (Ended end) rests = refl

-- ---- a step without a turn

abbrev NeedsNone : Did → Type 0
NeedsNone did = (turn : Turn) → did ≡ Need turn → ⊥

rests_after : (did : Did) → NeedsNone did → IsAtRest (phase_after did)
rests_after Retired none = tt
rests_after Turned none = tt
rests_after (Need turn) none = absurd (none turn refl)
rests_after (Halt tt_) none = tt
rests_after (Stop tt_ place syn) none = tt

ends_once : (did : Did) → NeedsNone did → ends_after did ≡ 1
ends_once Retired none = refl
ends_once Turned none = refl
ends_once (Need turn) none = absurd (none turn refl)
ends_once (Halt tt_) none = refl
ends_once (Stop tt_ place syn) none = refl

pub steps_alone : (old : CoreValue) (did : Did) (new : CoreValue) (bus : BusState) → Moves (ends_after did) (phase_after did) old new → state_of_core old ≡ states.Running → NeedsNone did
    → ((log : List Entry) (ts : List Transfer) → CoreOk old log ts → CoreOk new log ts) → StepsWithoutTurn old new bus bus
steps_alone old did new bus moves runs none ok = record {
  runs = runs;
  keeps = moves.keeps;
  rests = subst IsAtRest (sym moves.phase_is) (rests_after did none);
  steps = moves.steps_are ∙ ap (λ (n : ℕ). old.steps + n) (ends_once did none);
  stores = moves.stores;
  ok = ok;
  bus = refl;
}

-- ---- up to a turn

-- a core that comes to a turn: before its step began, and now
pub record ComesToTurn (old mid : CoreValue) : Type 0 where
  pub keeps : Keeps old mid
  pub steps : mid.steps ≡ old.steps
  pub stores : StoresIn old.steps (store_steps old.ops) (store_steps mid.ops)

-- it joins the bus as before
pub joins_then : (old mid : CoreValue) (log : List Entry) (ts : List Transfer) → Joins old log ts → Keeps old mid
    → ((es : List Entry) (us : List Transfer) → CoreOk old es us → CoreOk mid es us) → Joins mid log ts
joins_then old mid log ts joins keeps ok = joins_kept old log ts joins mid keeps ok

-- none of its stores retired since
pub comes_at_once : (old mid : CoreValue) → Keeps old mid → mid.steps ≡ old.steps → store_steps mid.ops ≡ store_steps old.ops → ComesToTurn old mid
comes_at_once old mid keeps steps stores = record {
  keeps = keeps;
  steps = steps;
  stores = record { now = []; stores = stores ∙ sym (append-nil (store_steps old.ops)); in_step = tt };
}

-- the step needs this turn
module _ (old : CoreValue) (did : Did) (turn : Turn) (needs : did ≡ Need turn) where
  -- no schedule asks for it
  pub need_unscheduled : (log : List Entry) (ts : List Transfer) → Joins old log ts → ((es : List Entry) (us : List Transfer) → CoreOk old es us → Answers old us did) → same_why (why_of turn) Sched ≡ false
  need_unscheduled log ts joins answers =
      let g = ground_so_far old in
      let k = seat g (take old.turns_seen ts) old.steps in
      asked_unscheduled g k (tried_at g k).arrays.cells turn (sym (answers (take old.log_seen log) (take old.turns_seen ts) joins.ok) ∙ needs)

  module _ (mid : CoreValue) (moves : Moves (ends_after did) (phase_after did) old mid) where
    pub need_comes : ComesToTurn old mid
    need_comes = record { keeps = moves.keeps; steps = moves.steps_are ∙ none did needs; stores = moves.stores }
      where
        none : (d : Did) → d ≡ Need turn → old.steps + ends_after d ≡ old.steps
        none d is = subst (λ (e : Did). old.steps + ends_after e ≡ old.steps) (sym is) (omega arith)

    pub need_phase : mid.phase ≡ Needs turn
    need_phase = moves.phase_is ∙ ap phase_after needs

    pub need_may : MayTurn mid turn
    need_may = subst (MayTurnBy mid turn) (sym need_phase) refl

-- a step is left before its turn
pub still_left : (old mid : CoreValue) → ComesToTurn old mid → MayStep old → mid.steps < mid.setup.config.steps
still_left old mid comes may = omega (arith, comes.steps, ap (λ (s : Setup). s.config.steps) comes.keeps.setup, may.left)

-- ---- a turn

rests_good : (turn : Turn) → IsAtRest (phase_after (made_good turn))
rests_good (Fetch line why) = tt
rests_good (Load addr len why) = tt
rests_good (Atomic addr len new rd) = tt
rests_good (Drain why) = tt
rests_good Snoop = tt

rests_by : (turn : Turn) (number : ℕ) (t : Transfer) (found : Option ℕ) → IsAtRest (phase_after (did_of_turn turn number (comes_to turn t found)))
rests_by turn number t None = rests_good turn
rests_by turn number t (Some j) = tt

module _ (old mid : CoreValue) (comes : ComesToTurn old mid) (turn : Turn) (new : CoreValue) (before after : BusState) (did : Did)
    (answer : did ≡ did_of_turn turn (length before.transfers) (answer_of (turn_begun before) turn mid)) (moves : Moves (in_step mid.phase) (phase_after did) mid new)
    (stores : store_steps new.ops ≡ store_steps mid.ops) (adds : AddsTransfer turn mid before after (transfer_at (turn_begun before) turn mid))
    (ok : CoreOk new after.log after.transfers) (bus_ok : BusOk after) where
  turn_rests : IsAtRest new.phase
  turn_rests = subst IsAtRest (sym (moves.phase_is ∙ ap phase_after answer))
      (rests_by turn (length before.transfers) (transfer_at (turn_begun before) turn mid) (find (met_bad (transfer_at (turn_begun before) turn mid)) (wants mid.arch.ctl.pc turn)))

  makes_turn : (scheduled : Bool) → same_why (why_of turn) Sched ≡ scheduled → MakesTurn scheduled old new before after
  makes_turn scheduled cause = by (enters_log (transfer_at (turn_begun before) turn mid)) adds.entry
    where
      with_entries : (entries : List Entry) → after.log ≡ before.log ++ entries → Each (λ (e : Entry). e.core ≡ old.arch.core) entries → MakesTurn scheduled old new before after
      with_entries entries log_is own = record {
        transfer = transfer_at (turn_begun before) turn mid;
        entries = entries;
        turn = record {
          setup_is = adds.setup;
          log_is = log_is;
          transfers_is = adds.made;
          master_is = adds.own ∙ comes.keeps.core;
          own = own;
          idle = adds.idle;
          ok = bus_ok;
        };
        in_step = adds.step ∙ comes.steps;
        cause = ap (λ (why : Why). same_why why Sched) adds.why ∙ cause;
        keeps = record { setup = moves.keeps.setup ∙ comes.keeps.setup; core = moves.keeps.core ∙ comes.keeps.core };
        rests = turn_rests;
        ok = ok;
      }

      by : (enters : Bool) → IsEntered mid before.log after.log enters → MakesTurn scheduled old new before after
      by true is = with_entries (is.0 ∷ []) is.1.1 (is.1.0 ∙ comes.keeps.core, tt)
      by false is = with_entries [] (is ∙ sym (append-nil before.log)) tt

  -- it ends the step that is begun
  pub with_turn : (scheduled : Bool) → same_why (why_of turn) Sched ≡ scheduled → state_of_core old ≡ states.Running → in_step mid.phase ≡ 1 → StepsWithTurn scheduled old new before after
  with_turn scheduled cause runs begun = record {
    runs = runs;
    makes = makes_turn scheduled cause;
    steps = omega (arith, moves.steps_are, comes.steps, begun);
    stores = subst (StoresIn old.steps (store_steps old.ops)) (sym stores) comes.stores;
  }

  -- or it is a drain after the last step
  pub at_end : same_why (why_of turn) Sched ≡ false → mid ≡ old → state_of_core old ≡ states.Draining → HasMadeAll old → DrainsAtEnd old new before after
  at_end cause same drains all = record {
    drains = drains;
    makes = makes_turn false cause;
    still = not_running new turn_rests (subst (λ (s : Setup). nat_lt new.steps s.config.steps ≡ false) (sym (moves.keeps.setup ∙ comes.keeps.setup)) (subst (λ (n : ℕ). nat_lt n old.setup.config.steps ≡ false) (sym steps) all.past));
    steps = steps;
    stores = stores ∙ ap (λ (v : CoreValue). store_steps v.ops) same;
  }
    where
      steps : new.steps ≡ old.steps
      steps = let none : in_step mid.phase ≡ 0 = ap in_step (ap (λ (v : CoreValue). v.phase) same ∙ all.between) in omega (arith, moves.steps_are, comes.steps, none)
