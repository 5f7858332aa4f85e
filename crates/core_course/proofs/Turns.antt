-- A turn on the bus after which a core goes on keeps all that holds of the core.
use Rattle.std.proofs.Common.{◌≡◌, ◌∙◌, ◌+◌, ◌<◌, ◌≤◌, ◌++◌, ℕ, Bool, true, false, List, [], ◌∷◌, None, length, nat_le, refl, ap, sym, subst, arith, if◌then◌else◌}
use Rattle.std.proofs.lemmas.Bool.{lt-leb, le-leb}
use Rattle.std.specs.Int.{from_bool}
use Rattle.core_laws.proofs.NextStep.{no_stop_at_limit}
use Rattle.core_laws.proofs.Steps.{steps_turn, steps_drain}
use Rattle.core_laws.specs.RunSoFar.{HasRun}
use Rattle.core_laws.specs.Running.{with_later}
use Rattle.core_laws.specs.StepsSoFar.{HasStepsSoFar}
use Rattle.core_parts.specs.CoreValue.{CoreValue}
use Rattle.core_parts.specs.Moves.{Turns, Exchanges}
use Rattle.core_parts.specs.Seat.{IsSeat}
use Rattle.core_parts.specs.declared.phase.Phase.TheVariants.{Between}
use Rattle.core_course.proofs.Completing.{Sees, goes_on}
use Rattle.core_course.proofs.LaterSeat.{Reaches}
use Rattle.core_course.proofs.LocalGround.{place_of}
use Rattle.core_course.proofs.Running.{ground_running, RunsOn, holds_on, unended_between, none_begun}
use Rattle.core_course.proofs.StepParts.{Parted, steps_as, past_above}
use Rattle.core_course.proofs.TurnGround.{turn_place, none_met, some_wait, TakesTurn, running_new, limit_new, come, going}
use Rattle.core_course.proofs.TurnParts.{own_then, in_a_step, past_all}
use Rattle.core_course.proofs.TurnReach.{after_turn}
use Rattle.core_course.proofs.TurnSeat.{TurnsWell, turned, exchanged}
use Rattle.core_parts.specs.Completes.{Keeps}
use Rattle.core_course.specs.CoreOk.{within_steps, past_its_steps, CoreOk}
use Rattle.core_course.specs.Lines.{LinesAre}
use Rattle.lf_model.specs.Course.Core.{Given, Ground, given_by}
use Rattle.lf_model.specs.Course.Course.{stored_at}
use Rattle.lf_model.specs.Course.Progress.{Progress}
use Rattle.lf_model.specs.Course.Turned.{own_turn, bad_wanted, retires_by}
use Rattle.lf_model.specs.Ledger.Steps.{own_transfers, is_last_drain}
use Rattle.lf_model.specs.Names.{same_kind}
use Rattle.lf_model.specs.Records.OwnTurns.{next_effect, IsRightTurn}
use Rattle.lf_model.specs.declared.bus.Entry.{Entry}
use Rattle.lf_model.specs.declared.bus.Transfer.{Transfer}
use Rattle.lf_model.specs.declared.bus.TurnKind.TheVariants.{Store, Atomic}
use Rattle.lf_model.specs.declared.trace.CoreEnd.TheVariants.{Limit}
use Rattle.std.specs.List.{flat_map}

-- log and buffer: the log after the turn, and the stores that wait then
module _ (old new : CoreValue) (seen : List Entry) (ts us : List Transfer) (t : Transfer) (later : Given) (h : RunsOn old seen ts) (x : TakesTurn old ts us t)
    (keeps : Keeps old new) (given : given_by new.ops ≡ with_later (given_by old.ops) later) (log buffer : List Entry) where
  abbrev pub after : List Transfer
  after = (ts ++ us) ++ t ∷ []

  abbrev pub place : Progress
  place = turn_place old ts us

  abbrev pub ground : Ground
  ground = ground_running new

  -- what is shown of the core after the turn
  pub record Shown : Type 0 where
    pub right : IsRightTurn ground t place
    pub phase : new.phase ≡ Between
    pub sees : Sees old new log buffer
    pub log_length : length log ≡ new.log_seen
    pub turns : length after ≡ new.turns_seen
    pub few : length new.ports.waiting ≤ 8
    pub lines : LinesAre new log buffer
    pub named : new.named ≡ old.named

  module _ (s : Shown) where
    reached : IsSeat new ground (own_turn ground t place) → Reaches ground after new.steps (own_turn ground t place)
    reached seated =
        let before : Reaches ground (ts ++ us) old.steps place = subst (λ g. Reaches g (ts ++ us) old.steps place) (sym (running_new old new seen ts us t later h x keeps given))
        (come old new seen ts us t later h x keeps given Limit old.setup.config.steps (omega arith) h.goes_on.has_steps.allowed refl (no_stop_at_limit old.arch.core ts)) in
        subst (λ n. Reaches ground after n (own_turn ground t place)) seated.steps
        (after_turn ground (ts ++ us) old.steps place t before (rw keeps.core x.own) x.step (going old new seen ts us t later h x keeps given) s.right)

    -- its steps and transfers are these
    holds : IsSeat new ground (own_turn ground t place) → (within past : List Transfer) → Parted new.steps (own_transfers new.arch.core after) within past
        → HasStepsSoFar new.setup.config.steps new.steps new.arch.n (length new.ports.waiting) within past → CoreOk new log after
    holds seated within past parts steps =
        let there = reached seated in
        holds_on new log after (unended_between new.phase s.phase) (none_begun new new.phase s.phase) (record {
          log_length = s.log_length;
          turns = s.turns;
          in_memory = rw keeps.setup x.in_memory;
          is_seat = subst (IsSeat new ground) (sym there.at) seated;
          has_run = subst (HasRun ground) (sym there.at) there.has_run;
          right_turns = there.right_turns;
          goes_on = goes_on new log after buffer (rw (keeps.setup, keeps.core) s.sees.has_seen) s.sees.waits within past parts steps s.lines (s.named ∙ h.goes_on.unnamed);
        })

    own_is : own_transfers new.arch.core after ≡ (within_steps old ts ++ past_its_steps old ts) ++ t ∷ []
    own_is = ap (λ c. own_transfers c after) keeps.core ∙ (own_then old.arch.core ts us x.others t x.own ∙ ap (λ vs. vs ++ t ∷ []) h.goes_on.in_order)

    -- ---- in a step

    pub in_step : IsSeat new ground (own_turn ground t place) → old.steps < old.setup.config.steps → new.steps ≡ old.steps + 1
        → new.arch.n ≡ old.arch.n + from_bool (same_kind t.kind Atomic) → CoreOk new log after
    in_step seated left made counted = holds seated (within_steps old ts ++ t ∷ []) (past_its_steps old ts)
        (in_a_step old.setup.config.steps old.steps old.arch.n (length old.ports.waiting) (within_steps old ts) (past_its_steps old ts) h.goes_on.has_steps t x.step
        (own_transfers new.arch.core after) new.steps (length new.ports.waiting) left made s.few own_is)
        (steps_as _ new.setup.config.steps _ new.steps _ new.arch.n _ (length new.ports.waiting) _ (within_steps old ts ++ t ∷ []) _ (past_its_steps old ts)
        (steps_turn old.setup.config.steps old.steps old.arch.n (length old.ports.waiting) (within_steps old ts) (past_its_steps old ts) h.goes_on.has_steps t (length new.ports.waiting) x.step left s.few)
        (limit_new old new seen ts us t later h x keeps given) made counted refl refl refl)

    -- ---- after the last step

    pub after_steps : IsSeat new ground (own_turn ground t place) → old.steps ≡ old.setup.config.steps → new.steps ≡ old.steps → new.arch.n ≡ old.arch.n
        → is_last_drain old.setup.config.steps t ≡ true → length old.ports.waiting ≡ length new.ports.waiting + 1 → CoreOk new log after
    after_steps seated last made counted drain one =
        let more = steps_drain old.setup.config.steps old.steps old.arch.n (length old.ports.waiting) (within_steps old ts) (past_its_steps old ts) h.goes_on.has_steps t (length new.ports.waiting) last drain one in
        holds seated (within_steps old ts) (past_its_steps old ts ++ t ∷ [])
        (subst (λ n. Parted n (own_transfers new.arch.core after) (within_steps old ts) (past_its_steps old ts ++ t ∷ [])) (sym made)
        (past_all old.setup.config.steps old.steps old.arch.n (length old.ports.waiting) (within_steps old ts) (past_its_steps old ts) h.goes_on.has_steps t x.step
        (own_transfers new.arch.core after) last (past_above old.steps (own_transfers old.arch.core ts)) own_is))
        (steps_as _ new.setup.config.steps _ new.steps _ new.arch.n _ (length new.ports.waiting) _ (within_steps old ts) _ (past_its_steps old ts ++ t ∷ []) more
        (limit_new old new seen ts us t later h x keeps given) made counted refl refl refl)

    -- ---- by kinds

    module _ (good : bad_wanted place.run.state.ctl.pc (next_effect ground place) t ≡ None) where
      well : TurnsWell ground (place_of old ts) (flat_map stored_at us) t old new
      well = record {
        none_met = h.is_seat.errors ∙ none_met old.steps (place_of old ts).turns old.phase x.unended;
        waits = some_wait (length old.ports.waiting) (place_of old ts) old.phase x.unended h.is_seat.waits;
        past = rw (limit_new old new seen ts us t later h x keeps given, h.is_seat.steps) refl;
        none_bad = good;
      }

      retires_none : same_kind t.kind Atomic ≡ false → retires_by ground t ≡ false
      retires_none plain = rw plain refl

      retires_one : same_kind t.kind Atomic ≡ true → retires_by ground t ≡ true
      retires_one atomic = rw atomic refl

      next_step : (past : Bool) (n : ℕ) → past ≡ false → (if past then n else n + 1) ≡ n + 1
      next_step past n e = rw e refl

      same_step : (past : Bool) (n : ℕ) → past ≡ true → (if past then n else n + 1) ≡ n
      same_step past n e = rw e refl

      not_past : old.steps < old.setup.config.steps → nat_le old.setup.config.steps old.steps ≡ false
      not_past left = lt-leb old.setup.config.steps old.steps left

      -- a fill, a drain or a snoop
      pub turn_on : Turns ground place t old new → same_kind t.kind Atomic ≡ false → old.steps < old.setup.config.steps → CoreOk new log after
      turn_on r plain left = in_step (turned ground (place_of old ts) (flat_map stored_at us) t old new (ground_running old) h.is_seat well (retires_none plain) r s.phase)
          left (r.steps ∙ next_step _ old.steps (not_past left))
          (rw plain (omega (arith, r.counted)))

      -- an atomic
      pub exchange_on : Exchanges ground place t old new → same_kind t.kind Atomic ≡ true → old.steps < old.setup.config.steps → CoreOk new log after
      exchange_on r atomic left = in_step (exchanged ground (place_of old ts) (flat_map stored_at us) t old new (ground_running old) h.is_seat well (retires_one atomic) r s.phase)
          left (r.steps ∙ next_step _ old.steps (not_past left))
          (rw atomic (omega (arith, r.counted)))

      -- a drain after the last step
      pub drain_on : Turns ground place t old new → same_kind t.kind Atomic ≡ false → same_kind t.kind Store ≡ true → is_last_drain old.setup.config.steps t ≡ true
          → old.steps ≡ old.setup.config.steps → CoreOk new log after
      drain_on r plain store drain last = after_steps (turned ground (place_of old ts) (flat_map stored_at us) t old new (ground_running old) h.is_seat well (retires_none plain) r s.phase)
          last
          (r.steps ∙ same_step _ old.steps (le-leb old.setup.config.steps old.steps (omega (arith, last))))
          r.counted drain (omega (arith, r.waits, ap from_bool store))
