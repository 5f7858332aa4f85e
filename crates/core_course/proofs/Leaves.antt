-- What an ended core leaves is right beside the log and all transfers, with those of others that came since its last turn.
use Rattle.std.proofs.Common.{◌≡◌, ◌∙◌, ◌+◌, ◌-◌, ◌<◌, ◌==◌, ◌++◌, ℕ, true, false, List, [], Option, Some, None, length, slice_get, refl, ap, sym, subst, arith, inl, inr}
use Rattle.std.proofs.lemmas.Bool.{cases_lt, and_right}
use Rattle.std.proofs.lemmas.List.{take-append-le}
use Rattle.std.proofs.lemmas.Option.{slice_get_past}
use Rattle.std.specs.List.{AllByRecursion as Each, list_all, flat_map}
use Rattle.core_laws.proofs.Ends.{finished_later}
use Rattle.core_laws.proofs.ListLemmas.{get_first, get_second, each_get}
use Rattle.core_laws.proofs.Runs.{thread, shows}
use Rattle.core_laws.proofs.SeenLog.{has_seen_others}
use Rattle.core_laws.proofs.StepsEnd.{steps_bound}
use Rattle.core_parts.specs.CoreValue.{CoreValue}
use Rattle.core_parts.specs.Phases.{state_of_core}
use Rattle.core_parts.specs.PortState.{arrays_in}
use Rattle.core_parts.specs.declared.phase.CoreState.TheVariants as states
use Rattle.core_course.proofs.Ended.{ground_ended, EndsOn}
use Rattle.core_course.proofs.Finishes.{ended_core, few_retired, shows_registers, loses, halt_is}
use Rattle.core_course.proofs.LeavesAccount.{arrays, account}
use Rattle.core_course.proofs.TurnParts.{own_before}
use Rattle.core_course.proofs.TurnReach.{after_others}
use Rattle.core_course.specs.Result.{result_of}
use Rattle.lf_model.specs.Course.Core.{Ground, is_stop_at}
use Rattle.lf_model.specs.Course.Course.{stored_at, with_unseen}
use Rattle.lf_model.specs.Course.Progress.{Progress}
use Rattle.lf_model.specs.Ledger.CoreAccount.{core_by_course}
use Rattle.lf_model.specs.Ledger.FlipFate.{flip_fates}
use Rattle.lf_model.specs.Ledger.Steps.{own_transfers, HasSteps}
use Rattle.lf_model.specs.Promise.Regular.{is_regular_core, is_regular_op}
use Rattle.lf_model.specs.Records.CoreRecord.{of_core_alone, RecordOk}
use Rattle.lf_model.specs.Records.CoreRules.{EndedCore, ShowsState, course_of_ended}
use Rattle.lf_model.specs.Records.OwnTurns.{place_of_end, named_at, words_named_by, words_named}
use Rattle.lf_model.specs.Records.SeenOrder.{is_entry_of}
use Rattle.lf_model.specs.Run.{Run}
use Rattle.lf_model.specs.State.{psr_of}
use Rattle.lf_model.specs.Start.{initial_byte}
use Rattle.lf_model.specs.declared.bus.Entry.{Entry}
use Rattle.lf_model.specs.declared.bus.Transfer.{Transfer}
use Rattle.lf_model.specs.declared.trace.CoreEnd.{CoreEnd}
use Rattle.lf_model.specs.declared.trace.Fate.{Fate}

-- ---- the word that its stop names, with transfers of others that come later

module _ (g : Ground) (ts us : List Transfer) (others : Each (λ (u : Transfer). (g.core == u.master) ≡ false) us) where
  named_first : (turn : ℕ) (found : Option Transfer) → turn < length ts → named_at g (ts ++ us) turn found ≡ named_at g ts turn found
  named_first turn None less = refl
  named_first turn (Some t) less = rw (take-append-le turn ts us (omega (arith, less))) refl

  named_none : (turn : ℕ) (found : Option Transfer) → ((t : Transfer) → found ≡ Some t → (g.core == t.master) ≡ false) → named_at g (ts ++ us) turn found ≡ []
  named_none turn None other = refl
  named_none turn (Some t) other = rw (other t refl, and_right (is_stop_at turn g.end) false refl) refl

  named_turn : (turn : ℕ) → named_at g (ts ++ us) turn (slice_get (ts ++ us) turn) ≡ named_at g ts turn (slice_get ts turn)
  named_turn turn = elim (cases_lt turn (length ts)) [
    | inl less ↦ ap (named_at g (ts ++ us) turn) (get_first ts us turn less) ∙ named_first turn (slice_get ts turn) less
    | inr past ↦
        let split : length ts + (turn - length ts) ≡ turn = omega arith in
        named_none turn (slice_get (ts ++ us) turn)
        (λ t there. each_get (λ (u : Transfer). (g.core == u.master) ≡ false) us (turn - length ts) t others
        (sym (get_second ts us (turn - length ts)) ∙ (ap (slice_get (ts ++ us)) split ∙ there)))
        ∙ ap (named_at g ts turn) (sym (slice_get_past ts turn past))
  ]

  named_by_place : (place : Option ℕ) → words_named_by g (ts ++ us) place ≡ words_named_by g ts place
  named_by_place None = refl
  named_by_place (Some turn) = named_turn turn

  pub named_later : words_named g (ts ++ us) ≡ words_named g ts
  named_later = named_by_place (place_of_end g.end)

-- ---- the whole record

module _ (v : CoreValue) (end : CoreEnd) (log : List Entry) (ts : List Transfer) (k : Progress) (h : EndsOn v end log ts k) (shown : state_of_core v ≡ states.Ended end)
    (more : List Entry) (us : List Transfer) (entries : Each (λ e. is_entry_of v.arch.core e ≡ false) more) (others : Each (λ (u : Transfer). (v.arch.core == u.master) ≡ false) us) where
  abbrev core : EndedCore
  core = ended_core v end (ts ++ us)

  abbrev ground : Ground
  ground = ground_ended v end

  course_is : course_of_ended v.setup core ≡ with_unseen (flat_map stored_at us) k
  course_is = finished_later ground ts us others ∙ ap (with_unseen (flat_map stored_at us)) h.reaches.at

  own : own_transfers v.arch.core (ts ++ us) ≡ own_transfers v.arch.core ts
  own = own_before v.arch.core ts us others

  steps : HasSteps v.setup (result_of v end) (own_transfers v.arch.core (ts ++ us))
  steps = subst (HasSteps v.setup (result_of v end)) (sym own) h.has_steps

  -- its state
  shows_state : ShowsState v.setup core k.run.state
  shows_state =
      let run = h.is_seat.run in
      record {
        out = sym (ap (λ (r : Run). r.state.out) run);
        psr = sym (ap (λ (r : Run). psr_of r.state.ctl) run);
        wim = sym (ap (λ (r : Run). r.state.wim) run);
        tbr = sym (ap (λ (r : Run). r.state.ctl.tbr) run);
        y = sym (ap (λ (r : Run). r.state.y) run);
        pc = sym (ap (λ (r : Run). r.state.ctl.pc) run);
        npc = sym (ap (λ (r : Run). r.state.ctl.npc) run);
        registers = shows_registers v k.run.state (ap (λ (r : Run). r.state.cells) run) (ap (λ (r : Run). r.state.ctl.cwp) run);
        halt = ap (λ (r : Run). r.state.halt) run ∙ halt_is v end shown;
        ends = h.is_end;
        within = h.within;
        bound = steps_bound v.setup (result_of v end) v.arch.core (ts ++ us) steps;
        lost = loses end v.ops h.none_lost;
      }

  -- named and fates of a record that it leaves
  pub leaves : (fates : List Fate) → is_regular_core (result_of v end) ≡ true → list_all is_regular_op v.ops ≡ true
      → fates ≡ flip_fates v.setup.flips [] (of_core_alone v.arch.core (arrays_in v.ports))
      → RecordOk v.setup v.arch.core (record { result = result_of v end; ops = v.ops; seen = v.seen_by; named = v.named; fates = fates }) (log ++ more) (ts ++ us)
  leaves fates core_fits ops_fit fates_are = record {
    result = shows v.setup core k h.reaches.has_run h.is_seat.retired shows_state;
    thread = thread v.setup core k h.reaches.has_run h.is_seat.retired (omega (arith, few_retired v end (own_transfers v.arch.core ts) h.has_steps, h.within)) (ap (λ (r : Run). r.ops) h.is_seat.run);
    steps = steps;
    seen = has_seen_others (initial_byte v.setup.image) v.arch.core v.ops v.seen_by log more h.has_seen entries;
    account = ap (core_by_course ground) course_is ∙ account v end log ts k h shown (ts ++ us) own;
    completed = ap (λ (j : Progress). j.completions) course_is ∙ h.is_seat.completions;
    turns = (after_others ground ts us v.steps k others h.reaches).right_turns;
    core_fits = core_fits;
    ops_fit = ops_fit;
    named = h.named ∙ sym (named_later ground ts us others);
    fates = fates_are ∙ ap (λ a. flip_fates v.setup.flips [] (of_core_alone v.arch.core a)) (arrays v end log ts k h shown ∙ sym (ap (λ (j : Progress). j.arrays) course_is));
  }
