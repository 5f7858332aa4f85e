-- A core that shows its end has ended: in the phase that says so, or by the limit, once its steps are made and no store waits.
use Rattle.std.proofs.Common.{◌≡◌, ◌∙◌, ◌≤◌, ◌==◌, ◌++◌, Bool, true, false, nat_lt, List, [], length, filter, refl, ap, sym, subst, arith}
use Rattle.std.proofs.lemmas.Bool.{ltb-false, eqb-true}
use Rattle.std.proofs.lemmas.List.{length-map, nil_from_length}
use Rattle.core_laws.proofs.Ends.{names_none}
use Rattle.core_laws.proofs.ListLemmas.{each_every}
use Rattle.core_laws.proofs.LostAccount.{reports_none}
use Rattle.core_laws.proofs.SeenEnd.{seen_end}
use Rattle.core_laws.proofs.StepsEnd.{ends_past_steps}
use Rattle.core_laws.specs.RunSoFar.{HasRun}
use Rattle.core_laws.specs.SeenSoFar.{HasSeenSoFar}
use Rattle.core_parts.specs.CoreValue.{CoreValue}
use Rattle.core_parts.specs.Phases.{ground_by, state_by, state_of_core}
use Rattle.core_parts.specs.Seat.{seat, IsSeat}
use Rattle.core_parts.specs.declared.phase.CoreState.TheVariants as states
use Rattle.core_parts.specs.declared.phase.Phase.{Phase}
use Rattle.core_parts.specs.declared.phase.Phase.TheVariants.{Between, Begun, Needs, Ended}
use Rattle.core_course.proofs.Ended.{ground_ended, EndsOn, ground_is}
use Rattle.core_course.proofs.LaterSeat.{Reaches}
use Rattle.core_course.proofs.Reaches.{so_far}
use Rattle.core_course.proofs.Running.{ground_running, RunsOn, runs_on, unended_between}
use Rattle.core_course.specs.CoreOk.{buffer_of, waiting_of, within_steps, past_its_steps, HasEnded, StandsBy, CoreOk}
use Rattle.core_course.specs.Result.{result_of}
use Rattle.lf_model.specs.Course.Core.{given_by, ground_of, is_store, is_stop_at}
use Rattle.lf_model.specs.Ledger.CoreAccount.{stores_lost, lost_reported}
use Rattle.lf_model.specs.Ledger.Steps.{HasSteps}
use Rattle.lf_model.specs.Records.OwnTurns.{words_named, OwnTurnAt}
use Rattle.lf_model.specs.Start.{initial_byte}
use Rattle.lf_model.specs.declared.bus.Entry.{Entry}
use Rattle.lf_model.specs.declared.bus.Transfer.{Transfer}
use Rattle.lf_model.specs.declared.trace.CoreEnd.{CoreEnd}
use Rattle.lf_model.specs.declared.trace.CoreEnd.TheVariants.{Limit}

module _ (v : CoreValue) (log : List Entry) (ts : List Transfer) (h : CoreOk v log ts) where
  -- ---- its phase says that it has ended

  module _ (end : CoreEnd) (phase : v.phase ≡ Ended end) where
    known : (p : Phase) → p ≡ Ended end → StandsBy v log ts p → HasEnded v end log ts
    known p is s = rw is at s

    same_ground : ground_by v v.phase ≡ ground_ended v end
    same_ground = ground_is v end log ts v.phase phase

    pub ends_in_phase : EndsOn v end log ts (seat (ground_ended v end) ts v.steps)
    ends_in_phase =
        let e = known v.phase phase h.stands in
        let s : IsSeat v (ground_ended v end) (seat (ground_ended v end) ts v.steps) = subst (λ g. IsSeat v g (seat g ts v.steps)) same_ground h.is_seat in
        record {
          log_length = h.log_length;
          turns = h.turns;
          in_memory = h.in_memory;
          reaches = record {
            at = refl;
            steps = s.steps;
            has_run = subst (λ g. HasRun g (seat g ts v.steps)) same_ground h.has_run;
            right_turns = λ turn within. subst (λ g. OwnTurnAt g ts turn) same_ground (h.right_turns turn within);
          };
          is_seat = s;
          is_end = e.is_end;
          within = e.within;
          none_wait = e.none_wait;
          has_steps = e.has_steps;
          has_seen = e.has_seen;
          none_lost = e.none_lost;
          lost = subst (λ g. stores_lost g (seat g ts v.steps) ≡ lost_reported (filter is_store v.ops)) same_ground e.lost;
          named = e.named ∙ ap (λ g. words_named g ts) same_ground;
        }

  -- ---- all its steps are made, and no store waits

  module _ (between : v.phase ≡ Between) (made : v.setup.config.steps ≤ v.steps) (none : length v.ports.waiting ≡ 0) where
    now : RunsOn v log ts
    now = runs_on v log ts (unended_between v.phase between) h

    all_made : v.steps ≡ v.setup.config.steps
    all_made = omega (arith, made, now.goes_on.has_steps.allowed)

    same : ground_ended v Limit ≡ ground_running v
    same = ap (ground_of v.setup v.arch.core (given_by v.ops) Limit) all_made

    empty : buffer_of v ≡ []
    empty = nil_from_length (buffer_of v) (omega (arith, none, ap length now.goes_on.waits, length-map (buffer_of v) waiting_of))

    seen : HasSeenSoFar (initial_byte v.setup.image) v.arch.core v.ops v.seen_by log []
    seen = subst (HasSeenSoFar (initial_byte v.setup.image) v.arch.core v.ops v.seen_by log) empty now.goes_on.has_seen

    steps : HasSteps v.setup (result_of v Limit) (within_steps v ts ++ past_its_steps v ts)
    steps = ends_past_steps v.setup (result_of v Limit) (length v.ports.waiting) (within_steps v ts) (past_its_steps v ts) now.goes_on.has_steps refl
        (each_every (λ (t : Transfer). is_stop_at t.turn Limit ≡ false) (within_steps v ts) (λ t. refl)) refl

    pub ends_by_limit : EndsOn v Limit log ts (seat (ground_ended v Limit) ts v.steps)
    ends_by_limit = record {
      log_length = now.log_length;
      turns = now.turns;
      in_memory = now.in_memory;
      reaches = subst (λ g. Reaches g ts v.steps (seat g ts v.steps)) (sym same) (so_far v log ts now);
      is_seat = subst (λ g. IsSeat v g (seat g ts v.steps)) (sym same) now.is_seat;
      is_end = all_made;
      within = omega (arith, all_made);
      none_wait = nil_from_length v.ports.waiting none;
      has_steps = subst (HasSteps v.setup (result_of v Limit)) (sym now.goes_on.in_order) steps;
      has_seen = seen_end (initial_byte v.setup.image) v.arch.core v.ops v.seen_by log seen;
      none_lost = λ kind. seen.none_lost;
      lost = sym (reports_none v.ops seen.none_lost);
      named = now.goes_on.unnamed ∙ sym (names_none (ground_ended v Limit) ts (λ turn. refl));
    }

  -- ---- the end that it shows

  limit_by : (end : CoreEnd) (left none : Bool) → v.phase ≡ Between → nat_lt v.steps v.setup.config.steps ≡ left → (length v.ports.waiting == 0) ≡ none
      → state_by v Between ≡ states.Ended end → EndsOn v end log ts (seat (ground_ended v end) ts v.steps)
  limit_by end true none between is is' shows = let no : states.Running ≡ states.Ended end = rw is at shows in absurd (cc)
  limit_by end false false between is is' shows = let no : states.Draining ≡ states.Ended end = rw (is, is') at shows in absurd (cc)
  limit_by end false true between is is' shows =
      let limit : states.Ended Limit ≡ states.Ended end = rw (is, is') at shows in
      let same : Limit ≡ end = cc in
      subst (λ (e : CoreEnd). EndsOn v e log ts (seat (ground_ended v e) ts v.steps)) same
      (ends_by_limit between (ltb-false v.steps v.setup.config.steps is) (eqb-true (length v.ports.waiting) 0 is'))

  shows_by : (end : CoreEnd) (phase : Phase) → v.phase ≡ phase → state_by v phase ≡ states.Ended end → EndsOn v end log ts (seat (ground_ended v end) ts v.steps)
  shows_by end Between is shows = limit_by end (nat_lt v.steps v.setup.config.steps) (length v.ports.waiting == 0) is refl refl shows
  shows_by end Begun is shows = absurd (cc)
  shows_by end (Needs turn) is shows = absurd (cc)
  shows_by end (Ended e) is shows = let same : e ≡ end = cc in ends_in_phase end (is ∙ ap Ended same)

  pub shown_end : (end : CoreEnd) → state_of_core v ≡ states.Ended end → EndsOn v end log ts (seat (ground_ended v end) ts v.steps)
  shown_end end shows = shows_by end v.phase refl shows
