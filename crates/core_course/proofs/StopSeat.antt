-- A stop carries the core's seat to its end: by a bad register cell in a step without a turn, or by a bad word at a turn.
use Rattle.std.proofs.Common.{◌≡◌, ◌∙◌, ◌+◌, ◌==◌, ℕ, true, false, nat_le, List, [], ◌∷◌, Some, None, length, refl, ap, sym, arith}
use Rattle.core_parts.specs.CoreValue.{CoreValue}
use Rattle.core_parts.specs.Moves.{tried_at, step_ended, Stops, StopsAtTurn}
use Rattle.core_parts.specs.Seat.{IsSeat, errors_by}
use Rattle.core_parts.specs.declared.phase.Phase.TheVariants.{Begun, Ended}
use Rattle.lf_model.specs.Course.Core.{Ground, r_register_access_error}
use Rattle.lf_model.specs.Course.Course.{with_unseen}
use Rattle.lf_model.specs.Course.LocalStep.{local_step, is_last_stop}
use Rattle.lf_model.specs.Course.Outcome.Need.{RegisterStop}
use Rattle.lf_model.specs.Course.Progress.{Progress, ErrorTrap, next_needs}
use Rattle.lf_model.specs.Course.Turn.{is_past_steps}
use Rattle.lf_model.specs.Course.Turned.{own_turn, bad_wanted, retires_by}
use Rattle.lf_model.specs.Records.OwnTurns.{next_effect}
use Rattle.lf_model.specs.declared.bus.Transfer.{Transfer}
use Rattle.lf_model.specs.declared.trace.CoreEnd.TheVariants.{Stop}

-- the error trap of a register cell, met in a step
abbrev pub met_in_cell : ℕ → ℕ → ℕ → List ErrorTrap
met_in_cell cell syn steps = record { trap_type = r_register_access_error; place = cell; syndrome = syn; steps = steps; turns = None } ∷ []

module _ (g : Ground) (old new : CoreValue) where
  -- ---- a bad register cell

  -- the step needs this stop, and is the last one of a core that a register cell stops
  pub record NeedsStop (k : Progress) (cell : ℕ) : Type 0 where
    pub begun : old.phase ≡ Begun
    pub stops : next_needs g k (tried_at g k).outcome ≡ RegisterStop cell
    pub is_last : is_last_stop g k.steps ≡ true

  pub stopped_by_cell : (k : Progress) (cell syn : ℕ) → IsSeat old g k → NeedsStop k cell → Stops g k cell syn old new
      → new.phase ≡ Ended (Stop r_register_access_error cell syn) → IsSeat new g (local_step g k)
  unfolding local_step
  stopped_by_cell k cell syn s x r phase =
      let none : k.errors ≡ [] = s.errors ∙ ap (errors_by old.steps k.turns) x.begun in
      let steps : k.steps + 1 ≡ new.steps = ap (λ n. n + 1) s.steps ∙ sym r.steps in
      record {
        steps = steps;
        quiet = ap (λ n. n + 1) s.quiet ∙ sym r.quiet;
        retired = rw x.is_last (s.retired ∙ sym r.counted);
        run = rw x.is_last (sym r.run);
        arrays = rw phase (rw x.is_last r.arrays);
        seen = s.seen ∙ sym r.seen;
        unseen = s.unseen;
        completions = rw x.is_last (s.completions ∙ sym r.completions);
        errors = rw phase (rw x.stops (rw none (ap (λ sy. met_in_cell cell sy (k.steps + 1)) r.met ∙ ap (met_in_cell cell syn) steps)));
        owed = rw x.stops (rw s.owed refl);
        stored = rw x.is_last (s.stored ∙ sym r.stored);
        waits = rw phase (λ _. rw x.is_last (omega (arith, r.waits, rw x.begun at s.waits)));
      }

  -- ---- a bad word

  -- seat: that of the core as its last turn ended and its later steps were made; addrs: the addresses at which others stored since
  pub record MeetsBad (seat : Progress) (addrs : List ℕ) (t : Transfer) (j tt_ : ℕ) : Type 0 where
    pub none_met : seat.errors ≡ []
    pub waits : seat.drained + length old.ports.waiting ≡ seat.stored
    pub past : is_past_steps g (with_unseen addrs seat) ≡ nat_le old.setup.config.steps old.steps
    pub bad : bad_wanted (with_unseen addrs seat).run.state.ctl.pc (next_effect g (with_unseen addrs seat)) t ≡ Some j
    pub no_register : (tt_ == r_register_access_error) ≡ false
    pub stays : retires_by g t ≡ false

  steps_at_stop : (was : Ground) (seat : Progress) (addrs : List ℕ) (t : Transfer) (j tt_ : ℕ) → IsSeat old was seat → MeetsBad seat addrs t j tt_
      → (own_turn g t (with_unseen addrs seat)).steps ≡ step_ended old
  unfolding own_turn
  steps_at_stop was seat addrs t j tt_ s x = rw (x.past, s.steps) refl

  -- was: the ground by which it came there
  pub stopped_at_turn : (was : Ground) (seat : Progress) (addrs : List ℕ) (t : Transfer) (j tt_ syn : ℕ) → IsSeat old was seat → MeetsBad seat addrs t j tt_
      → StopsAtTurn g (with_unseen addrs seat) t j tt_ syn old new → new.phase ≡ Ended (Stop tt_ t.turn syn) → IsSeat new g (own_turn g t (with_unseen addrs seat))
  unfolding own_turn
  stopped_at_turn was seat addrs t j tt_ syn s x r phase = record {
    steps = steps_at_stop was seat addrs t j tt_ s x ∙ sym r.steps;
    quiet = sym r.quiet;
    retired = rw x.stays (s.retired ∙ sym r.counted);
    run = rw x.stays (sym r.run);
    arrays = rw phase r.arrays;
    seen = sym r.seen;
    unseen = refl;
    completions = rw x.stays (s.completions ∙ sym r.completions);
    errors = rw phase (rw x.bad (rw x.none_met (rw r.trap_type (rw r.met (rw x.no_register (rw (x.past, s.steps, r.steps) refl))))));
    owed = s.owed;
    stored = rw x.stays (s.stored ∙ sym r.stored);
    waits = rw phase (λ not_store. rw x.stays (omega (arith, r.waits not_store, x.waits)));
  }
