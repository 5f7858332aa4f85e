-- A core's turn on the bus carries its seat on: a fill, a drain or a snoop, and an atomic that retires.
use Rattle.std.proofs.Common.{◌≡◌, ◌∙◌, ◌+◌, ◌++◌, ℕ, true, false, nat_le, List, [], None, length, refl, ap, sym, arith}
use Rattle.std.proofs.lemmas.List.{append-nil}
use Rattle.core_parts.specs.CoreValue.{CoreValue}
use Rattle.core_parts.specs.Moves.{seen_with, step_ended, Turns, Exchanges}
use Rattle.core_parts.specs.Seat.{IsSeat}
use Rattle.core_parts.specs.declared.phase.Phase.TheVariants.{Between}
use Rattle.lf_model.specs.Course.Core.{Ground}
use Rattle.lf_model.specs.Course.Course.{with_unseen}
use Rattle.lf_model.specs.Course.Progress.{Progress, completed}
use Rattle.lf_model.specs.Course.Turn.{is_past_steps}
use Rattle.lf_model.specs.Course.Turned.{own_turn, bad_wanted, retires_by}
use Rattle.lf_model.specs.Records.OwnTurns.{next_effect}
use Rattle.lf_model.specs.declared.bus.Transfer.{Transfer}

-- seat: that of the core as its last turn ended and its later steps were made; addrs: the addresses at which others stored since
module _ (g : Ground) (seat : Progress) (addrs : List ℕ) (t : Transfer) (old new : CoreValue) where
  -- the seat as the turn begins
  abbrev pub at_turn : Progress
  at_turn = with_unseen addrs seat

  -- the core had met no error trap, and its turn meets none; its stores that wait are those that have not drained; past: the ground
  -- allows as many steps as the setup
  pub record TurnsWell : Type 0 where
    pub none_met : seat.errors ≡ []
    pub waits : seat.drained + length old.ports.waiting ≡ seat.stored
    pub past : is_past_steps g at_turn ≡ nat_le old.setup.config.steps old.steps
    pub none_bad : bad_wanted at_turn.run.state.ctl.pc (next_effect g at_turn) t ≡ None

  steps_are : (was : Ground) → IsSeat old was seat → TurnsWell → (own_turn g t at_turn).steps ≡ step_ended old
  unfolding own_turn
  steps_are was s x = rw (x.past, s.steps) refl

  -- was: the ground by which it came there
  pub turned : (was : Ground) → IsSeat old was seat → TurnsWell → retires_by g t ≡ false → Turns g at_turn t old new → new.phase ≡ Between
      → IsSeat new g (own_turn g t at_turn)
  unfolding own_turn
  turned was s x goes_on r phase = record {
    steps = steps_are was s x ∙ sym r.steps;
    quiet = sym r.quiet;
    retired = rw goes_on (s.retired ∙ sym r.counted);
    run = rw goes_on (sym r.run);
    arrays = rw phase r.arrays;
    seen = sym r.seen;
    unseen = refl;
    completions = rw goes_on (s.completions ∙ sym r.completions);
    errors = rw phase (rw x.none_bad (append-nil seat.errors ∙ x.none_met));
    owed = s.owed;
    stored = rw goes_on (s.stored ∙ sym r.stored);
    waits = rw phase (rw goes_on (omega (arith, r.waits, x.waits)));
  }

  pub exchanged : (was : Ground) → IsSeat old was seat → TurnsWell → retires_by g t ≡ true → Exchanges g at_turn t old new → new.phase ≡ Between
      → IsSeat new g (own_turn g t at_turn)
  unfolding own_turn
  exchanged was s x retires r phase = record {
    steps = steps_are was s x ∙ sym r.steps;
    quiet = sym r.quiet;
    retired = rw retires (ap (λ n. n + 1) s.retired ∙ sym r.counted);
    run = rw retires (sym r.run);
    arrays = rw phase r.arrays;
    seen = sym r.seen;
    unseen = refl;
    completions = rw retires (ap (λ before. before ++ completed seat.steps None (seen_with t at_turn) (next_effect g at_turn).access) s.completions ∙ sym r.completions);
    errors = rw phase (rw x.none_bad (append-nil seat.errors ∙ x.none_met));
    owed = s.owed;
    stored = rw retires (rw s.stored (sym r.stored));
    waits = rw phase (rw retires (omega (arith, r.waits, x.waits)));
  }
