-- A step without a turn, whose instruction retires, carries the core's seat on.
use Rattle.std.proofs.Common.{◌≡◌, ◌∙◌, ◌+◌, ◌++◌, ℕ, false, refl, ap, sym, arith}
use Rattle.std.proofs.lemmas.List.{append-nil}
use Rattle.core_parts.specs.CoreValue.{CoreValue}
use Rattle.core_parts.specs.Moves.{tried_at, Retires}
use Rattle.core_parts.specs.Seat.{IsSeat, errors_by}
use Rattle.core_parts.specs.declared.phase.Phase.TheVariants.{Between, Begun, Ended}
use Rattle.lf_model.specs.Course.Core.{Ground}
use Rattle.lf_model.specs.Course.LocalStep.{local_step, is_last_stop, way_hit}
use Rattle.lf_model.specs.Course.Outcome.Need.{NoTurn}
use Rattle.lf_model.specs.Course.Progress.{Progress, next_needs, completed}
use Rattle.lf_model.specs.Records.OwnTurns.{next_effect}
use Rattle.lf_model.specs.declared.trace.CoreEnd.TheVariants.{Halt}

module _ (g : Ground) (k : Progress) (old new : CoreValue) where
  -- the step needs no turn, and is not the last of a core that a register cell stops
  pub record NeedsNone : Type 0 where
    pub begun : old.phase ≡ Begun
    pub none : next_needs g k (tried_at g k).outcome ≡ NoTurn
    pub goes_on : is_last_stop g k.steps ≡ false

  pub retired : IsSeat old g k → NeedsNone → Retires g k old new → new.phase ≡ Between → IsSeat new g (local_step g k)
  unfolding local_step
  retired s x r phase = record {
    steps = ap (λ n. n + 1) s.steps ∙ sym r.steps;
    quiet = ap (λ n. n + 1) s.quiet ∙ sym r.quiet;
    retired = rw x.goes_on (ap (λ n. n + 1) s.retired ∙ sym r.counted);
    run = rw x.goes_on (sym r.run);
    arrays = rw phase (rw x.goes_on r.arrays);
    seen = s.seen ∙ sym r.seen;
    unseen = s.unseen;
    completions = rw x.goes_on (ap (λ before. before ++ completed k.steps (way_hit (tried_at g k).arrays.data_cache (tried_at g k).outcome) k.seen (next_effect g k).access) s.completions ∙ sym r.completions);
    errors = rw phase (rw x.none (append-nil k.errors ∙ (s.errors ∙ ap (errors_by old.steps k.turns) x.begun)));
    owed = rw x.none (rw s.owed refl);
    stored = rw x.goes_on (rw s.stored (sym r.stored));
    waits = rw phase (rw x.goes_on (omega (arith, r.waits, rw x.begun at s.waits)));
  }

  -- it enters error mode
  pub halted : (tt_ : ℕ) → IsSeat old g k → NeedsNone → Retires g k old new → new.phase ≡ Ended (Halt tt_) → IsSeat new g (local_step g k)
  unfolding local_step
  halted tt_ s x r phase = record {
    steps = ap (λ n. n + 1) s.steps ∙ sym r.steps;
    quiet = ap (λ n. n + 1) s.quiet ∙ sym r.quiet;
    retired = rw x.goes_on (ap (λ n. n + 1) s.retired ∙ sym r.counted);
    run = rw x.goes_on (sym r.run);
    arrays = rw phase (rw x.goes_on r.arrays);
    seen = s.seen ∙ sym r.seen;
    unseen = s.unseen;
    completions = rw x.goes_on (ap (λ before. before ++ completed k.steps (way_hit (tried_at g k).arrays.data_cache (tried_at g k).outcome) k.seen (next_effect g k).access) s.completions ∙ sym r.completions);
    errors = rw phase (rw x.none (append-nil k.errors ∙ (s.errors ∙ ap (errors_by old.steps k.turns) x.begun)));
    owed = rw x.none (rw s.owed refl);
    stored = rw x.goes_on (rw s.stored (sym r.stored));
    waits = rw phase (λ _. rw x.goes_on (omega (arith, r.waits, rw x.begun at s.waits)));
  }
