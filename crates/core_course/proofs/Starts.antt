-- A core at reset has seen nothing, and all holds of it.
use Rattle.std.proofs.Common.{ℕ, [], length, refl, arith}
use Rattle.core_laws.specs.RunSoFar.{HasRun}
use Rattle.core_laws.specs.SeenSoFar.{HasSeenSoFar}
use Rattle.core_laws.specs.StepsSoFar.{HasStepsSoFar}
use Rattle.core_course.specs.CoreOk.{CoreOk, GoesOn}
use Rattle.core_parts.specs.CoreValue.{start_value}
use Rattle.core_course.specs.Lines.{LinesAre}
use Rattle.core_parts.specs.Phases.{ground_so_far}
use Rattle.core_parts.specs.Seat.{seat, IsSeat}
use Rattle.lf_model.specs.Run.{run}
use Rattle.lf_model.specs.Start.{initial_byte}
use Rattle.lf_model.specs.State.{reset}
use Rattle.lf_model.specs.declared.setup.Setup.{Setup}
use Rattle.parity_cache.proofs.Bytes.{formed_reset, holds_reset}
use Rattle.lf_model.specs.Caches.Cache.{IsCacheShape}

-- ---- the core

module _ (setup : Setup) (core : ℕ) where
  seat_at_start : IsSeat (start_value setup core) (ground_so_far (start_value setup core)) (seat (ground_so_far (start_value setup core)) [] 0)
  unfolding reset
  seat_at_start = record {
    steps = refl;
    quiet = refl;
    retired = refl;
    run = refl;
    arrays = refl;
    seen = refl;
    unseen = refl;
    completions = refl;
    errors = refl;
    owed = refl;
    stored = refl;
    waits = refl;
  }

  run_at_start : HasRun (ground_so_far (start_value setup core)) (seat (ground_so_far (start_value setup core)) [] 0)
  unfolding run
  run_at_start = refl

  steps_at_start : HasStepsSoFar setup.config.steps 0 0 0 [] []
  steps_at_start = record {
    allowed = omega arith;
    in_steps = search;
    ascending = refl;
    drains = search;
    all_made = refl;
    few = omega arith;
    retired = refl;
  }

  seen_at_start : HasSeenSoFar (initial_byte setup.image) core [] [] [] []
  seen_at_start = record {
    of_core = search;
    numbered = search;
    one_each = refl;
    rises = λ i j earlier within. absurd (omega (arith, within));
    in_log = λ i within. absurd (omega (arith, within));
    loads = search;
    atomics = search;
    entries = refl;
    earlier = search;
    atomics_seen = search;
    stores_wait = search;
    none_lost = search;
  }

  lines_at_start : IsCacheShape setup.config.load_cache → IsCacheShape setup.config.fetch_cache → LinesAre (start_value setup core) [] []
  lines_at_start load fetch = record {
    data_formed = formed_reset setup.config.load_cache (length setup.flips) load;
    fetch_formed = formed_reset setup.config.fetch_cache (length setup.flips) fetch;
    data_lines = holds_reset setup.config.load_cache (length setup.flips) load _;
    fetch_lines = holds_reset setup.config.fetch_cache (length setup.flips) fetch _;
  }

  goes_on_at_start : IsCacheShape setup.config.load_cache → IsCacheShape setup.config.fetch_cache → GoesOn (start_value setup core) [] []
  goes_on_at_start load fetch = record {
    in_order = refl;
    has_steps = steps_at_start;
    waits = refl;
    has_seen = seen_at_start;
    lines = lines_at_start load fetch;
    unnamed = refl;
  }

  -- where its caches have shapes that a configuration may give them
  pub ok_at_start : IsCacheShape setup.config.load_cache → IsCacheShape setup.config.fetch_cache → CoreOk (start_value setup core) [] []
  ok_at_start load fetch = record {
    log_length = refl;
    turns = refl;
    in_memory = refl;
    is_seat = seat_at_start;
    has_run = run_at_start;
    right_turns = search;
    stands = goes_on_at_start load fetch;
    left = tt;
  }
