-- A core's seat, its run and its turns stay as its ground comes to know more: what it reads and stores later, and how it ends.
use Rattle.std.proofs.Common.{◌≡◌, ◌∙◌, ◌+◌, ◌-◌, ◌<◌, ◌≤◌, ℕ, suc, true, List, length, refl, ap, sym, subst, arith}
use Rattle.std.specs.List.{AllByRecursion as Each, list_all}
use Rattle.core_laws.proofs.Growing.{grows_local_steps}
use Rattle.core_laws.proofs.LaterGround.{before_earlier, local_steps_same, course_same}
use Rattle.core_laws.proofs.OwnTurns.{own_turn_at_same}
use Rattle.core_laws.proofs.Runs.{run_longer}
use Rattle.core_laws.specs.RunSoFar.{HasRun}
use Rattle.core_laws.specs.Running.{running, with_later, IsNoStop, IsBefore}
use Rattle.core_parts.specs.Seat.{seat}
use Rattle.lf_model.proofs.CourseLemmas.{IsAt, local_steps_count, local_steps_more}
use Rattle.lf_model.specs.Course.Core.{Given, Ground, ground_of}
use Rattle.lf_model.specs.Course.Course.{course}
use Rattle.lf_model.specs.Course.LocalStep.{local_step, local_steps}
use Rattle.lf_model.specs.Course.Progress.{Progress}
use Rattle.lf_model.specs.Records.BusRecord.{is_in_memory}
use Rattle.lf_model.specs.Records.OwnTurns.{OwnTurnAt}
use Rattle.lf_model.specs.declared.bus.Transfer.{Transfer}
use Rattle.lf_model.specs.declared.setup.Setup.{Setup}
use Rattle.lf_model.specs.declared.trace.CoreEnd.{CoreEnd}

-- ---- one step more

module _ (g : Ground) (ts : List Transfer) (steps : ℕ) where
  -- the core has made so many local steps since its last turn
  pub at_seat : IsAt g ts (steps - (course g ts).steps) (seat g ts steps)
  at_seat = record { at = refl }

  pub course_within : (seat g ts steps).steps ≡ steps → (course g ts).steps ≤ steps
  course_within made = omega (arith, made, local_steps_count g (steps - (course g ts).steps) (course g ts))

  pub seat_next : (seat g ts steps).steps ≡ steps → seat g ts (steps + 1) ≡ local_step g (seat g ts steps)
  seat_next made =
      let more : steps + 1 - (course g ts).steps ≡ suc (steps - (course g ts).steps) = omega (arith, course_within made) in
      ap (λ n. local_steps g n (course g ts)) more ∙ local_steps_more g (steps - (course g ts).steps) (course g ts)

-- a core that has come so far along its course, with these turns
pub record Reaches (g : Ground) (ts : List Transfer) (n : ℕ) (k : Progress) : Type 0 where
  pub at : seat g ts n ≡ k
  pub steps : k.steps ≡ n
  pub has_run : HasRun g k
  pub right_turns : (turn : ℕ) → turn < length ts → OwnTurnAt g ts turn

-- ---- what is known later

module _ (setup : Setup) (core : ℕ) (given later : Given) (end : CoreEnd) (last : ℕ) (allowed : last ≤ setup.config.steps)
    (ts : List Transfer) (steps : ℕ) (k : Progress) (no_stop : Each (IsNoStop core end) ts) (before : IsBefore given.answers end last k) where
  abbrev early : Ground
  early = running setup core given

  abbrev pub known : Ground
  known = ground_of setup core (with_later given later) end last

  pub reaches_later : list_all (is_in_memory setup.config.ram) ts ≡ true → Reaches early ts steps k → Reaches known ts steps k
  reaches_later in_memory r =
      let now : IsBefore given.answers end last (seat early ts steps) = subst (IsBefore given.answers end last) (sym r.at) before in
      let then_ : IsBefore given.answers end last (course early ts) =
      before_earlier given.answers end last _ _ (grows_local_steps early (steps - (course early ts).steps) (course early ts)) now in
      record {
        at = ap (λ (c : Progress). local_steps known (steps - c.steps) c) (course_same setup core given later end last allowed ts no_stop then_)
            ∙ (local_steps_same setup core given later end last allowed (steps - (course early ts).steps) (course early ts) now ∙ r.at);
        steps = r.steps;
        has_run = run_longer setup core given.answers later.answers k.retired k.run r.has_run before.read;
        right_turns = λ turn within. own_turn_at_same setup core given later end last allowed ts turn no_stop then_ in_memory (r.right_turns turn within);
      }
