-- A core at its end: its course by the real end and by the steps that it made is what it was as it ran, but for the last step of a
-- core that an error trap stops. Transfers of others that come later leave it.
use Rattle.std.proofs.Common.{◌≡◌, ◌∙◌, ◌+◌, ◌-◌, ◌≤◌, ◌==◌, ◌++◌, ℕ, zero, suc, true, false, List, [], ◌∷◌, Option, Some, None, length, refl, ap, sym, arith}
use Rattle.std.proofs.lemmas.Bool.{eq-eqb, and_right}
use Rattle.std.proofs.lemmas.List.{take_at}
use Rattle.std.specs.List.{AllByRecursion as Each, slice_get}
use Rattle.core_laws.proofs.LaterGround.{at_same, same_past}
use Rattle.core_laws.proofs.ListLemmas.{get_behind}
use Rattle.core_laws.proofs.OwnTurns.{up_to_next}
use Rattle.core_laws.specs.Running.{running, with_later, IsNoStop, IsBefore}
use Rattle.lf_model.proofs.CourseLemmas.{IsAt, all_stored_at, local_step_counts, local_steps_count, at_local_step, at_own_turn, IsOthers, course_later}
use Rattle.lf_model.specs.Course.Attempt.{attempt}
use Rattle.lf_model.specs.Course.Arrays.{begun}
use Rattle.lf_model.specs.Course.Core.{Given, Ground, ground_of, is_register_stop, is_stop_at}
use Rattle.lf_model.specs.Course.Course.{with_unseen, course, finished}
use Rattle.lf_model.specs.Course.LocalStep.{named_cell, local_step, local_steps}
use Rattle.lf_model.specs.Course.Progress.{Progress}
use Rattle.lf_model.specs.Course.Turned.{own_turn}
use Rattle.lf_model.specs.Ledger.CoreAccount.{core_by_course}
use Rattle.lf_model.specs.Names.{same_kind}
use Rattle.lf_model.specs.Records.OwnTurns.{place_of_end, named_by, named_at, words_named_by, words_named}
use Rattle.lf_model.specs.Run.{effect_at_pc}
use Rattle.lf_model.specs.declared.bus.Transfer.{Transfer}
use Rattle.lf_model.specs.declared.bus.TurnKind.TheVariants.{Atomic}
use Rattle.lf_model.specs.declared.setup.Setup.{Setup}
use Rattle.lf_model.specs.declared.trace.CoreEnd.{CoreEnd}

module _ (g : Ground) where
  -- a core that has made all its steps is at its end
  pub finished_at : (ts : List Transfer) (n : ℕ) (k : Progress) → IsAt g ts n k → k.steps ≡ g.steps → finished g (course g ts) ≡ k
  finished_at ts n k h made = ap (λ m. local_steps g m (course g ts)) (left (course g ts).steps n g.steps (sym made ∙ (ap (λ (j : Progress). j.steps) h.at ∙ local_steps_count g n (course g ts)))) ∙ sym h.at
    where
      left : (before n steps : ℕ) → steps ≡ before + n → steps - before ≡ n
      left before n steps e = omega arith

  -- ---- others make turns later

  step_unseen : (addrs : List ℕ) (k : Progress) → local_step g (with_unseen addrs k) ≡ with_unseen addrs (local_step g k)
  unfolding local_step
  step_unseen addrs k = refl

  steps_unseen : (n : ℕ) (addrs : List ℕ) (k : Progress) → local_steps g n (with_unseen addrs k) ≡ with_unseen addrs (local_steps g n k)
  steps_unseen zero addrs k = refl
  steps_unseen (suc n) addrs k = ap (local_steps g n) (step_unseen addrs k) ∙ steps_unseen n addrs (local_step g k)

  pub finished_later : (ts us : List Transfer) → Each (IsOthers g) us → finished g (course g (ts ++ us)) ≡ with_unseen (all_stored_at g us) (finished g (course g ts))
  finished_later ts us others = ap (finished g) (course_later g ts us others) ∙ steps_unseen (g.steps - (course g ts).steps) (all_stored_at g us) (course g ts)

  -- what there is to account for of the core stays
  pub account_later : (ts us : List Transfer) → Each (IsOthers g) us → core_by_course g (finished g (course g (ts ++ us))) ≡ core_by_course g (finished g (course g ts))
  account_later ts us others = ap (core_by_course g) (finished_later ts us others)

  pub completions_later : (ts us : List Transfer) → Each (IsOthers g) us → (finished g (course g (ts ++ us))).completions ≡ (finished g (course g ts)).completions
  completions_later ts us others = ap (λ (k : Progress). k.completions) (finished_later ts us others)

  -- ---- the word that its stop names

  none_at : (ts : List Transfer) (turn : ℕ) (found : Option Transfer) → is_stop_at turn g.end ≡ false → named_at g ts turn found ≡ []
  none_at ts turn None no_stop = refl
  none_at ts turn (Some t) no_stop = rw no_stop refl

  none_by : (ts : List Transfer) (place : Option ℕ) → ((turn : ℕ) → is_stop_at turn g.end ≡ false) → words_named_by g ts place ≡ []
  none_by ts None no_stop = refl
  none_by ts (Some turn) no_stop = none_at ts turn (slice_get ts turn) (no_stop turn)

  -- an end that is no stop at a transfer names none
  pub names_none : (ts : List Transfer) → ((turn : ℕ) → is_stop_at turn g.end ≡ false) → words_named g ts ≡ []
  names_none ts no_stop = none_by ts (place_of_end g.end) no_stop

  -- a stop at the transfer of the next step names the word that this gives
  pub names_bad_word : (ts us : List Transfer) (n : ℕ) (k : Progress) (t : Transfer) → IsAt g ts n k → t.step ≡ k.steps → (g.core == t.master) ≡ true
      → place_of_end g.end ≡ Some (length ts) → is_stop_at (length ts) g.end ≡ true → words_named g (ts ++ t ∷ us) ≡ named_by g t k
  names_bad_word ts us n k t h step own place stop =
      ap (words_named_by g (ts ++ t ∷ us)) place
      ∙ (ap (named_at g (ts ++ t ∷ us) (length ts)) (get_behind ts us t)
      ∙ rw (stop, own, take_at ts (t ∷ us) (length ts) refl) (ap (named_by g t) (up_to_next g ts n k t h step)))

-- was: what the core went by as it ran; is: what it goes by at its end
module _ (setup : Setup) (core : ℕ) (given later : Given) (end : CoreEnd) (steps : ℕ) (allowed : steps ≤ setup.config.steps) where
  abbrev was : Ground
  was = running setup core given

  abbrev is : Ground
  is = ground_of setup core (with_later given later) end steps

  -- ---- what a stop changes

  -- a turn that meets the stop retires nothing
  pub stopped_turn : (t : Transfer) (k : Progress) → is_stop_at t.turn end ≡ true → (own_turn was t k).steps ≤ steps
      → own_turn is t k ≡ record (own_turn was t k) { retired = k.retired; run = k.run; stored = k.stored; completions = k.completions }
  unfolding own_turn
  stopped_turn t k stop within =
      rw (stop, same_past given.answers end steps setup.config.steps k.steps allowed within, and_right (same_kind t.kind Atomic) false refl) refl

  -- a step that a register cell stops retires nothing, and the error trap names the cell
  pub stopped_step : (k : Progress) → is_register_stop end ≡ true → k.steps + 1 ≡ steps
      → local_step is k ≡ record (local_step was k) {
        retired = k.retired;
        run = k.run;
        stored = k.stored;
        completions = k.completions;
        arrays = (let x = attempt setup.image k.run.state (effect_at_pc setup core k.run.state) (begun was.flips k.steps k.arrays) in named_cell x.outcome x.arrays);
      }
  unfolding local_step
  stopped_step k stop last = rw (stop, eq-eqb (k.steps + 1) steps last) refl

  -- ---- at the end

  abbrev Running : List Transfer → ℕ → Progress → Type 0
  Running ts n k = IsAt was ts n k × (Each (IsNoStop core end) ts × IsBefore given.answers end steps k)

  runs_on : (ts : List Transfer) (n : ℕ) (k : Progress) → Running ts n k → IsAt is ts n k
  runs_on ts n k h = at_same setup core given later end steps allowed ts n k h.0 h.1.0 h.1.1

  -- it halted, or made all steps
  pub ended : (ts : List Transfer) (n : ℕ) (k : Progress) → Running ts n k → k.steps ≡ steps → finished is (course is ts) ≡ k
  ended ts n k h made = finished_at is ts n k (runs_on ts n k h) made

  -- an error trap stopped it at a transfer
  pub ended_at_turn : (ts : List Transfer) (n : ℕ) (k : Progress) (t : Transfer) → Running ts n k → (core == t.master) ≡ true → t.step ≡ k.steps
      → (own_turn is t k).steps ≡ steps → finished is (course is (ts ++ t ∷ [])) ≡ own_turn is t k
  ended_at_turn ts n k t h own step made =
      finished_at is (ts ++ t ∷ []) 0 (own_turn is t k) (at_own_turn is ts n k t (runs_on ts n k h) own step) made

  -- a register cell stopped it
  pub ended_in_step : (ts : List Transfer) (n : ℕ) (k : Progress) → Running ts n k → k.steps + 1 ≡ steps → finished is (course is ts) ≡ local_step is k
  ended_in_step ts n k h made =
      finished_at is ts (suc n) (local_step is k) (at_local_step is ts n k (runs_on ts n k h)) (local_step_counts is k ∙ made)
