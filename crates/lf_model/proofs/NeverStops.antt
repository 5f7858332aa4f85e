-- Where no memory word and no register cell ever has two turned bits, no error trap stops a core.
use Rattle.std.proofs.Common.{◌≡◌, ◌∙◌, ◌+◌, ◌==◌, ℕ, zero, suc, Bool, true, false, nat_lt, List, [], ◌∷◌, length, map, fold, refl, ap, sym, subst, Option, Some, None, IfSome, slice_get, if◌then◌else◌}
use Rattle.std.proofs.lemmas.Bool.{or_parts}
use Rattle.std.proofs.lemmas.List.{map-append}
use Rattle.std.proofs.lemmas.Option.{slice_get-map}
use Rattle.std.proofs.lemmas.Simd.{map-map}
use Rattle.std.specs.List.{list_any, enumerate_from}
use Rattle.std.specs.Option.{option_map}
use Rattle.std.specs.List.{AllByRecursion as Each}
use Rattle.lf_model.specs.Bus.Replay.{Core, Replay, replay_start, made_by_none, made_by_walk, made_by_scrubber, made_at, made_by_master, made_turn, replay_turn, core_finished, replay}
use Rattle.lf_model.specs.Bus.Walk.{scrubber, next_transfer}
use Rattle.lf_model.specs.Bus.Words.{Word, words_begun}
use Rattle.lf_model.specs.Course.Core.{Ground}
use Rattle.lf_model.specs.Course.Course.{up_to}
use Rattle.lf_model.specs.Course.Progress.{Progress}
use Rattle.lf_model.specs.Course.Turn.{addressed}
use Rattle.lf_model.specs.Effect.{Effect}
use Rattle.lf_model.specs.Run.{effect_at_pc}
use Rattle.lf_model.specs.Ledger.Account.{ground_in, grounds_in, replay_of, transfer_made}
use Rattle.lf_model.specs.Ledger.Steps.{own_transfers}
use Rattle.lf_model.specs.Promise.Headline.{Headline, HasStopCause, StopCauseAt}
use Rattle.lf_model.specs.Promise.NeverStops.{word_was_bad, a_cell_was_bad, NeverTwoTurned, is_stop, NeverStops}
use Rattle.lf_model.specs.Ledger.CoreAccount.{errors_reported}
use Rattle.lf_model.specs.Places.{FailsNowhere}
use Rattle.lf_model.specs.declared.bus.Transfer.{Transfer}
use Rattle.lf_model.specs.declared.setup.Setup.{Setup}
use Rattle.lf_model.specs.declared.trace.CoreEnd.{CoreEnd}
use Rattle.lf_model.specs.declared.trace.CoreEnd.TheVariants.{Halt, Stop, Limit}
use Rattle.lf_model.specs.declared.trace.CoreResult.{CoreResult}
use Rattle.lf_model.specs.declared.trace.Trace.{Trace}
use Rattle.lf_model.proofs.EachLemmas.{each_at, each_append}
use Rattle.lf_model.proofs.GoodCells.{Good as GoodCells}
use Rattle.lf_model.proofs.GoodCourse.{IsClean, no_error_traps}
use Rattle.lf_model.proofs.GoodWords.{Good as GoodWords, good_begun, good_after, answers_clean}
use Rattle.lf_model.proofs.ReplayLemmas.{core_after_all, cores_are_courses}

module _ (setup : Setup) where
  -- ---- the transfers of the run meet no bad word

  none_clean : (t : Transfer) → IsClean (made_by_none t).transfer
  unfolding IsClean
  none_clean t zero = refl
  none_clean t (suc j) = refl

  scrubber_clean : (words : List Word) → GoodWords words → (left : Bool) (t u : Transfer) → IsClean (if left then made_by_walk words u else made_by_none t).transfer
  scrubber_clean words good true t u = answers_clean words u good
  scrubber_clean words good false t u = none_clean t

  core_clean_at : (words : List Word) → GoodWords words → (t : Transfer) (g : Ground) (k : Progress) (e : Effect) → IsClean (made_at g words t k e).transfer
  core_clean_at words good t g k e = answers_clean words (addressed g e k t) good

  core_clean : (words : List Word) → GoodWords words → (t : Transfer) (c : Option Core) → IsClean (made_by_master words t c).transfer
  core_clean words good t None = none_clean t
  core_clean words good t (Some c) =
      let k = up_to c.on t c.progress in
      core_clean_at words good t c.on k (effect_at_pc c.on.setup c.on.core k.run.state)

  turn_clean : (words : List Word) → GoodWords words → (r : Replay) (t : Transfer) (own : Bool)
      → IsClean (if own then made_by_scrubber setup.config.scrub_turns words r.turns r.walk t
      else made_by_master words (record t { turn = r.turns }) (slice_get r.cores t.master)).transfer
  turn_clean words good r t true =
      scrubber_clean words good (nat_lt r.walk.turns setup.config.scrub_turns) t (next_transfer r.turns r.walk r.walk.noted)
  turn_clean words good r t false = core_clean words good (record t { turn = r.turns }) (slice_get r.cores t.master)

  made_clean : (words : List Word) → GoodWords words → (r : Replay) (t : Transfer) → IsClean (made_turn setup r words t).transfer
  unfolding made_turn
  made_clean words good r t = turn_clean words good r t (t.master == scrubber)

  turn_goes : (r : Replay) (t : Transfer) → GoodWords (replay_turn setup r t).words → GoodWords (words_begun setup.flips r.turns r.words)
  unfolding replay_turn
  turn_goes r t good =
      let words = words_begun setup.flips r.turns r.words in
      let made = made_turn setup r words t in
      good_after made.transfer made.named words good

  turn_adds : (r : Replay) (t : Transfer) → GoodWords (words_begun setup.flips r.turns r.words) → Each IsClean (map transfer_made r.made)
      → Each IsClean (map transfer_made (replay_turn setup r t).made)
  unfolding replay_turn
  turn_adds r t good clean =
      let made = made_turn setup r (words_begun setup.flips r.turns r.words) t in
      subst (λ ts. Each IsClean ts) (sym (map-append transfer_made r.made (made ∷ [])))
      (each_append IsClean (map transfer_made r.made) (made.transfer ∷ []) clean (made_clean (words_begun setup.flips r.turns r.words) good r t, tt))

  -- words that never were bad after all turns never were bad before
  before : (r : Replay) (ts : List Transfer) → GoodWords (fold (replay_turn setup) r ts).words → GoodWords r.words
  before r [] good = good
  before r (t ∷ ts) good = good_begun setup.flips r.turns r.words (turn_goes r t (before (replay_turn setup r t) ts good))

  all_clean : (r : Replay) (ts : List Transfer) → GoodWords (fold (replay_turn setup) r ts).words → Each IsClean (map transfer_made r.made)
      → Each IsClean (map transfer_made (fold (replay_turn setup) r ts).made)
  all_clean r [] good clean = clean
  all_clean r (t ∷ ts) good clean =
      all_clean (replay_turn setup r t) ts good (turn_adds r t (turn_goes r t (before (replay_turn setup r t) ts good)) clean)

  -- ---- the cores meet no error trap

  abbrev ended : List Transfer → Ground → Core
  ended ts g = core_finished (core_after_all setup ts g)

  cores_ended : (grounds : List Ground) (ts : List Transfer) → (replay setup grounds ts).cores
      ≡ map (ended (map transfer_made (fold (replay_turn setup) (replay_start setup grounds) ts).made)) grounds
  unfolding replay
  cores_ended grounds ts =
      ap (map core_finished) (cores_are_courses setup grounds ts)
      ∙ map-map core_finished (core_after_all setup (map transfer_made (fold (replay_turn setup) (replay_start setup grounds) ts).made)) grounds

  none_met : (ts : List Transfer) → Each IsClean ts → (grounds : List Ground) → list_any a_cell_was_bad (map (ended ts) grounds) ≡ false
      → Each (λ (c : Core). c.progress.errors ≡ []) (map (ended ts) grounds)
  unfolding GoodCells
  none_met ts clean [] good = tt
  none_met ts clean (g ∷ grounds) good = let parts = or_parts (a_cell_was_bad (ended ts g)) _ good in
      (no_error_traps g ts clean parts.0, none_met ts clean grounds parts.1)

  pub no_errors : (grounds : List Ground) (ts : List Transfer) → list_any word_was_bad (replay setup grounds ts).words ≡ false
      → list_any a_cell_was_bad (replay setup grounds ts).cores ≡ false → Each (λ (c : Core). c.progress.errors ≡ []) (replay setup grounds ts).cores
  unfolding replay GoodWords
  no_errors grounds ts words cells =
      let clean = all_clean (replay_start setup grounds) ts words tt in
      subst (λ cores. Each (λ (c : Core). c.progress.errors ≡ []) cores) (sym (cores_ended grounds ts))
      (none_met _ clean grounds (subst (λ cores. list_any a_cell_was_bad cores ≡ false) (cores_ended grounds ts) cells))

-- ---- the theorem

-- no error trap was met and the end's one is all that was met: the end is no stop
no_stop : (end : CoreEnd) (steps turns : ℕ) → [] ≡ errors_reported end steps turns → is_stop end ≡ false
no_stop (Halt tt_) steps turns e = refl
no_stop (Stop tt_ place syn) steps turns e = absurd (none_is_one e)
  where
    none_is_one : [] ≡ errors_reported (Stop tt_ place syn) steps turns → ⊥
    none_is_one e = cc
no_stop Limit steps turns e = refl

-- a numbered list has an element where the list has one
has_element : {X Y : Type 0} (f : ℕ → X → Y) (n : ℕ) (xs : List X) (i : ℕ)
    → IfSome (slice_get xs i) (λ x. (y : Y) × (slice_get (map (λ (p : ℕ × X). f p.0 p.1) (enumerate_from n xs)) i ≡ Some y))
has_element f n [] i = tt
has_element f n (x ∷ xs) zero = (f n x, refl)
has_element f n (x ∷ xs) (suc i) = has_element f (n + 1) xs i

module _ (setup : Setup) (trace : Trace) where
  abbrev core_at : ℕ → Option Core
  core_at c = slice_get (replay_of setup trace).cores c

  -- the run has a core where the trace has one
  has_core : (c : ℕ) → IfSome (slice_get trace.cores c) (λ r. (k : Core) × (core_at c ≡ Some k))
  has_core c = goes (slice_get trace.cores c) (has_element (ground_in setup trace) 0 trace.cores c)
    where
      goes : (o : Option CoreResult) → IfSome o (λ r. (g : Ground) × (slice_get (grounds_in setup trace) c ≡ Some g)) → IfSome o (λ r. (k : Core) × (core_at c ≡ Some k))
      goes None h = tt
      goes (Some r) h =
          let met = map transfer_made (fold (replay_turn setup) (replay_start setup (grounds_in setup trace)) trace.transfers).made in (
            ended setup met h.0,
            ap (λ cores. slice_get cores c) (cores_ended setup (grounds_in setup trace) trace.transfers)
                ∙ (slice_get-map (ended setup met) (grounds_in setup trace) c ∙ ap (option_map (ended setup met)) h.1),
          )

  stop_at : (c : ℕ) (o : Option CoreResult) (q : Option Core) → IfSome o (λ r. (k : Core) × (q ≡ Some k)) → IfSome o (λ r. IfSome q (HasStopCause c trace r))
      → IfSome q (λ k. k.progress.errors ≡ []) → IfSome o (λ r. is_stop r.end ≡ false)
  stop_at c None q has cause none = tt
  stop_at c (Some r) None has cause none = absurd (none_is_some has.1)
    where
      none_is_some : {k : Core} → None ≡ Some k → ⊥
      none_is_some e = cc
  stop_at c (Some r) (Some k) has cause none = no_stop r.end r.steps (length (own_transfers c trace.transfers)) (sym none ∙ cause.met)

  -- a run of which no word and no cell ever has two turned bits, and whose stops have their cause, has no stop
  pub never_stops : FailsNowhere setup.config.cores (StopCauseAt setup trace) → NeverTwoTurned setup trace → NeverStops setup trace
  never_stops causes never c within = stop_at c (slice_get trace.cores c) (core_at c) (has_core c) (causes c within)
      (each_at (λ (k : Core). k.progress.errors ≡ []) (replay_of setup trace).cores c
      (no_errors setup (grounds_in setup trace) trace.transfers never.words never.cells))

  -- as the headline says
  pub headline_never_stops : Headline setup trace → NeverTwoTurned setup trace → NeverStops setup trace
  headline_never_stops headline never = never_stops headline.stops never
