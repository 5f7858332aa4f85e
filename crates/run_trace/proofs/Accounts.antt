-- The account of the trace that is gathered, by the run of its masters, is what it reports: steps, cores, transfers, fates, and what
-- stands at the end.
use Rattle.std.proofs.Common.{◌≡◌, ◌∙◌, ◌+◌, ◌==◌, ◌++◌, ℕ, Bool, true, false, List, [], ◌∷◌, length, filter, fold, map, count_by, slice_get, Option, Some, None, IfSome, refl, ap, sym, subst, inl, inr, arith, add-one}
use Rattle.std.proofs.lemmas.Bool.{cases_Bool}
use Rattle.std.proofs.lemmas.List.{append_assoc, append-nil}
use Rattle.std.proofs.lemmas.List.Sums.{length-filter}
use Rattle.std.proofs.lemmas.Option.{slice_get-map}
use Rattle.std.proofs.lemmas.Simd.{map-map}
use Rattle.std.specs.List.{enumerate_from}
use Rattle.std.specs.Option.{option_map}
use Rattle.ahb_bus.specs.declared.record.BusRecord.{BusRecord}
use Rattle.lf_model.proofs.ReplayLemmas.{made_after}
use Rattle.lf_model.specs.Bus.Replay.{Replay, replay_start}
use Rattle.lf_model.specs.Bus.Status.{AhbStatus, status_after}
use Rattle.lf_model.specs.Bus.Walk.{Walk, scrubber, walk_start, walked, walk_by}
use Rattle.lf_model.specs.Bus.Words.{Word, word_history}
use Rattle.lf_model.specs.Course.Core.{Ground}
use Rattle.lf_model.specs.Course.Course.{course, finished}
use Rattle.lf_model.specs.Flips.{is_bad_word}
use Rattle.lf_model.specs.Ledger.Account.{FinalAccount, map_numbered, replay_of, without_length, transfer_made, turn_made, core_account, is_bad_at, final_by_replay, turn_reported, core_reported, value_missing, is_scrubbers, final_reported}
use Rattle.lf_model.specs.Ledger.CoreAccount.{CoreAccount, core_by_course, core_as_reported}
use Rattle.lf_model.specs.Ledger.Rule.{StepsAt}
use Rattle.lf_model.specs.Ledger.Steps.{HasSteps, own_transfers}
use Rattle.lf_model.specs.Places.{FailsNowhere}
use Rattle.lf_model.specs.Records.AllRecords.{number_left, watched_word, words_named_by_all}
use Rattle.lf_model.specs.Records.BusMemory.{memory_after}
use Rattle.lf_model.specs.declared.bus.Transfer.{Transfer}
use Rattle.lf_model.specs.declared.image.Range.{Range}
use Rattle.lf_model.specs.declared.record.CoreRecord.{CoreRecord}
use Rattle.lf_model.specs.declared.setup.Setup.{Setup}
use Rattle.lf_model.specs.declared.trace.CoreResult.{CoreResult}
use Rattle.lf_model.specs.declared.trace.Op.{Op}
use Rattle.lf_model.specs.declared.trace.Trace.{Trace}
use Rattle.lf_model.specs.declared.trace.Word2.{Word2}
use Rattle.run_trace.specs.Gathered.{result_kept, IsGatherable}
use Rattle.lf_model.proofs.RecordsCompose.{IsRight, IsAnswered, Along, after, along_more, along_start, turns_right, account_reported, cores_accounted}
use Rattle.run_trace.proofs.Headlines.{missing_if}
use Rattle.run_trace.proofs.Replayed.{ground_at, along, answered_here, right_here, walked_turns}
use Rattle.run_trace.proofs.Stepping.{count_blind, steps_without}
use Rattle.run_trace.proofs.TraceReplay.{trace, status, kept_grounds, numbered_map, own_without, own_count, record_kept, ops_kept, replay_is, words_at_end}

-- ---- what each transfer adds, from the first to the last

module _ (setup : Setup) (grounds : List Ground) (named : List Word2) (Holds : List Transfer → Type 0)
    (step : (pre : List Transfer) (t : Transfer) → Along setup grounds named pre → IsRight setup grounds named pre t → IsAnswered setup grounds named pre t → Holds pre → Holds (pre ++ t ∷ [])) where
  holds_from : (pre ts : List Transfer) → Along setup grounds named pre
      → ((us vs : List Transfer) (t : Transfer) → ts ≡ us ++ t ∷ vs → IsRight setup grounds named (pre ++ us) t × IsAnswered setup grounds named (pre ++ us) t)
      → Holds pre → Holds (pre ++ ts)
  holds_from pre [] h each now = subst Holds (sym (append-nil pre)) now
  holds_from pre (t ∷ ts) h each now =
      let here = each [] ts t refl in
      let first = subst (λ us. IsRight setup grounds named us t × IsAnswered setup grounds named us t) (append-nil pre) here in
      subst Holds (append_assoc pre (t ∷ []) ts)
      (holds_from (pre ++ t ∷ []) ts (along_more setup grounds named pre t h first.0 first.1)
      (λ us vs u split. subst (λ ws. IsRight setup grounds named ws u × IsAnswered setup grounds named ws u) (sym (append_assoc pre (t ∷ []) us)) (each (t ∷ us) vs u (ap (λ ws. t ∷ ws) split)))
      (step pre t h first.0 first.1 now))

  -- what each transfer keeps holds after all of them
  pub holds_after : (ts : List Transfer)
      → ((us vs : List Transfer) (t : Transfer) → ts ≡ us ++ t ∷ vs → IsRight setup grounds named us t × IsAnswered setup grounds named us t) → Holds [] → Holds ts
  holds_after ts each now = holds_from [] ts (along_start setup grounds named) each now

-- ---- the turns of the scrubber

walk_own : (range : Range) (w : Walk) (t : Transfer) → (t.master == scrubber) ≡ true → walk_by range w t ≡ walked range t w w.noted
walk_own range w t e = rw e refl

walk_other : (range : Range) (w : Walk) (t : Transfer) → (t.master == scrubber) ≡ false → walk_by range w t ≡ w
walk_other range w t e = rw e refl

scrub_own : (t : Transfer) (ts : List Transfer) → (t.master == scrubber) ≡ true → length (filter is_scrubbers (t ∷ ts)) ≡ length (filter is_scrubbers ts) + 1
scrub_own t ts e = rw e (omega (arith, add-one (length (filter is_scrubbers ts))))

scrub_other : (t : Transfer) (ts : List Transfer) → (t.master == scrubber) ≡ false → length (filter is_scrubbers (t ∷ ts)) ≡ length (filter is_scrubbers ts)
scrub_other t ts e = rw e refl

walked_by : (range : Range) (w : Walk) (ts : List Transfer) → (fold (walk_by range) w ts).turns ≡ w.turns + length (filter is_scrubbers ts)
walked_by range w [] = omega arith
walked_by range w (t ∷ ts) = elim (cases_Bool (t.master == scrubber)) [
  | inl own ↦ ap (λ (v : Walk). (fold (walk_by range) v ts).turns) (walk_own range w t own)
      ∙ omega (arith, walked_by range (walked range t w w.noted) ts, walked_turns range w t w.noted, scrub_own t ts own)
  | inr other ↦ ap (λ (v : Walk). (fold (walk_by range) v ts).turns) (walk_other range w t other) ∙ omega (arith, walked_by range w ts, scrub_other t ts other)
]

both : {X : Type 0} {x y : X} {xs ys : List X} → x ≡ y → xs ≡ ys → (x ∷ xs) ≡ (y ∷ ys)
both p q = rw (p, q) refl

module _ (setup : Setup) (records : List CoreRecord) (bus : BusRecord) (watch : List Word2) (ok : IsGatherable setup records bus watch) where
  abbrev reported : Trace
  reported = trace setup records bus watch ok

  abbrev at : AhbStatus
  at = status setup records bus watch ok

  abbrev gs : List Ground
  gs = kept_grounds setup records bus watch ok

  abbrev named : List Word2
  named = words_named_by_all records

  all_along : Along setup gs named bus.transfers
  all_along = along setup ok.limits.few_cores records bus.log.entries bus.transfers at bus.fates watch ok.right

  pub each_right : (us vs : List Transfer) (t : Transfer) → bus.transfers ≡ us ++ t ∷ vs → IsRight setup gs named us t × IsAnswered setup gs named us t
  each_right us vs t split = (
    right_here setup ok.limits.few_cores records bus.log.entries bus.transfers at bus.fates watch ok.right us vs t split,
    answered_here setup ok.limits.few_cores records bus.log.entries bus.transfers at bus.fates watch ok.right us vs t split,
  )

  -- ---- steps

  step_at : (c : ℕ) (found : Option CoreRecord) → slice_get records c ≡ found → IfSome (option_map result_kept found) (λ r. HasSteps setup r (own_transfers c reported.transfers))
  step_at c None e = tt
  step_at c (Some kept) e = subst (HasSteps setup kept.result) (sym (own_without c bus.transfers))
      (steps_without setup kept.result (own_transfers c bus.transfers) (record_kept setup records bus watch ok c kept e).steps)

  pub steps_right : FailsNowhere setup.config.cores (StepsAt setup reported)
  steps_right c within = subst (λ o. IfSome o (λ (r : CoreResult). HasSteps setup r (own_transfers c reported.transfers))) (sym (slice_get-map result_kept records c)) (step_at c (slice_get records c) refl)

  -- ---- cores

  abbrev accounted : ℕ → CoreRecord → CoreAccount
  accounted c kept = let g = ground_at setup ok.limits.few_cores records bus.log.entries bus.transfers at bus.fates watch ok.right c kept in core_by_course g (finished g (course g bus.transfers))

  account_at : (c : ℕ) (found : Option CoreRecord) → slice_get records c ≡ found → IfSome found (λ kept. core_reported reported c kept.result ≡ accounted c kept)
  account_at c None e = tt
  account_at c (Some kept) e =
      ap (λ (os : List Op). core_as_reported c kept.result os reported.transfers) (ops_kept setup records bus watch ok c kept e)
      ∙ (same_turns (own_count c bus.transfers) ∙ sym (record_kept setup records bus watch ok c kept e).account)
    where
      same_turns : length (own_transfers c reported.transfers) ≡ length (own_transfers c bus.transfers) → core_as_reported c kept.result kept.ops reported.transfers ≡ core_as_reported c kept.result kept.ops bus.transfers
      same_turns same = rw same refl

  pub cores_right : map core_account (replay_of setup reported).cores ≡ map_numbered (core_reported reported) reported.cores
  cores_right =
      ap (λ (r : Replay). map core_account r.cores) (replay_is setup records bus watch ok)
      ∙ (cores_accounted setup gs named bus.transfers all_along
      ∙ (map-map (λ (g : Ground). core_by_course g (finished g (course g bus.transfers)))
      (λ (x : ℕ × CoreRecord). ground_at setup ok.limits.few_cores records bus.log.entries bus.transfers at bus.fates watch ok.right x.0 x.1) (enumerate_from 0 records)
      ∙ sym (numbered_map (core_reported reported) result_kept accounted records (λ c. account_at c (slice_get records c) refl))))

  -- ---- transfers

  pub transfers_right : map turn_made (replay_of setup reported).made ≡ map turn_reported reported.transfers
  transfers_right =
      ap (λ (r : Replay). map turn_made r.made) (replay_is setup records bus watch ok)
      ∙ (holds_after setup gs named (λ ts. map turn_made (after setup gs named ts).made ≡ map (account_reported setup gs named) ts) (turns_right setup gs named) bus.transfers each_right refl
      ∙ sym (map-map turn_reported without_length bus.transfers))

  -- ---- the end

  made_kept : map transfer_made (replay_of setup reported).made ≡ bus.transfers
  made_kept = ap (λ (r : Replay). map transfer_made r.made) (replay_is setup records bus watch ok) ∙ (made_after setup (replay_start setup gs) bus.transfers ∙ all_along.made)

  abbrev words_left : List Word
  words_left = (memory_after setup.flips named bus.transfers).words

  missing : (addrs : List ℕ) → map (is_bad_at words_left) addrs ≡ map value_missing (map (watched_word setup.image bus.log.entries words_left) addrs)
  missing [] = refl
  missing (addr ∷ addrs) = both (sym (missing_if (is_bad_word (word_history words_left addr)) (number_left setup.image bus.log.entries addr))) (missing addrs)

  scrubs_counted : count_by is_scrubbers reported.transfers ≡ setup.config.scrub_turns
  scrubs_counted = omega (arith, count_blind is_scrubbers (λ t. refl) bus.transfers, length-filter is_scrubbers bus.transfers, walked_by setup.config.scrub (walk_start setup.config.scrub) bus.transfers, ok.right.walk.all)

  pub final_right : final_by_replay setup (replay_of setup reported) ≡ final_reported reported
  final_right = three
      (ap status_after made_kept ∙ sym ok.right.bus.status_is)
      (ap (λ ws. map (is_bad_at ws) setup.config.watch) (words_at_end setup records bus watch ok) ∙ (missing setup.config.watch ∙ ap (map value_missing) (sym ok.right.watch_is)))
      (sym scrubs_counted)
    where
      three : {a b : AhbStatus} {us vs : List Bool} {m n : ℕ} → a ≡ b → us ≡ vs → m ≡ n → ◌≡◌ {A = FinalAccount} (record { ahb = a; watch = us; scrub_turns = m }) (record { ahb = b; watch = vs; scrub_turns = n })
      three p q r = rw (p, q, r) refl
