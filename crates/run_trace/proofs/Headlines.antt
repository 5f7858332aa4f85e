-- The headline of the trace that is gathered: its execution, its results, the causes of stops, and what has no value.
use Rattle.std.proofs.Common.{◌≡◌, ◌∙◌, ◌+◌, ℕ, suc, Bool, true, false, List, [], ◌∷◌, length, slice_get, Option, Some, None, is_none, IfSome, refl, ap, sym, subst, if◌then◌else◌}
use Rattle.std.proofs.lemmas.List.{length-map}
use Rattle.std.proofs.lemmas.Option.{slice_get-map}
use Rattle.std.specs.Option.{option_map}
use Rattle.ahb_bus.specs.declared.record.BusRecord.{BusRecord}
use Rattle.lf_model.specs.Bus.Status.{AhbStatus}
use Rattle.lf_model.specs.Bus.Words.{Word, word_history}
use Rattle.lf_model.specs.Flips.{is_bad_word}
use Rattle.lf_model.specs.Ledger.Account.{replay_of, is_bad_at}
use Rattle.lf_model.specs.Ledger.CoreAccount.{CoreAccount, errors_reported}
use Rattle.lf_model.specs.Once.{OnceAtFinal}
use Rattle.lf_model.specs.Places.{FailsNowhere}
use Rattle.lf_model.specs.Promise.Headline.{HasStopCause, StopCauseAt, HasBlanks, BlankAt, WatchAt, IsTsoExecution, Headline}
use Rattle.lf_model.specs.Records.AllRecords.{number_left, watched_word, words_named_by_all}
use Rattle.lf_model.specs.Records.BusMemory.{memory_after}
use Rattle.lf_model.specs.declared.bus.Entry.{Entry}
use Rattle.lf_model.specs.declared.flip.Flip.{Flip}
use Rattle.lf_model.specs.declared.record.CoreRecord.{CoreRecord}
use Rattle.lf_model.specs.declared.setup.Setup.{Setup}
use Rattle.lf_model.specs.declared.trace.CoreResult.{CoreResult}
use Rattle.lf_model.specs.declared.trace.Fate.{Fate}
use Rattle.lf_model.specs.declared.trace.Trace.{Trace}
use Rattle.lf_model.specs.declared.trace.Word2.{Word2}
use Rattle.run_trace.specs.Fates.{fates_recorded}
use Rattle.run_trace.specs.Gathered.{result_kept, IsGatherable}
use Rattle.run_trace.proofs.Execution.{once_cores, once_order, threads}
use Rattle.run_trace.proofs.Results.{results, words, words_shown, once_transfers}
use Rattle.run_trace.proofs.Together.{order_loads, order_stores, order_values}
use Rattle.run_trace.proofs.TraceReplay.{trace, status, record_kept, core_at_end, words_at_end, own_count}

pub fates_count : (records : List CoreRecord) (bus : List Fate) (i : ℕ) (script : List Flip) → length (fates_recorded records bus i script) ≡ length script
fates_count records bus i [] = refl
fates_count records bus i (flip ∷ script) = ap (λ n. suc n) (fates_count records bus (i + 1) script)

-- a word is missing exactly where it is bad
pub missing_if : (bad : Bool) (n : ℕ) → is_none (if bad then None else Some n) ≡ bad
missing_if true n = refl
missing_if false n = refl

module _ (setup : Setup) (records : List CoreRecord) (bus : BusRecord) (watch : List Word2) (ok : IsGatherable setup records bus watch) where
  abbrev reported : Trace
  reported = trace setup records bus watch ok

  stop_at : (c : ℕ) (found : Option CoreRecord) → slice_get records c ≡ found
      → IfSome (option_map result_kept found) (λ r. IfSome (slice_get (replay_of setup reported).cores c) (HasStopCause c reported r))
  stop_at c None e = tt
  stop_at c (Some kept) e = subst (λ o. IfSome o (HasStopCause c reported kept.result)) (sym (core_at_end setup records bus watch ok c kept e)) (record {
    met = ap (λ (a : CoreAccount). a.errors) (record_kept setup records bus watch ok c kept e).account
        ∙ ap (errors_reported kept.result.end kept.result.steps) (sym (own_count c bus.transfers));
  })

  stops : FailsNowhere setup.config.cores (StopCauseAt setup reported)
  stops c within = subst (λ o. IfSome o (λ (r : CoreResult). IfSome (slice_get (replay_of setup reported).cores c) (HasStopCause c reported r)))
      (sym (slice_get-map result_kept records c)) (stop_at c (slice_get records c) refl)

  blank_at : (c : ℕ) (found : Option CoreRecord) → slice_get records c ≡ found
      → IfSome (option_map result_kept found) (λ r. IfSome (slice_get (replay_of setup reported).cores c) (HasBlanks r))
  blank_at c None e = tt
  blank_at c (Some kept) e = subst (λ o. IfSome o (HasBlanks kept.result)) (sym (core_at_end setup records bus watch ok c kept e)) (record {
    registers = sym (ap (λ (a : CoreAccount). a.blank) (record_kept setup records bus watch ok c kept e).account);
  })

  blanks : FailsNowhere setup.config.cores (BlankAt setup reported)
  blanks c within = subst (λ o. IfSome o (λ (r : CoreResult). IfSome (slice_get (replay_of setup reported).cores c) (HasBlanks r)))
      (sym (slice_get-map result_kept records c)) (blank_at c (slice_get records c) refl)

  abbrev pub words_left : List Word
  words_left = (memory_after setup.flips (words_named_by_all records) bus.transfers).words

  abbrev pub word_left : ℕ → Word2
  word_left = watched_word setup.image bus.log.entries words_left

  word_at : (found : Option ℕ) → IfSome (option_map word_left found) (λ word. is_none word.value ≡ is_bad_at (replay_of setup reported).words word.addr)
  word_at None = tt
  word_at (Some addr) = missing_if (is_bad_word (word_history words_left addr)) (number_left setup.image bus.log.entries addr)
      ∙ ap (λ ws. is_bad_at ws addr) (sym (words_at_end setup records bus watch ok))

  watched : FailsNowhere (length reported.watch) (WatchAt setup reported)
  watched i within = subst (λ found. IfSome found (λ (word : Word2). is_none word.value ≡ is_bad_at (replay_of setup reported).words word.addr))
      (sym (ap (λ (ws : List Word2). slice_get ws i) ok.right.watch_is ∙ slice_get-map word_left setup.config.watch i))
      (word_at (slice_get setup.config.watch i))

  abbrev log : List Entry
  log = bus.log.entries

  abbrev at : AhbStatus
  at = status setup records bus watch ok

  pub once_final : OnceAtFinal setup reported
  once_final = record {
    cores_shown = length-map records result_kept ∙ ok.right.one_each;
    fates_shown = fates_count records bus.fates 0 setup.flips;
    words_shown = words_shown setup records log bus.transfers at bus.fates watch ok.right reported refl refl;
  }

  pub execution : IsTsoExecution setup reported
  execution = record {
    once_cores = once_cores setup records log bus.transfers at bus.fates watch ok.right;
    once_order = once_order setup records log bus.transfers at bus.fates watch ok.right;
    once_transfers = once_transfers setup records log bus.transfers at bus.fates watch ok.right reported refl refl;
    once_final = once_final;
    load_op = order_loads setup records log bus.transfers at bus.fates watch ok.right;
    store_store = order_stores setup records log bus.transfers at bus.fates watch ok.right;
    thread = threads setup records log bus.transfers at bus.fates watch ok.right reported refl refl;
    value = order_values setup records log bus.transfers at bus.fates watch ok.right;
  }

  pub headline : Headline setup reported
  headline = record {
    execution = execution;
    results = results setup records log bus.transfers at bus.fates watch ok.right reported refl refl refl;
    words = words setup records log bus.transfers at bus.fates watch ok.right reported refl refl;
    stops = stops;
    blanks = blanks;
    watched = watched;
  }
