-- The run of all masters over the transfers of the trace that is gathered: each core's part in it is the course of that core's record.
use Rattle.std.proofs.Common.{◌≡◌, ◌∙◌, ◌+◌, ◌==◌, ℕ, suc, List, [], ◌∷◌, length, fold, map, slice_get, Option, Some, None, IfSome, refl, ap, sym, subst, arith, add-one}
use Rattle.std.proofs.lemmas.List.{length-map}
use Rattle.std.proofs.lemmas.Option.{slice_get-map}
use Rattle.std.specs.List.{enumerate_from}
use Rattle.std.specs.Option.{option_map}
use Rattle.ahb_bus.specs.declared.record.BusRecord.{BusRecord}
use Rattle.lf_model.proofs.EachLemmas.{filter_map_same}
use Rattle.lf_model.proofs.RecordsCompose.{after, along_cores}
use Rattle.lf_model.proofs.ReplayLemmas.{core_after_all, turns_without_length}
use Rattle.lf_model.specs.Bus.Replay.{Core, Replay, replay_start, replay_turn, core_finished, replay_finished, replay}
use Rattle.lf_model.specs.Bus.Status.{AhbStatus}
use Rattle.lf_model.specs.Course.Core.{Ground, given_by, ground_of}
use Rattle.lf_model.specs.Course.Progress.{Progress}
use Rattle.lf_model.specs.ProgramOrder.{program_order}
use Rattle.lf_model.specs.Ledger.Account.{map_numbered, ground_in, grounds_in, replay_of, without_length}
use Rattle.lf_model.specs.Ledger.Steps.{own_transfers}
use Rattle.lf_model.specs.Records.AllRecords.{words_named_by_all}
use Rattle.lf_model.specs.Records.BusMemory.{memory_after}
use Rattle.lf_model.specs.Records.CoreRecord.{RecordOk, core_of_record}
use Rattle.lf_model.specs.Records.CoreRules.{course_of_ended}
use Rattle.lf_model.specs.declared.bus.Transfer.{Transfer}
use Rattle.lf_model.specs.declared.record.CoreRecord.{CoreRecord}
use Rattle.lf_model.specs.declared.setup.Setup.{Setup}
use Rattle.lf_model.specs.declared.trace.Op.{Op}
use Rattle.lf_model.specs.declared.trace.Trace.{Trace}
use Rattle.lf_model.specs.declared.trace.Word2.{Word2}
use Rattle.run_trace.specs.Gathered.{result_kept, gathered, IsGatherable}
use Rattle.run_trace.proofs.Execution.{order_of_core}
use Rattle.run_trace.proofs.Lists.{each_all}
use Rattle.run_trace.proofs.Replayed.{grounds, ground_at, numbered_at, along}
use Rattle.run_trace.proofs.Together.{record_at}

numbered_map_from : {X Y Z : Type 0} (f : ℕ → Y → Z) (g : X → Y) (h : ℕ → X → Z) (n : ℕ) (xs : List X)
    → ((i m : ℕ) → m ≡ n + i → IfSome (slice_get xs i) (λ x. f m (g x) ≡ h m x))
    → map (λ (y : ℕ × Y). f y.0 y.1) (enumerate_from n (map g xs)) ≡ map (λ (x : ℕ × X). h x.0 x.1) (enumerate_from n xs)
numbered_map_from f g h n [] same = refl
numbered_map_from f g h n (x ∷ xs) same =
    rw (same 0 n (omega arith), numbered_map_from f g h (n + 1) xs (λ i m e. same (suc i) m (omega (arith, e, add-one i)))) refl

-- what comes of each element and its number, where it comes of another's by g
pub numbered_map : {X Y Z : Type 0} (f : ℕ → Y → Z) (g : X → Y) (h : ℕ → X → Z) (xs : List X)
    → ((i : ℕ) → IfSome (slice_get xs i) (λ x. f i (g x) ≡ h i x)) → map_numbered f (map g xs) ≡ map_numbered h xs
numbered_map f g h xs same = numbered_map_from f g h 0 xs (λ i m e. subst (λ j. IfSome (slice_get xs i) (λ x. f j (g x) ≡ h j x)) (omega (arith, e)) (same i))

pub own_without : (c : ℕ) (ts : List Transfer) → own_transfers c (map without_length ts) ≡ map without_length (own_transfers c ts)
own_without c ts = sym (filter_map_same (λ (t : Transfer). t.master == c) (λ (t : Transfer). t.master == c) without_length ts
    (each_all (λ (t : Transfer). (t.master == c) ≡ ((without_length t).master == c)) ts (λ t. refl)))

pub own_count : (c : ℕ) (ts : List Transfer) → length (own_transfers c (map without_length ts)) ≡ length (own_transfers c ts)
own_count c ts = ap length (own_without c ts) ∙ length-map (own_transfers c ts) without_length

module _ (setup : Setup) (records : List CoreRecord) (bus : BusRecord) (watch : List Word2) (ok : IsGatherable setup records bus watch) where
  abbrev pub trace : Trace
  trace = gathered setup records bus watch

  abbrev pub status : AhbStatus
  status = record { addr = bus.ahb_addr; status = bus.ahb_status }

  -- what the cores run on, by their records
  abbrev pub kept_grounds : List Ground
  kept_grounds = grounds setup ok.limits.few_cores records bus.log.entries bus.transfers status bus.fates watch ok.right

  -- all masters after all transfers
  abbrev pub at_end : Replay
  at_end = after setup kept_grounds (words_named_by_all records) bus.transfers

  pub record_kept : (c : ℕ) (kept : CoreRecord) → slice_get records c ≡ Some kept → RecordOk setup c kept bus.log.entries bus.transfers
  record_kept c kept found = subst (λ o. IfSome o (λ (k : CoreRecord). RecordOk setup c k bus.log.entries bus.transfers)) found
      (record_at setup records bus.log.entries bus.transfers status bus.fates watch ok.right c)

  pub ops_kept : (c : ℕ) (kept : CoreRecord) → slice_get records c ≡ Some kept → program_order c trace.order ≡ kept.ops
  ops_kept c kept found = order_of_core setup records bus.log.entries bus.transfers status bus.fates watch ok.right c kept found

  -- by the trace the cores run on the same
  grounds_kept : grounds_in setup trace ≡ kept_grounds
  grounds_kept = numbered_map (ground_in setup trace) result_kept
      (ground_at setup ok.limits.few_cores records bus.log.entries bus.transfers status bus.fates watch ok.right) records (λ c. same c (slice_get records c) refl)
    where
      same : (c : ℕ) (found : Option CoreRecord) → slice_get records c ≡ found
          → IfSome found (λ kept. ground_in setup trace c kept.result ≡ ground_at setup ok.limits.few_cores records bus.log.entries bus.transfers status bus.fates watch ok.right c kept)
      same c None e = tt
      same c (Some kept) e = ap (λ (os : List Op). ground_of setup c (given_by os) kept.result.end kept.result.steps) (ops_kept c kept e)

  replay_by : (gs : List Ground) (ts : List Transfer) → replay setup gs ts ≡ replay_finished (fold (replay_turn setup) (replay_start setup gs) ts)
  unfolding replay
  replay_by gs ts = refl

  pub replay_is : replay_of setup trace ≡ replay_finished at_end
  replay_is =
      ap (λ gs. replay setup gs trace.transfers) grounds_kept
      ∙ (replay_by kept_grounds trace.transfers
      ∙ ap replay_finished (turns_without_length setup (replay_start setup kept_grounds) bus.transfers))

  -- the course of a core, to its end
  abbrev pub course_kept : ℕ → CoreRecord → Progress
  course_kept c kept = course_of_ended setup (core_of_record c kept bus.transfers)

  -- a core at its end: what it ran on, and its course
  abbrev pub core_of : ℕ → CoreRecord → Core
  core_of c kept = record {
    on = ground_at setup ok.limits.few_cores records bus.log.entries bus.transfers status bus.fates watch ok.right c kept;
    progress = course_kept c kept;
  }

  pub core_found : (c : ℕ) → slice_get (replay_of setup trace).cores c ≡ option_map (core_of c) (slice_get records c)
  core_found c =
      ap (λ (r : Replay). slice_get r.cores c) replay_is
      ∙ (slice_get-map core_finished at_end.cores c
      ∙ (ap (option_map core_finished) (
      ap (λ cores. slice_get cores c) (along_cores setup kept_grounds (words_named_by_all records) bus.transfers
      (along setup ok.limits.few_cores records bus.log.entries bus.transfers status bus.fates watch ok.right))
      ∙ (slice_get-map (core_after_all setup bus.transfers) kept_grounds c
      ∙ ap (option_map (core_after_all setup bus.transfers))
      (numbered_at (ground_at setup ok.limits.few_cores records bus.log.entries bus.transfers status bus.fates watch ok.right) records c)))
      ∙ all_three (slice_get records c)))
    where
      all_three : (found : Option CoreRecord)
          → option_map core_finished (option_map (core_after_all setup bus.transfers) (option_map (ground_at setup ok.limits.few_cores records bus.log.entries bus.transfers status bus.fates watch ok.right c) found))
          ≡ option_map (core_of c) found
      all_three None = refl
      all_three (Some kept) = refl

  pub core_at_end : (c : ℕ) (kept : CoreRecord) → slice_get records c ≡ Some kept → slice_get (replay_of setup trace).cores c ≡ Some (core_of c kept)
  core_at_end c kept found = core_found c ∙ ap (option_map (core_of c)) found

  -- the words of memory at the end
  pub words_at_end : (replay_of setup trace).words ≡ (memory_after setup.flips (words_named_by_all records) bus.transfers).words
  words_at_end = ap (λ (r : Replay). r.words) replay_is ∙ (along setup ok.limits.few_cores records bus.log.entries bus.transfers status bus.fates watch ok.right).words
