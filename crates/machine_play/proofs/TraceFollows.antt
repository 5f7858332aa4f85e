-- The trace that is gathered from an ended machine follows the schedule that brought it there.
use Rattle.std.proofs.Common.{◌≡◌, ◌∙◌, ◌+◌, ◌≤◌, ◌==◌, ℕ, suc, List, [], ◌∷◌, Some, length, map, fold, slice_get, refl, ap, sym, subst, arith}
use Rattle.std.proofs.lemmas.List.{length-map}
use Rattle.ahb_bus.specs.declared.record.BusRecord.{BusRecord}
use Rattle.core_laws.proofs.ListLemmas.{each_every}
use Rattle.core_parts.specs.CoreValue.{CoreValue}
use Rattle.lf_model.proofs.EachLemmas.{filter_map_same}
use Rattle.lf_model.specs.Bus.Walk.{Walk, scrubber}
use Rattle.lf_model.specs.Ledger.Account.{without_length}
use Rattle.lf_model.specs.Ledger.Steps.{own_transfers}
use Rattle.lf_model.specs.Promise.Follows.{scheduled, rounds, Follows}
use Rattle.lf_model.specs.Promise.Turns.{Actors}
use Rattle.lf_model.specs.Records.AllRecords.{words_named_by_all, watched_words, AreRecordsOk}
use Rattle.lf_model.specs.declared.bus.Transfer.{Transfer}
use Rattle.lf_model.specs.declared.record.CoreRecord.{CoreRecord}
use Rattle.lf_model.specs.declared.setup.Event.{Event}
use Rattle.lf_model.specs.declared.setup.Setup.{Setup}
use Rattle.lf_model.specs.declared.trace.Trace.{Trace}
use Rattle.lf_model.specs.declared.trace.Word2.{Word2}
use Rattle.machine_play.specs.LeavesRecords.{LeaveRecords}
use Rattle.machine_play.specs.Machine.{IsMachine}
use Rattle.machine_play.specs.MachineMade.{reported, HasEnded, ComesTo}
use Rattle.machine_play.specs.MachineValue.{MachineValue}
use Rattle.machine_play.proofs.AtEnd.{AreShown}
use Rattle.machine_play.proofs.CoresMade.{are_made}
use Rattle.machine_play.proofs.Gathering.{LeavesBusRecord, as_many, records_right}
use Rattle.machine_play.proofs.OwnShares.{walk_turns}
use Rattle.machine_play.proofs.ScheduleFollows.{follows}
use Rattle.run_trace.proofs.Execution.{order_of_core}
use Rattle.run_trace.specs.Gathered.{result_kept, gathered}

-- as many transfers of a master are reported as it made
own_reported : (c : ℕ) (ts : List Transfer) → length (own_transfers c (map without_length ts)) ≡ length (own_transfers c ts)
own_reported c ts =
    ap (λ (us : List Transfer). length us) (sym (filter_map_same (λ (t : Transfer). t.master == c) (λ (t : Transfer). t.master == c) without_length ts (each_every (λ (t : Transfer). (t.master == c) ≡ (t.master == c)) ts (λ t. refl))))
    ∙ length-map (own_transfers c ts) without_length

module _ (setup : Setup) (m : MachineValue) (is : IsMachine setup m) (records : List CoreRecord) (leave : LeaveRecords setup m.bus 0 m.cores records) (left : BusRecord) (bus : LeavesBusRecord m.bus records left)
    (watch : List Word2) (watch_is : watch ≡ watched_words setup m.bus.log (words_named_by_all records) m.bus.transfers) (ended : HasEnded setup m) where
  pub right : AreRecordsOk setup records left.log.entries left.transfers (record { addr = left.ahb_addr; status = left.ahb_status }) left.fates watch
  right = records_right setup m is records leave left bus watch ended.scrubber watch_is

  abbrev trace : Trace
  trace = gathered setup records left watch

  -- each core is shown as it is
  shown_from : (c : ℕ) (vs : List CoreValue) (rs : List CoreRecord) → LeaveRecords setup m.bus c vs rs → ((i : ℕ) (kept : CoreRecord) → slice_get rs i ≡ Some kept → slice_get records (c + i) ≡ Some kept)
      → AreShown (gathered setup records left watch) c (map result_kept rs) vs
  shown_from c [] [] leave there = tt
  shown_from c [] (kept ∷ rs) leave there = absurd leave
  shown_from c (v ∷ vs) [] leave there = absurd leave
  shown_from c (v ∷ vs) (kept ∷ rs) leave there = (
    record {
      number = leave.0.number;
      steps = leave.0.steps;
      ops = order_of_core setup records left.log.entries left.transfers (record { addr = left.ahb_addr; status = left.ahb_status }) left.fates watch right c kept (at_first (there 0 kept refl)) ∙ leave.0.ops;
    },
    shown_from (c + 1) vs rs leave.1 (λ i kept' at. next i kept' (there (suc i) kept' at)),
  )
    where
      at_first : slice_get records (c + 0) ≡ Some kept → slice_get records c ≡ Some kept
      at_first at = let same : c + 0 ≡ c = omega arith in subst (λ (n : ℕ). slice_get records n ≡ Some kept) same at

      next : (i : ℕ) (kept' : CoreRecord) → slice_get records (c + suc i) ≡ Some kept' → slice_get records (c + 1 + i) ≡ Some kept'
      next i kept' at = let same : c + suc i ≡ c + 1 + i = omega arith in subst (λ (n : ℕ). slice_get records n ≡ Some kept') same at

  from_first : (i : ℕ) (kept : CoreRecord) → slice_get records i ≡ Some kept → slice_get records (0 + i) ≡ Some kept
  from_first i kept at = let same : i ≡ 0 + i = omega arith in subst (λ (n : ℕ). slice_get records n ≡ Some kept) same at

  few : length (map result_kept records) ≤ 8
  few =
      let cores = subst (λ (s : Setup). s.config.cores ≤ 8) is.bus_setup is.bus_ok.cores in
      omega (arith, length-map records result_kept, as_many setup m.bus 0 m.cores records leave, is.one_each, cores)

  reported_is : map without_length left.transfers ≡ reported m.bus
  reported_is = ap (map without_length) bus.transfers_is

  scrub_turns : setup.config.scrub_turns ≤ length (own_transfers scrubber (map without_length left.transfers))
  scrub_turns = omega (arith, ended.scrubber, ap (λ (w : Walk). w.turns) is.scrubber_at.walk_is, walk_turns setup.config.scrub m.bus.transfers, own_reported scrubber m.bus.transfers, ap (λ (ts : List Transfer). length (own_transfers scrubber (map without_length ts))) bus.transfers_is)

  pub trace_follows : (events : List Event) (k : ℕ) → ComesTo setup (λ (a : Actors). rounds k (fold scheduled a events)) m → Follows setup events (gathered setup records left watch)
  trace_follows events k comes =
      follows setup m (are_made setup m is) ended events (gathered setup records left watch) reported_is (shown_from 0 m.cores records leave from_first) few scrub_turns k comes
