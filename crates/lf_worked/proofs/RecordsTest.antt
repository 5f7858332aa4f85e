-- Whether the records that the cores and the bus of a worked report leave are right, but for equations that compute.
use Rattle.std.proofs.Common.{ℕ, ◌≡◌, ◌+◌, ◌&&◌, nat_le, Bool, true, List, length, map, filter, slice_get, IfSome, []}
use Rattle.std.specs.Prelude.{count_by}
use Rattle.std.specs.List.{list_all, range_with_len}
use Rattle.std.proofs.lemmas.Bool.{leb-true, and_parts}
use Rattle.lf_model.specs.Bus.Status.{AhbStatus, status_after}
use Rattle.lf_model.specs.Bus.Walk.{scrubber}
use Rattle.lf_model.specs.Ledger.Account.{replay_of}
use Rattle.lf_model.specs.Ledger.CoreAccount.{core_by_course, core_as_reported}
use Rattle.lf_model.specs.Ledger.FlipFate.{flip_fates}
use Rattle.lf_model.specs.Ledger.Steps.{own_transfers}
use Rattle.lf_model.specs.Promise.Regular.{is_regular_core, is_regular_op, turn_of}
use Rattle.lf_model.specs.Promise.RegularTransfer.{is_regular_on_bus}
use Rattle.lf_model.specs.Records.BusMemory.{memory_after}
use Rattle.lf_model.specs.Records.BusRecord.{BusRecordOk, is_successful, entry_placed, transfer_placed, leaves_text, has_length, is_in_memory, no_arrays}
use Rattle.lf_model.specs.Records.CoreRecord.{RecordOk, core_of_record, completions_reported, of_core_alone}
use Rattle.lf_model.specs.Records.CoreRules.{ground_of_ended, course_of_ended}
use Rattle.lf_model.specs.Records.OwnTurns.{words_named}
use Rattle.lf_model.specs.Records.SeenOrder.{is_entry_of}
use Rattle.lf_model.specs.Start.{initial_byte}
use Rattle.lf_model.specs.declared.bus.Entry.{Entry}
use Rattle.lf_model.specs.declared.bus.Transfer.{Transfer}
use Rattle.lf_model.specs.declared.record.CoreRecord.{CoreRecord}
use Rattle.lf_model.specs.declared.setup.Setup.{Setup}
use Rattle.lf_model.specs.declared.trace.Fate.{Fate}
use Rattle.lf_model.specs.declared.trace.Trace.{Trace}
use Rattle.lf_model.specs.declared.trace.Word2.{Word2}
use Rattle.lf_worked.proofs.ExecutionTest.{has_thread, has_thread-sound, once_transfer, once_transfer-sound}
use Rattle.lf_worked.proofs.LedgerTest.{has_steps, has_steps-sound}
use Rattle.lf_worked.proofs.Numerals.{passes_below, passes_at}
use Rattle.lf_worked.proofs.RecordTest.{on_bus, log_of, kept_of, named_by_all, has_seen, has_seen-sound, own_turn_at, own_turn_at-sound}
use Rattle.lf_worked.proofs.ResultsTest.{shows_result, shows_result-sound}

-- ---- of a core

-- the record of core c is right
abbrev pub RecordAt : Setup → Trace → ℕ → Type 0
RecordAt setup trace c = RecordOk setup c (kept_of setup trace c) (log_of setup trace) (on_bus setup trace)

abbrev pub is_record : Setup → ℕ → CoreRecord → List Entry → List Transfer → Bool
is_record setup c kept log transfers = shows_result setup (core_of_record c kept transfers)
    && (has_thread setup (core_of_record c kept transfers)
    && (has_steps setup kept.result (own_transfers c transfers)
    && (has_seen (initial_byte setup.image) c kept.ops kept.seen log
    && (passes_below (own_turn_at (ground_of_ended setup (core_of_record c kept transfers)) transfers) (length transfers)
    && (is_regular_core kept.result && list_all is_regular_op kept.ops)))))

pub record_ok : (setup : Setup) (c : ℕ) (kept : CoreRecord) (log : List Entry) (transfers : List Transfer)
    → is_record setup c kept log transfers ≡ true
    → core_by_course (ground_of_ended setup (core_of_record c kept transfers)) (course_of_ended setup (core_of_record c kept transfers))
    ≡ core_as_reported c kept.result kept.ops transfers
    → (course_of_ended setup (core_of_record c kept transfers)).completions ≡ completions_reported kept
    → kept.named ≡ words_named (ground_of_ended setup (core_of_record c kept transfers)) transfers
    → kept.fates ≡ flip_fates setup.flips [] (of_core_alone c (course_of_ended setup (core_of_record c kept transfers)).arrays)
    → RecordOk setup c kept log transfers
record_ok setup c kept log transfers passes account completed named fates =
    let result = and_parts (shows_result setup (core_of_record c kept transfers)) _ passes in
    let thread = and_parts (has_thread setup (core_of_record c kept transfers)) _ result.1 in
    let steps = and_parts (has_steps setup kept.result (own_transfers c transfers)) _ thread.1 in
    let seen = and_parts (has_seen (initial_byte setup.image) c kept.ops kept.seen log) _ steps.1 in
    let turns = and_parts (passes_below (own_turn_at (ground_of_ended setup (core_of_record c kept transfers)) transfers) (length transfers)) _ seen.1 in
    let fit = and_parts (is_regular_core kept.result) _ turns.1 in
    record {
      result = shows_result-sound setup (core_of_record c kept transfers) result.0;
      thread = has_thread-sound setup (core_of_record c kept transfers) thread.0;
      steps = has_steps-sound setup kept.result (own_transfers c transfers) steps.0;
      seen = has_seen-sound (initial_byte setup.image) c kept.ops kept.seen log seen.0;
      account = account;
      completed = completed;
      turns = λ turn within. own_turn_at-sound (ground_of_ended setup (core_of_record c kept transfers)) transfers turn
          (passes_at (own_turn_at (ground_of_ended setup (core_of_record c kept transfers)) transfers) (length transfers) turns.0 turn within);
      core_fits = fit.0;
      ops_fit = fit.1;
      named = named;
      fates = fates;
    }

-- ---- of the bus

-- the fates of memory flips that the bus leaves
abbrev pub bus_fates : Setup → Trace → List Fate
bus_fates setup trace = flip_fates setup.flips (memory_after setup.flips (named_by_all setup trace) (on_bus setup trace)).words no_arrays

abbrev pub status_of : Trace → AhbStatus
status_of trace = record { addr = trace.ahb_addr; status = trace.ahb_status }

abbrev pub BusRecordOf : Setup → Trace → Type 0
BusRecordOf setup trace = BusRecordOk setup (log_of setup trace) (on_bus setup trace) (status_of trace) (bus_fates setup trace) (named_by_all setup trace)

abbrev core_share_at : Setup → List Transfer → ℕ → Bool
core_share_at setup transfers c = nat_le (length (own_transfers c transfers)) (setup.config.steps + 8)

abbrev entries_share_at : Setup → List Entry → ℕ → Bool
entries_share_at setup log c = nat_le (count_by (is_entry_of c) log) setup.config.steps

abbrev pub is_bus_record : Setup → List Entry → List Transfer → Bool
is_bus_record setup log transfers = list_all (leaves_text setup.image.text) log
    && (passes_below (once_transfer setup.config.cores transfers) (length transfers)
    && (passes_below (core_share_at setup transfers) setup.config.cores
    && (nat_le (length (own_transfers scrubber transfers)) setup.config.scrub_turns
    && (passes_below (entries_share_at setup log) setup.config.cores
    && (list_all is_regular_on_bus transfers && (list_all has_length transfers && list_all (is_in_memory setup.config.ram) transfers))))))

pub bus_record_ok : (setup : Setup) (log : List Entry) (transfers : List Transfer) (status : AhbStatus) (fates : List Fate) (named : List Word2)
    → is_bus_record setup log transfers ≡ true
    → map entry_placed log ≡ map transfer_placed (filter is_successful transfers)
    → (memory_after setup.flips named transfers).answers ≡ transfers
    → status ≡ status_after transfers
    → map turn_of transfers ≡ range_with_len 0 (length transfers)
    → fates ≡ flip_fates setup.flips (memory_after setup.flips named transfers).words no_arrays
    → BusRecordOk setup log transfers status fates named
bus_record_ok setup log transfers status fates named passes log_is answered status_is turns fates_are =
    let text = and_parts (list_all (leaves_text setup.image.text) log) _ passes in
    let masters = and_parts (passes_below (once_transfer setup.config.cores transfers) (length transfers)) _ text.1 in
    let shares = and_parts (passes_below (core_share_at setup transfers) setup.config.cores) _ masters.1 in
    let scrubs = and_parts (nat_le (length (own_transfers scrubber transfers)) setup.config.scrub_turns) _ shares.1 in
    let entries = and_parts (passes_below (entries_share_at setup log) setup.config.cores) _ scrubs.1 in
    let each = and_parts (list_all is_regular_on_bus transfers) _ entries.1 in
    let lengths = and_parts (list_all has_length transfers) _ each.1 in
    record {
      log_is = log_is;
      text = text.0;
      answered = answered;
      status_is = status_is;
      masters = λ i within. once_transfer-sound setup.config.cores transfers i
          (passes_at (once_transfer setup.config.cores transfers) (length transfers) masters.0 i within);
      core_share = λ c within. leb-true _ _ (passes_at (core_share_at setup transfers) setup.config.cores shares.0 c within);
      scrub_share = leb-true _ _ scrubs.0;
      entries_share = λ c within. leb-true _ _ (passes_at (entries_share_at setup log) setup.config.cores entries.0 c within);
      turns = turns;
      regular = each.0;
      lengths = lengths.0;
      in_memory = lengths.1;
      fates_are = fates_are;
    }
