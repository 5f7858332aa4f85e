-- Whether all that is promised of a run holds of a trace, by a test that computes.
use Rattle.std.proofs.Common.{ℕ, ◌≡◌, ◌&&◌, nat_le, Bool, true, false, refl, ap, List, length, map, slice_get, Option, Some, None}
use Rattle.std.specs.Prelude.{◌==◌, is_none}
use Rattle.std.specs.List.{list_all, range_with_len}
use Rattle.std.specs.Option.{option_map_or}
use Rattle.std.proofs.lemmas.Bool.{eqb-true, leb-true, and_parts, false≢true}
use Rattle.lf_model.specs.Bus.Replay.{Core}
use Rattle.lf_model.specs.Course.Progress.{ErrorTrap}
use Rattle.lf_model.specs.Ledger.Account.{replay_of, is_bad_at}
use Rattle.lf_model.specs.Ledger.CoreAccount.{blank_registers, errors_reported}
use Rattle.lf_model.specs.Ledger.Same.{same_bool, same_number, same_option, same_error}
use Rattle.lf_model.specs.Ledger.Steps.{own_transfers}
use Rattle.lf_model.specs.Promise.Follows.{Follows, turns_of}
use Rattle.lf_model.specs.Promise.Headline.{Headline, HasStopCause, HasBlanks, StopCauseAt, BlankAt, WatchAt}
use Rattle.lf_model.specs.Promise.Played.{IsPlayedBy}
use Rattle.lf_model.specs.Promise.Regular.{IsRegular, is_regular_core, is_regular_op, is_regular_word, steps_fit, turn_of}
use Rattle.lf_model.specs.Promise.RegularTransfer.{fits_word, is_regular_transfer}
use Rattle.lf_model.specs.Promise.Turns.{TurnMade, turn_of_transfer}
use Rattle.lf_model.specs.declared.setup.Event.{Event}
use Rattle.lf_model.specs.declared.setup.Setup.{Setup}
use Rattle.lf_model.specs.declared.trace.CoreResult.{CoreResult}
use Rattle.lf_model.specs.declared.trace.Trace.{Trace}
use Rattle.lf_model.specs.declared.trace.Word2.{Word2}
use Rattle.lf_worked.proofs.Numerals.{passes_below, passes_at}
use Rattle.lf_worked.proofs.Tests.{holds_if_some, same_list, is_same_list, same_numbers, is_same_numbers}
use Rattle.lf_worked.proofs.ExecutionTest.{is_execution, execution}
use Rattle.lf_worked.proofs.ResultsTest.{result_at, result_at-sound, word_at_end, word_at_end-sound}
use Rattle.lf_worked.proofs.LedgerTest.{keeps_ledger, ledger}

pub is_same_bool : (a b : Bool) → same_bool a b ≡ true → a ≡ b
is_same_bool true true passes = refl
is_same_bool false false passes = refl
is_same_bool true false passes = absurd (false≢true passes)
is_same_bool false true passes = absurd (false≢true passes)

is_same_turn_count : (x y : Option ℕ) → same_option same_number x y ≡ true → x ≡ y
is_same_turn_count None None passes = refl
is_same_turn_count (Some x) (Some y) passes = ap Some (eqb-true x y passes)
is_same_turn_count None (Some y) passes = absurd (false≢true passes)
is_same_turn_count (Some x) None passes = absurd (false≢true passes)

pub is_same_error : (a b : ErrorTrap) → same_error a b ≡ true → a ≡ b
is_same_error a b passes =
    let trap_type = and_parts (a.trap_type == b.trap_type) _ passes in
    let place = and_parts (a.place == b.place) _ trap_type.1 in
    let syndrome = and_parts (a.syndrome == b.syndrome) _ place.1 in
    let steps = and_parts (a.steps == b.steps) _ syndrome.1 in
    λ i. record {
      trap_type = eqb-true a.trap_type b.trap_type trap_type.0 i;
      place = eqb-true a.place b.place place.0 i;
      syndrome = eqb-true a.syndrome b.syndrome syndrome.0 i;
      steps = eqb-true a.steps b.steps steps.0 i;
      turns = is_same_turn_count a.turns b.turns steps.1 i;
    }

-- ---- causes of stops, and blanks

abbrev met : ℕ → Trace → CoreResult → Core → Bool
met c trace r k = same_list same_error k.progress.errors (errors_reported r.end r.steps (length (own_transfers c trace.transfers)))

met-sound : (c : ℕ) (trace : Trace) (r : CoreResult) (k : Core) → met c trace r k ≡ true → HasStopCause c trace r k
met-sound c trace r k passes = record { met = is_same_list same_error is_same_error k.progress.errors _ passes }

abbrev blank : CoreResult → Core → Bool
blank r k = same_list same_bool (map is_none r.regs) (blank_registers k.progress)

blank-sound : (r : CoreResult) (k : Core) → blank r k ≡ true → HasBlanks r k
blank-sound r k passes = record { registers = is_same_list same_bool is_same_bool (map is_none r.regs) _ passes }

abbrev stop_cause_at : Setup → Trace → ℕ → Bool
stop_cause_at setup trace c = option_map_or (λ r. option_map_or (met c trace r) (slice_get (replay_of setup trace).cores c) true) (slice_get trace.cores c) true

stop_cause_at-sound : (setup : Setup) (trace : Trace) (c : ℕ) → stop_cause_at setup trace c ≡ true → StopCauseAt setup trace c
stop_cause_at-sound setup trace c passes = holds_if_some _ _
    (λ r. holds_if_some (met c trace r) (HasStopCause c trace r) (met-sound c trace r) (slice_get (replay_of setup trace).cores c))
    (slice_get trace.cores c) passes

abbrev blank_at : Setup → Trace → ℕ → Bool
blank_at setup trace c = option_map_or (λ r. option_map_or (blank r) (slice_get (replay_of setup trace).cores c) true) (slice_get trace.cores c) true

blank_at-sound : (setup : Setup) (trace : Trace) (c : ℕ) → blank_at setup trace c ≡ true → BlankAt setup trace c
blank_at-sound setup trace c passes = holds_if_some _ _
    (λ r. holds_if_some (blank r) (HasBlanks r) (blank-sound r) (slice_get (replay_of setup trace).cores c)) (slice_get trace.cores c) passes

abbrev watched : Setup → Trace → Word2 → Bool
watched setup trace word = same_bool (is_none word.value) (is_bad_at (replay_of setup trace).words word.addr)

abbrev watch_at : Setup → Trace → ℕ → Bool
watch_at setup trace i = option_map_or (watched setup trace) (slice_get trace.watch i) true

watch_at-sound : (setup : Setup) (trace : Trace) (i : ℕ) → watch_at setup trace i ≡ true → WatchAt setup trace i
watch_at-sound setup trace i passes = holds_if_some (watched setup trace) (λ word. is_none word.value ≡ is_bad_at (replay_of setup trace).words word.addr)
    (λ word. is_same_bool (is_none word.value) _) (slice_get trace.watch i) passes

-- ---- the headline

abbrev pub is_headline : Setup → Trace → Bool
is_headline setup trace = is_execution setup trace
    && (passes_below (result_at setup trace) setup.config.cores
    && (passes_below (word_at_end setup trace) (length trace.watch)
    && (passes_below (stop_cause_at setup trace) setup.config.cores
    && (passes_below (blank_at setup trace) setup.config.cores
    && passes_below (watch_at setup trace) (length trace.watch)))))

pub headline : (setup : Setup) (trace : Trace) → is_headline setup trace ≡ true → Headline setup trace
headline setup trace passes =
    let is = and_parts (is_execution setup trace) _ passes in
    let has = and_parts (passes_below (result_at setup trace) setup.config.cores) _ is.1 in
    let last = and_parts (passes_below (word_at_end setup trace) (length trace.watch)) _ has.1 in
    let stops = and_parts (passes_below (stop_cause_at setup trace) setup.config.cores) _ last.1 in
    let blanks = and_parts (passes_below (blank_at setup trace) setup.config.cores) _ stops.1 in
    record {
      execution = execution setup trace is.0;
      results = λ c within. result_at-sound setup trace c (passes_at (result_at setup trace) setup.config.cores has.0 c within);
      words = λ i within. word_at_end-sound setup trace i (passes_at (word_at_end setup trace) (length trace.watch) last.0 i within);
      stops = λ c within. stop_cause_at-sound setup trace c (passes_at (stop_cause_at setup trace) setup.config.cores stops.0 c within);
      blanks = λ c within. blank_at-sound setup trace c (passes_at (blank_at setup trace) setup.config.cores blanks.0 c within);
      watched = λ i within. watch_at-sound setup trace i (passes_at (watch_at setup trace) (length trace.watch) blanks.1 i within);
    }

-- ---- the schedule

abbrev same_turn : TurnMade → TurnMade → Bool
same_turn a b = (a.master == b.master) && same_bool a.scheduled b.scheduled

is_same_turn : (a b : TurnMade) → same_turn a b ≡ true → a ≡ b
is_same_turn a b passes = let parts = and_parts (a.master == b.master) _ passes in
    λ i. record { master = eqb-true a.master b.master parts.0 i; scheduled = is_same_bool a.scheduled b.scheduled parts.1 i }

abbrev pub does_follow : Setup → List Event → Trace → Bool
does_follow setup events trace = same_list same_turn (turns_of setup events trace) (map turn_of_transfer trace.transfers)

pub follows : (setup : Setup) (events : List Event) (trace : Trace) → does_follow setup events trace ≡ true → Follows setup events trace
follows setup events trace passes = record { turns = is_same_list same_turn is_same_turn (turns_of setup events trace) _ passes }

-- ---- regular traces

abbrev pub is_regular : Trace → Bool
is_regular trace = nat_le 1 (length trace.cores)
    && (nat_le (length trace.cores) 8
    && (list_all (steps_fit (length trace.cores)) trace.cores
    && (nat_le (length trace.transfers) 5000064
    && (nat_le (length trace.order) 4000000
    && (nat_le (length trace.fates) 65536
    && (nat_le (length trace.watch) 64
    && (list_all is_regular_core trace.cores
    && ((fits_word trace.ahb_addr && fits_word trace.ahb_status)
    && (same_numbers (map turn_of trace.transfers) (range_with_len 0 (length trace.transfers))
    && (list_all is_regular_transfer trace.transfers
    && (list_all is_regular_op trace.order
    && list_all is_regular_word trace.watch)))))))))))

pub regular : (trace : Trace) → is_regular trace ≡ true → IsRegular trace
regular trace passes =
    let some = and_parts (nat_le 1 (length trace.cores)) _ passes in
    let few = and_parts (nat_le (length trace.cores) 8) _ some.1 in
    let steps = and_parts (list_all (steps_fit (length trace.cores)) trace.cores) _ few.1 in
    let transfers = and_parts (nat_le (length trace.transfers) 5000064) _ steps.1 in
    let operations = and_parts (nat_le (length trace.order) 4000000) _ transfers.1 in
    let fates = and_parts (nat_le (length trace.fates) 65536) _ operations.1 in
    let words = and_parts (nat_le (length trace.watch) 64) _ fates.1 in
    let each_core = and_parts (list_all is_regular_core trace.cores) _ words.1 in
    let status = and_parts (fits_word trace.ahb_addr && fits_word trace.ahb_status) _ each_core.1 in
    let turns = and_parts (same_numbers (map turn_of trace.transfers) (range_with_len 0 (length trace.transfers))) _ status.1 in
    let each_transfer = and_parts (list_all is_regular_transfer trace.transfers) _ turns.1 in
    let each_operation = and_parts (list_all is_regular_op trace.order) _ each_transfer.1 in
    record {
      some_core = leb-true _ _ some.0;
      few_cores = leb-true _ _ few.0;
      few_steps = steps.0;
      few_transfers = leb-true _ _ transfers.0;
      few_operations = leb-true _ _ operations.0;
      few_fates = leb-true _ _ fates.0;
      few_words = leb-true _ _ words.0;
      cores = each_core.0;
      status = status.0;
      turns = is_same_numbers _ _ turns.0;
      transfers = each_transfer.0;
      operations = each_operation.0;
      words = each_operation.1;
    }

-- ---- the promise

abbrev pub is_played : Setup → List Event → Trace → Bool
is_played setup events trace = is_headline setup trace && (keeps_ledger setup trace && (does_follow setup events trace && is_regular trace))

pub played : (setup : Setup) (events : List Event) (trace : Trace) → is_played setup events trace ≡ true → IsPlayedBy setup events trace
played setup events trace passes =
    let first = and_parts (is_headline setup trace) _ passes in
    let kept = and_parts (keeps_ledger setup trace) _ first.1 in
    let order = and_parts (does_follow setup events trace) _ kept.1 in
    record {
      headline = headline setup trace first.0;
      ledger = ledger setup trace kept.0;
      follows = follows setup events trace order.0;
      regular = regular trace order.1;
    }
