-- Whether all records of a worked report are right together: each core's and the bus's, the walk of the scrubber, and the watched
-- words.
use Rattle.std.proofs.Common.{ℕ, zero, suc, ◌≡◌, ◌<◌, ◌&&◌, Bool, true, arith, List, length, map, slice_get}
use Rattle.std.specs.Prelude.{◌==◌}
use Rattle.std.specs.List.{range_with_len}
use Rattle.std.specs.Option.{option_map_or}
use Rattle.std.proofs.lemmas.Bool.{eqb-true, eq-eqb, and_parts}
use Rattle.lf_model.specs.Bus.Walk.{Walk, scrubber, next_transfer, walk_after, WalkAt, IsWholeWalk}
use Rattle.lf_model.specs.Ledger.Same.{same_transfer}
use Rattle.lf_model.specs.Records.AllRecords.{AreRecordsOk, words_named_by_all, watched_words}
use Rattle.lf_model.specs.Records.AllRecords.{RecordAt as RecordIn}
use Rattle.lf_model.specs.Records.BusRecord.{BusRecordOk}
use Rattle.lf_model.specs.declared.bus.Transfer.{Transfer}
use Rattle.lf_model.specs.declared.image.Range.{Range}
use Rattle.lf_model.specs.declared.record.CoreRecord.{CoreRecord}
use Rattle.lf_model.specs.declared.setup.Setup.{Setup}
use Rattle.lf_model.specs.declared.trace.Trace.{Trace}
use Rattle.lf_worked.proofs.LedgerTest.{is_same_transfer}
use Rattle.lf_worked.proofs.Numerals.{passes_below, passes_at}
use Rattle.lf_worked.proofs.RecordTest.{kept_of, log_of, on_bus}
use Rattle.lf_worked.proofs.RecordsTest.{status_of, bus_fates}
use Rattle.lf_worked.proofs.Tests.{implies, implied, holds_if_some}
use Rattle.std.specs.Prelude.{take}

-- ---- the walk of the scrubber

abbrev is_next : ℕ → Walk → Transfer → Bool
is_next turn w t = implies (t.master == scrubber) (same_transfer (record (next_transfer turn w w.noted) { words = t.words; syn = t.syn }) t)

abbrev walk_at : Range → List Transfer → ℕ → Bool
walk_at range transfers turn = option_map_or (is_next turn (walk_after range (take turn transfers))) (slice_get transfers turn) true

walk_at-sound : (range : Range) (transfers : List Transfer) (turn : ℕ) → walk_at range transfers turn ≡ true → WalkAt range transfers turn
walk_at-sound range transfers turn passes = holds_if_some (is_next turn (walk_after range (take turn transfers))) _
    (λ t holds own. is_same_transfer _ t (implied (t.master == scrubber) _ holds (eq-eqb t.master scrubber own))) (slice_get transfers turn) passes

abbrev pub is_whole_walk : Range → ℕ → List Transfer → Bool
is_whole_walk range turns transfers = passes_below (walk_at range transfers) (length transfers) && ((walk_after range transfers).turns == turns)

pub whole_walk : (range : Range) (turns : ℕ) (transfers : List Transfer) → is_whole_walk range turns transfers ≡ true → IsWholeWalk range turns transfers
whole_walk range turns transfers passes = let parts = and_parts (passes_below (walk_at range transfers) (length transfers)) _ passes in
    record {
      each = λ turn within. walk_at-sound range transfers turn (passes_at (walk_at range transfers) (length transfers) parts.0 turn within);
      all = eqb-true _ _ parts.1;
    }

-- ---- what holds of each of a few cores

pub of_one : (P : ℕ → Type 0) → P 0 → (c : ℕ) → c < 1 → P c
of_one P p zero within = p
of_one P p (suc c) within = absurd (omega (arith, within))

pub of_two : (P : ℕ → Type 0) → P 0 → P 1 → (c : ℕ) → c < 2 → P c
of_two P p q zero within = p
of_two P p q (suc c) within = of_one (λ c. P (suc c)) q c (omega (arith, within))

pub of_three : (P : ℕ → Type 0) → P 0 → P 1 → P 2 → (c : ℕ) → c < 3 → P c
of_three P p q r zero within = p
of_three P p q r (suc c) within = of_two (λ c. P (suc c)) q r c (omega (arith, within))

-- ---- all records

abbrev pub records_of : Setup → Trace → List CoreRecord
records_of setup trace = map (kept_of setup trace) (range_with_len 0 setup.config.cores)

abbrev pub AreRecordsOf : Setup → Trace → Type 0
AreRecordsOf setup trace = AreRecordsOk setup (records_of setup trace) (log_of setup trace) (on_bus setup trace) (status_of trace) (bus_fates setup trace) trace.watch

abbrev pub RecordOf : Setup → Trace → ℕ → Type 0
RecordOf setup trace c = RecordIn setup (records_of setup trace) (log_of setup trace) (on_bus setup trace) c

pub records : (setup : Setup) (trace : Trace)
    → length (records_of setup trace) ≡ setup.config.cores
    → ((c : ℕ) → c < setup.config.cores → RecordOf setup trace c)
    → BusRecordOk setup (log_of setup trace) (on_bus setup trace) (status_of trace) (bus_fates setup trace) (words_named_by_all (records_of setup trace))
    → is_whole_walk setup.config.scrub setup.config.scrub_turns (on_bus setup trace) ≡ true
    → trace.watch ≡ watched_words setup (log_of setup trace) (words_named_by_all (records_of setup trace)) (on_bus setup trace)
    → AreRecordsOf setup trace
records setup trace one_each cores bus walk watch = record {
  one_each = one_each;
  cores = cores;
  bus = bus;
  walk = whole_walk setup.config.scrub setup.config.scrub_turns (on_bus setup trace) walk;
  watch_is = watch;
}
