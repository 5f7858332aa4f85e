-- Wrong records of a core and of the bus, each refused by one of their clauses, and records that are no more than asked for.
use Rattle.std.specs.Prelude.{ℕ, ◌≡◌, ◌+◌, refl, ◌∷◌, ◌++◌, [], List, length, slice_get, Some, None}
use Rattle.std.specs.Option.{option_map_or}
use Rattle.std.proofs.lemmas.Bool.{false≢true}
use Rattle.lf_model.specs.Bus.Status.{status_start}
use Rattle.lf_model.specs.Bus.Walk.{IsWholeWalk}
use Rattle.lf_model.specs.Ledger.FlipFate.{flip_fates}
use Rattle.lf_model.specs.Records.AllRecords.{watched_words}
use Rattle.lf_model.specs.Records.BusMemory.{memory_after}
use Rattle.lf_model.specs.Records.BusRecord.{BusRecordOk, no_arrays}
use Rattle.lf_model.specs.Records.CoreRecord.{RecordOk}
use Rattle.lf_model.specs.declared.bus.Transfer.{Transfer}
use Rattle.lf_model.specs.declared.bus.TurnKind.TheVariants as kinds
use Rattle.lf_model.specs.declared.bus.Why.TheVariants as whys
use Rattle.lf_model.specs.declared.flip.Flip.TheVariants as flips
use Rattle.lf_model.specs.declared.record.CoreRecord.{CoreRecord}
use Rattle.lf_model.specs.declared.trace.Fate.TheVariants as fates
use Rattle.lf_model.specs.declared.trace.Word2.{Word2}
use Rattle.lf_worked.specs.Edits.{at}
use Rattle.lf_worked.specs.Machine.{machine}
use Rattle.lf_worked.specs.Rows.{transfer, word}
use Rattle.lf_worked.proofs.Items.{differ}
use Rattle.lf_worked.proofs.Numerals.{lt}
use Rattle.lf_worked.proofs.RecordTest.{kept_of, log_of, on_bus, named_by_all}
use Rattle.lf_worked.specs.BadWordsWatched.{bad_words_watched_setup, bad_words_watched_trace}
use Rattle.lf_worked.specs.ByteOut.{byte_out_setup}
use Rattle.lf_worked.specs.CorrectedLoad.{corrected_load_setup, corrected_load_trace}
use Rattle.lf_worked.specs.LimitWithLastDrains.{limit_with_last_drains_setup, limit_with_last_drains_trace}
use Rattle.lf_worked.specs.ScrubbedWord.{scrubbed_word_setup, scrubbed_word_trace}
use Rattle.lf_worked.specs.StopAtLoad.{stop_at_load_setup, stop_at_load_trace}

abbrev words_of : Transfer → ℕ
words_of t = t.words

-- ---- of a core

-- a fill that read one word fewer
unfoldable seven_words : List Transfer
unfolding machine corrected_load_setup corrected_load_trace
seven_words = at 1 (transfer 1 0 3 kinds.Load whys.Absent 0x40001000 0 7 0x5800000000000000) (on_bus corrected_load_setup corrected_load_trace)

seven_words_refused : RecordOk corrected_load_setup 0 (kept_of corrected_load_setup corrected_load_trace 0) (log_of corrected_load_setup corrected_load_trace) seven_words → ⊥
unfolding machine corrected_load_setup corrected_load_trace seven_words
seven_words_refused h = differ words_of 8 7 refl refl refl (h.turns 1 (lt 1 2 refl) refl).placed

-- a store of a word that read one
unfoldable store_that_reads : List Transfer
unfolding machine limit_with_last_drains_setup limit_with_last_drains_trace
store_that_reads = at 1 (record (transfer 1 0 4 kinds.Store whys.End 0x40001000 0 1 0) { len = 4 }) (on_bus limit_with_last_drains_setup limit_with_last_drains_trace)

store_that_reads_refused : RecordOk limit_with_last_drains_setup 0 (kept_of limit_with_last_drains_setup limit_with_last_drains_trace 0)
    (log_of limit_with_last_drains_setup limit_with_last_drains_trace) store_that_reads → ⊥
unfolding machine limit_with_last_drains_setup limit_with_last_drains_trace store_that_reads
store_that_reads_refused h = differ words_of 0 1 refl refl refl (h.turns 1 (lt 1 3 refl) refl).placed

-- a load that saw an entry of the log, which has none
unfoldable load_that_saw : CoreRecord
unfolding machine corrected_load_setup corrected_load_trace
load_that_saw = record (kept_of corrected_load_setup corrected_load_trace 0) { seen = 1 ∷ [] }

load_that_saw_refused : RecordOk corrected_load_setup 0 load_that_saw (log_of corrected_load_setup corrected_load_trace) (on_bus corrected_load_setup corrected_load_trace) → ⊥
unfolding machine corrected_load_setup corrected_load_trace load_that_saw
load_that_saw_refused h = differ (λ cs. option_map_or (λ c. c.seen) (slice_get cs 0) 0) 0 1 refl refl refl h.completed

-- a stop whose word isn't named
unfoldable stop_without_a_name : CoreRecord
unfolding machine stop_at_load_setup stop_at_load_trace
stop_without_a_name = record (kept_of stop_at_load_setup stop_at_load_trace 0) { named = [] }

stop_without_a_name_refused : RecordOk stop_at_load_setup 0 stop_without_a_name (log_of stop_at_load_setup stop_at_load_trace) (on_bus stop_at_load_setup stop_at_load_trace) → ⊥
unfolding machine stop_at_load_setup stop_at_load_trace stop_without_a_name
stop_without_a_name_refused h = differ length 0 1 refl refl refl h.named

-- ---- of the bus

-- a part store at address 0, which is not in RAM, with no word read and no entry
unfoldable store_at_no_address : List Transfer
store_at_no_address = record (transfer 0 0 0 kinds.Store whys.Full 0x00000000 0 0 0) { len = 2 } ∷ []

store_at_no_address_refused : BusRecordOk byte_out_setup [] store_at_no_address status_start [] [] → ⊥
unfolding machine byte_out_setup store_at_no_address
store_at_no_address_refused h = differ (λ ts. option_map_or words_of (slice_get ts 0) 0) 1 0 refl refl refl h.answered

-- nor with its word read: it has no entry, and isn't in RAM
unfoldable store_that_reads_there : List Transfer
store_that_reads_there = record (transfer 0 0 0 kinds.Store whys.Full 0x00000000 0 1 0) { len = 2 } ∷ []

store_that_reads_there_refused : BusRecordOk byte_out_setup [] store_that_reads_there status_start [] [] → ⊥
unfolding machine byte_out_setup store_that_reads_there
store_that_reads_there_refused h = differ length 0 1 refl refl refl h.log_is

store_that_reads_there_refused_2 : BusRecordOk byte_out_setup [] store_that_reads_there status_start [] [] → ⊥
unfolding machine byte_out_setup store_that_reads_there
store_that_reads_there_refused_2 h = false≢true h.in_memory

-- two words that error traps name at one turn: the flips of both are stopped
unfoldable two_names : List Word2
two_names = word 0x40001000 (Some 0) ∷ word 0x40001004 (Some 0) ∷ []

two_names_are_stopped : flip_fates (flips.Mem 0 0x40001000 0 ∷ flips.Mem 0 0x40001004 0 ∷ [])
    (memory_after (flips.Mem 0 0x40001000 0 ∷ flips.Mem 0 0x40001004 0 ∷ []) two_names (transfer 0 0 0 kinds.Load whys.Absent 0x40001000 0 8 0 ∷ [])).words no_arrays
    ≡ fates.Stopped ∷ fates.Stopped ∷ []
unfolding machine two_names
two_names_are_stopped = refl

-- ---- of all

-- a look more than the scrubber has turns
look_too_many_walked : IsWholeWalk scrubbed_word_setup.config.scrub scrubbed_word_setup.config.scrub_turns
    (on_bus scrubbed_word_setup scrubbed_word_trace ++ transfer 4 8 2 kinds.Look whys.None 0x40001000 0 8 0 ∷ []) → ⊥
unfolding machine scrubbed_word_setup scrubbed_word_trace
look_too_many_walked h = differ (λ n. n) 3 2 refl refl refl h.all

-- a look at the line after the last one of the range
look_past_the_range : IsWholeWalk scrubbed_word_setup.config.scrub 3
    (on_bus scrubbed_word_setup scrubbed_word_trace ++ transfer 4 8 2 kinds.Look whys.None 0x40001020 0 8 0 ∷ []) → ⊥
unfolding machine scrubbed_word_setup scrubbed_word_trace
look_past_the_range h = differ (λ t. t.addr) 0x40001000 0x40001020 refl refl refl (h.each 4 (lt 4 5 refl) refl)

-- a value of a watched word that is bad
value_of_a_bad_word : word 0x40001000 (Some 0x00000000) ∷ word 0x40001004 None ∷ []
    ≡ watched_words bad_words_watched_setup (log_of bad_words_watched_setup bad_words_watched_trace) (named_by_all bad_words_watched_setup bad_words_watched_trace)
    (on_bus bad_words_watched_setup bad_words_watched_trace) → ⊥
unfolding machine bad_words_watched_setup bad_words_watched_trace
value_of_a_bad_word h = differ (λ ws. option_map_or (λ (w : Word2). option_map_or (λ v. v + 1) w.value 0) (slice_get ws 0) 0) 1 0 refl refl refl h
