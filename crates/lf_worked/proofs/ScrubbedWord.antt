-- A word noted by a look was stored whole before its fix.
use Rattle.std.specs.Prelude.{◌≡◌, refl}
use Rattle.lf_model.specs.Promise.Played.{IsPlayedBy}
use Rattle.lf_model.specs.Report.{report}
use Rattle.lf_worked.specs.Machine.{machine}
use Rattle.lf_worked.specs.ScrubbedWord.{scrubbed_word_setup, scrubbed_word_events, scrubbed_word_trace, scrubbed_word_text}
use Rattle.lf_worked.proofs.PromiseTest.{played}
use Rattle.lf_worked.proofs.RecordTest.{kept_of, log_of, on_bus, named_by_all}
use Rattle.lf_worked.proofs.RecordsTest.{RecordAt, BusRecordOf, status_of, bus_fates, record_ok, bus_record_ok}
use Rattle.lf_worked.proofs.AllRecordsTest.{AreRecordsOf, RecordOf, records, of_one}

scrubbed_word_report : report scrubbed_word_trace ≡ scrubbed_word_text
unfolding machine scrubbed_word_trace scrubbed_word_text
scrubbed_word_report = refl

scrubbed_word_played : IsPlayedBy scrubbed_word_setup scrubbed_word_events scrubbed_word_trace
unfolding machine scrubbed_word_setup scrubbed_word_events scrubbed_word_trace
scrubbed_word_played = played scrubbed_word_setup scrubbed_word_events scrubbed_word_trace refl

scrubbed_word_record_0 : RecordAt scrubbed_word_setup scrubbed_word_trace 0
unfolding machine scrubbed_word_setup scrubbed_word_trace
scrubbed_word_record_0 = record_ok scrubbed_word_setup 0 (kept_of scrubbed_word_setup scrubbed_word_trace 0) (log_of scrubbed_word_setup scrubbed_word_trace) (on_bus scrubbed_word_setup scrubbed_word_trace) refl refl refl refl refl

scrubbed_word_bus_record : BusRecordOf scrubbed_word_setup scrubbed_word_trace
unfolding machine scrubbed_word_setup scrubbed_word_trace
scrubbed_word_bus_record = bus_record_ok scrubbed_word_setup (log_of scrubbed_word_setup scrubbed_word_trace) (on_bus scrubbed_word_setup scrubbed_word_trace) (status_of scrubbed_word_trace) (bus_fates scrubbed_word_setup scrubbed_word_trace) (named_by_all scrubbed_word_setup scrubbed_word_trace)
    refl refl refl refl refl refl

scrubbed_word_records : AreRecordsOf scrubbed_word_setup scrubbed_word_trace
unfolding machine scrubbed_word_setup scrubbed_word_trace
scrubbed_word_records = records scrubbed_word_setup scrubbed_word_trace refl
    (of_one (RecordOf scrubbed_word_setup scrubbed_word_trace) scrubbed_word_record_0) scrubbed_word_bus_record refl refl
