-- LDD looks at both its words: a struck byte of the second drops the line.
use Rattle.std.specs.Prelude.{◌≡◌, refl}
use Rattle.lf_model.specs.Promise.Played.{IsPlayedBy}
use Rattle.lf_model.specs.Report.{report}
use Rattle.lf_worked.specs.Machine.{machine}
use Rattle.lf_worked.specs.SecondWordStruck.{second_word_struck_setup, second_word_struck_events, second_word_struck_trace, second_word_struck_text}
use Rattle.lf_worked.proofs.PromiseTest.{played}
use Rattle.lf_worked.proofs.RecordTest.{kept_of, log_of, on_bus, named_by_all}
use Rattle.lf_worked.proofs.RecordsTest.{RecordAt, BusRecordOf, status_of, bus_fates, record_ok, bus_record_ok}
use Rattle.lf_worked.proofs.AllRecordsTest.{AreRecordsOf, RecordOf, records, of_one}

second_word_struck_report : report second_word_struck_trace ≡ second_word_struck_text
unfolding machine second_word_struck_trace second_word_struck_text
second_word_struck_report = refl

second_word_struck_played : IsPlayedBy second_word_struck_setup second_word_struck_events second_word_struck_trace
unfolding machine second_word_struck_setup second_word_struck_events second_word_struck_trace
second_word_struck_played = played second_word_struck_setup second_word_struck_events second_word_struck_trace refl

second_word_struck_record_0 : RecordAt second_word_struck_setup second_word_struck_trace 0
unfolding machine second_word_struck_setup second_word_struck_trace
second_word_struck_record_0 = record_ok second_word_struck_setup 0 (kept_of second_word_struck_setup second_word_struck_trace 0) (log_of second_word_struck_setup second_word_struck_trace) (on_bus second_word_struck_setup second_word_struck_trace) refl refl refl refl refl

second_word_struck_bus_record : BusRecordOf second_word_struck_setup second_word_struck_trace
unfolding machine second_word_struck_setup second_word_struck_trace
second_word_struck_bus_record = bus_record_ok second_word_struck_setup (log_of second_word_struck_setup second_word_struck_trace) (on_bus second_word_struck_setup second_word_struck_trace) (status_of second_word_struck_trace) (bus_fates second_word_struck_setup second_word_struck_trace) (named_by_all second_word_struck_setup second_word_struck_trace)
    refl refl refl refl refl refl

second_word_struck_records : AreRecordsOf second_word_struck_setup second_word_struck_trace
unfolding machine second_word_struck_setup second_word_struck_trace
second_word_struck_records = records second_word_struck_setup second_word_struck_trace refl
    (of_one (RecordOf second_word_struck_setup second_word_struck_trace) second_word_struck_record_0) second_word_struck_bus_record refl refl
