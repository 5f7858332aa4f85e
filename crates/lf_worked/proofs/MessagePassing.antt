-- A core that sees the new flag sees the new data too.
use Rattle.std.specs.Prelude.{◌≡◌, refl}
use Rattle.lf_model.specs.Promise.Played.{IsPlayedBy}
use Rattle.lf_model.specs.Report.{report}
use Rattle.lf_worked.specs.Machine.{machine}
use Rattle.lf_worked.specs.MessagePassing.{message_passing_setup, message_passing_events, message_passing_trace, message_passing_text}
use Rattle.lf_worked.proofs.PromiseTest.{played}
use Rattle.lf_worked.proofs.RecordTest.{kept_of, log_of, on_bus, named_by_all}
use Rattle.lf_worked.proofs.RecordsTest.{RecordAt, BusRecordOf, status_of, bus_fates, record_ok, bus_record_ok}
use Rattle.lf_worked.proofs.AllRecordsTest.{AreRecordsOf, RecordOf, records, of_two}

message_passing_report : report message_passing_trace ≡ message_passing_text
unfolding machine message_passing_trace message_passing_text
message_passing_report = refl

message_passing_played : IsPlayedBy message_passing_setup message_passing_events message_passing_trace
unfolding machine message_passing_setup message_passing_events message_passing_trace
message_passing_played = played message_passing_setup message_passing_events message_passing_trace refl

message_passing_record_0 : RecordAt message_passing_setup message_passing_trace 0
unfolding machine message_passing_setup message_passing_trace
message_passing_record_0 = record_ok message_passing_setup 0 (kept_of message_passing_setup message_passing_trace 0) (log_of message_passing_setup message_passing_trace) (on_bus message_passing_setup message_passing_trace) refl refl refl refl refl

message_passing_record_1 : RecordAt message_passing_setup message_passing_trace 1
unfolding machine message_passing_setup message_passing_trace
message_passing_record_1 = record_ok message_passing_setup 1 (kept_of message_passing_setup message_passing_trace 1) (log_of message_passing_setup message_passing_trace) (on_bus message_passing_setup message_passing_trace) refl refl refl refl refl

message_passing_bus_record : BusRecordOf message_passing_setup message_passing_trace
unfolding machine message_passing_setup message_passing_trace
message_passing_bus_record = bus_record_ok message_passing_setup (log_of message_passing_setup message_passing_trace) (on_bus message_passing_setup message_passing_trace) (status_of message_passing_trace) (bus_fates message_passing_setup message_passing_trace) (named_by_all message_passing_setup message_passing_trace)
    refl refl refl refl refl refl

message_passing_records : AreRecordsOf message_passing_setup message_passing_trace
unfolding machine message_passing_setup message_passing_trace
message_passing_records = records message_passing_setup message_passing_trace refl
    (of_two (RecordOf message_passing_setup message_passing_trace) message_passing_record_0 message_passing_record_1) message_passing_bus_record refl refl
