-- Four struck bytes of a wanted word drop their line once, and the load fills it again by `data`.
use Rattle.std.specs.Prelude.{◌≡◌, refl}
use Rattle.lf_model.specs.Promise.Played.{IsPlayedBy}
use Rattle.lf_model.specs.Report.{report}
use Rattle.lf_worked.specs.Machine.{machine}
use Rattle.lf_worked.specs.StruckLine.{struck_line_setup, struck_line_events, struck_line_trace, struck_line_text}
use Rattle.lf_worked.proofs.PromiseTest.{played}
use Rattle.lf_worked.proofs.RecordTest.{kept_of, log_of, on_bus, named_by_all}
use Rattle.lf_worked.proofs.RecordsTest.{RecordAt, BusRecordOf, status_of, bus_fates, record_ok, bus_record_ok}
use Rattle.lf_worked.proofs.AllRecordsTest.{AreRecordsOf, RecordOf, records, of_one}

struck_line_report : report struck_line_trace ≡ struck_line_text
unfolding machine struck_line_trace struck_line_text
struck_line_report = refl

struck_line_played : IsPlayedBy struck_line_setup struck_line_events struck_line_trace
unfolding machine struck_line_setup struck_line_events struck_line_trace
struck_line_played = played struck_line_setup struck_line_events struck_line_trace refl

struck_line_record_0 : RecordAt struck_line_setup struck_line_trace 0
unfolding machine struck_line_setup struck_line_trace
struck_line_record_0 = record_ok struck_line_setup 0 (kept_of struck_line_setup struck_line_trace 0) (log_of struck_line_setup struck_line_trace) (on_bus struck_line_setup struck_line_trace) refl refl refl refl refl

struck_line_bus_record : BusRecordOf struck_line_setup struck_line_trace
unfolding machine struck_line_setup struck_line_trace
struck_line_bus_record = bus_record_ok struck_line_setup (log_of struck_line_setup struck_line_trace) (on_bus struck_line_setup struck_line_trace) (status_of struck_line_trace) (bus_fates struck_line_setup struck_line_trace) (named_by_all struck_line_setup struck_line_trace)
    refl refl refl refl refl refl

struck_line_records : AreRecordsOf struck_line_setup struck_line_trace
unfolding machine struck_line_setup struck_line_trace
struck_line_records = records struck_line_setup struck_line_trace refl
    (of_one (RecordOf struck_line_setup struck_line_trace) struck_line_record_0) struck_line_bus_record refl refl
