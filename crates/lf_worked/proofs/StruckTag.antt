-- A struck tag byte drops its line, and the load fills it again by `tag`.
use Rattle.std.specs.Prelude.{◌≡◌, refl}
use Rattle.lf_model.specs.Promise.Played.{IsPlayedBy}
use Rattle.lf_model.specs.Report.{report}
use Rattle.lf_worked.specs.Machine.{machine}
use Rattle.lf_worked.specs.StruckTag.{struck_tag_setup, struck_tag_events, struck_tag_trace, struck_tag_text}
use Rattle.lf_worked.proofs.PromiseTest.{played}
use Rattle.lf_worked.proofs.RecordTest.{kept_of, log_of, on_bus, named_by_all}
use Rattle.lf_worked.proofs.RecordsTest.{RecordAt, BusRecordOf, status_of, bus_fates, record_ok, bus_record_ok}
use Rattle.lf_worked.proofs.AllRecordsTest.{AreRecordsOf, RecordOf, records, of_one}

struck_tag_report : report struck_tag_trace ≡ struck_tag_text
unfolding machine struck_tag_trace struck_tag_text
struck_tag_report = refl

struck_tag_played : IsPlayedBy struck_tag_setup struck_tag_events struck_tag_trace
unfolding machine struck_tag_setup struck_tag_events struck_tag_trace
struck_tag_played = played struck_tag_setup struck_tag_events struck_tag_trace refl

struck_tag_record_0 : RecordAt struck_tag_setup struck_tag_trace 0
unfolding machine struck_tag_setup struck_tag_trace
struck_tag_record_0 = record_ok struck_tag_setup 0 (kept_of struck_tag_setup struck_tag_trace 0) (log_of struck_tag_setup struck_tag_trace) (on_bus struck_tag_setup struck_tag_trace) refl refl refl refl refl

struck_tag_bus_record : BusRecordOf struck_tag_setup struck_tag_trace
unfolding machine struck_tag_setup struck_tag_trace
struck_tag_bus_record = bus_record_ok struck_tag_setup (log_of struck_tag_setup struck_tag_trace) (on_bus struck_tag_setup struck_tag_trace) (status_of struck_tag_trace) (bus_fates struck_tag_setup struck_tag_trace) (named_by_all struck_tag_setup struck_tag_trace)
    refl refl refl refl refl refl

struck_tag_records : AreRecordsOf struck_tag_setup struck_tag_trace
unfolding machine struck_tag_setup struck_tag_trace
struck_tag_records = records struck_tag_setup struck_tag_trace refl
    (of_one (RecordOf struck_tag_setup struck_tag_trace) struck_tag_record_0) struck_tag_bus_record refl refl
