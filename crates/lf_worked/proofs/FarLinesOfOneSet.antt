-- Two lines of one set whose addresses differ in bit 16 alone.
use Rattle.std.specs.Prelude.{◌≡◌, refl}
use Rattle.lf_model.specs.Promise.Played.{IsPlayedBy}
use Rattle.lf_model.specs.Report.{report}
use Rattle.lf_worked.specs.Machine.{machine}
use Rattle.lf_worked.specs.FarLinesOfOneSet.{far_lines_of_one_set_setup, far_lines_of_one_set_events, far_lines_of_one_set_trace, far_lines_of_one_set_text}
use Rattle.lf_worked.proofs.PromiseTest.{played}
use Rattle.lf_worked.proofs.RecordTest.{kept_of, log_of, on_bus, named_by_all}
use Rattle.lf_worked.proofs.RecordsTest.{RecordAt, BusRecordOf, status_of, bus_fates, record_ok, bus_record_ok}
use Rattle.lf_worked.proofs.AllRecordsTest.{AreRecordsOf, RecordOf, records, of_one}

far_lines_of_one_set_report : report far_lines_of_one_set_trace ≡ far_lines_of_one_set_text
unfolding machine far_lines_of_one_set_trace far_lines_of_one_set_text
far_lines_of_one_set_report = refl

far_lines_of_one_set_played : IsPlayedBy far_lines_of_one_set_setup far_lines_of_one_set_events far_lines_of_one_set_trace
unfolding machine far_lines_of_one_set_setup far_lines_of_one_set_events far_lines_of_one_set_trace
far_lines_of_one_set_played = played far_lines_of_one_set_setup far_lines_of_one_set_events far_lines_of_one_set_trace refl

far_lines_of_one_set_record_0 : RecordAt far_lines_of_one_set_setup far_lines_of_one_set_trace 0
unfolding machine far_lines_of_one_set_setup far_lines_of_one_set_trace
far_lines_of_one_set_record_0 = record_ok far_lines_of_one_set_setup 0 (kept_of far_lines_of_one_set_setup far_lines_of_one_set_trace 0) (log_of far_lines_of_one_set_setup far_lines_of_one_set_trace) (on_bus far_lines_of_one_set_setup far_lines_of_one_set_trace) refl refl refl refl refl

far_lines_of_one_set_bus_record : BusRecordOf far_lines_of_one_set_setup far_lines_of_one_set_trace
unfolding machine far_lines_of_one_set_setup far_lines_of_one_set_trace
far_lines_of_one_set_bus_record = bus_record_ok far_lines_of_one_set_setup (log_of far_lines_of_one_set_setup far_lines_of_one_set_trace) (on_bus far_lines_of_one_set_setup far_lines_of_one_set_trace) (status_of far_lines_of_one_set_trace) (bus_fates far_lines_of_one_set_setup far_lines_of_one_set_trace) (named_by_all far_lines_of_one_set_setup far_lines_of_one_set_trace)
    refl refl refl refl refl refl

far_lines_of_one_set_records : AreRecordsOf far_lines_of_one_set_setup far_lines_of_one_set_trace
unfolding machine far_lines_of_one_set_setup far_lines_of_one_set_trace
far_lines_of_one_set_records = records far_lines_of_one_set_setup far_lines_of_one_set_trace refl
    (of_one (RecordOf far_lines_of_one_set_setup far_lines_of_one_set_trace) far_lines_of_one_set_record_0) far_lines_of_one_set_bus_record refl refl
