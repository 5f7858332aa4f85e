-- A way with a struck tag is dropped though it holds no line, and the other way hits.
use Rattle.std.specs.Prelude.{◌≡◌, refl}
use Rattle.lf_model.specs.Promise.Played.{IsPlayedBy}
use Rattle.lf_model.specs.Report.{report}
use Rattle.lf_worked.specs.Machine.{machine}
use Rattle.lf_worked.specs.DroppedWayAndHit.{dropped_way_and_hit_setup, dropped_way_and_hit_events, dropped_way_and_hit_trace, dropped_way_and_hit_text}
use Rattle.lf_worked.proofs.PromiseTest.{played}
use Rattle.lf_worked.proofs.RecordTest.{kept_of, log_of, on_bus, named_by_all}
use Rattle.lf_worked.proofs.RecordsTest.{RecordAt, BusRecordOf, status_of, bus_fates, record_ok, bus_record_ok}
use Rattle.lf_worked.proofs.AllRecordsTest.{AreRecordsOf, RecordOf, records, of_one}

dropped_way_and_hit_report : report dropped_way_and_hit_trace ≡ dropped_way_and_hit_text
unfolding machine dropped_way_and_hit_trace dropped_way_and_hit_text
dropped_way_and_hit_report = refl

dropped_way_and_hit_played : IsPlayedBy dropped_way_and_hit_setup dropped_way_and_hit_events dropped_way_and_hit_trace
unfolding machine dropped_way_and_hit_setup dropped_way_and_hit_events dropped_way_and_hit_trace
dropped_way_and_hit_played = played dropped_way_and_hit_setup dropped_way_and_hit_events dropped_way_and_hit_trace refl

dropped_way_and_hit_record_0 : RecordAt dropped_way_and_hit_setup dropped_way_and_hit_trace 0
unfolding machine dropped_way_and_hit_setup dropped_way_and_hit_trace
dropped_way_and_hit_record_0 = record_ok dropped_way_and_hit_setup 0 (kept_of dropped_way_and_hit_setup dropped_way_and_hit_trace 0) (log_of dropped_way_and_hit_setup dropped_way_and_hit_trace) (on_bus dropped_way_and_hit_setup dropped_way_and_hit_trace) refl refl refl refl refl

dropped_way_and_hit_bus_record : BusRecordOf dropped_way_and_hit_setup dropped_way_and_hit_trace
unfolding machine dropped_way_and_hit_setup dropped_way_and_hit_trace
dropped_way_and_hit_bus_record = bus_record_ok dropped_way_and_hit_setup (log_of dropped_way_and_hit_setup dropped_way_and_hit_trace) (on_bus dropped_way_and_hit_setup dropped_way_and_hit_trace) (status_of dropped_way_and_hit_trace) (bus_fates dropped_way_and_hit_setup dropped_way_and_hit_trace) (named_by_all dropped_way_and_hit_setup dropped_way_and_hit_trace)
    refl refl refl refl refl refl

dropped_way_and_hit_records : AreRecordsOf dropped_way_and_hit_setup dropped_way_and_hit_trace
unfolding machine dropped_way_and_hit_setup dropped_way_and_hit_trace
dropped_way_and_hit_records = records dropped_way_and_hit_setup dropped_way_and_hit_trace refl
    (of_one (RecordOf dropped_way_and_hit_setup dropped_way_and_hit_trace) dropped_way_and_hit_record_0) dropped_way_and_hit_bus_record refl refl
