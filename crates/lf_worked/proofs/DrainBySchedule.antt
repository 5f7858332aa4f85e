-- The schedule drains stores: each drain is a step of its core.
use Rattle.std.specs.Prelude.{◌≡◌, refl}
use Rattle.lf_model.specs.Promise.Played.{IsPlayedBy}
use Rattle.lf_model.specs.Report.{report}
use Rattle.lf_worked.specs.Machine.{machine}
use Rattle.lf_worked.specs.DrainBySchedule.{drain_by_schedule_setup, drain_by_schedule_events, drain_by_schedule_trace, drain_by_schedule_text}
use Rattle.lf_worked.proofs.PromiseTest.{played}
use Rattle.lf_worked.proofs.RecordTest.{kept_of, log_of, on_bus, named_by_all}
use Rattle.lf_worked.proofs.RecordsTest.{RecordAt, BusRecordOf, status_of, bus_fates, record_ok, bus_record_ok}
use Rattle.lf_worked.proofs.AllRecordsTest.{AreRecordsOf, RecordOf, records, of_one}

drain_by_schedule_report : report drain_by_schedule_trace ≡ drain_by_schedule_text
unfolding machine drain_by_schedule_trace drain_by_schedule_text
drain_by_schedule_report = refl

drain_by_schedule_played : IsPlayedBy drain_by_schedule_setup drain_by_schedule_events drain_by_schedule_trace
unfolding machine drain_by_schedule_setup drain_by_schedule_events drain_by_schedule_trace
drain_by_schedule_played = played drain_by_schedule_setup drain_by_schedule_events drain_by_schedule_trace refl

drain_by_schedule_record_0 : RecordAt drain_by_schedule_setup drain_by_schedule_trace 0
unfolding machine drain_by_schedule_setup drain_by_schedule_trace
drain_by_schedule_record_0 = record_ok drain_by_schedule_setup 0 (kept_of drain_by_schedule_setup drain_by_schedule_trace 0) (log_of drain_by_schedule_setup drain_by_schedule_trace) (on_bus drain_by_schedule_setup drain_by_schedule_trace) refl refl refl refl refl

drain_by_schedule_bus_record : BusRecordOf drain_by_schedule_setup drain_by_schedule_trace
unfolding machine drain_by_schedule_setup drain_by_schedule_trace
drain_by_schedule_bus_record = bus_record_ok drain_by_schedule_setup (log_of drain_by_schedule_setup drain_by_schedule_trace) (on_bus drain_by_schedule_setup drain_by_schedule_trace) (status_of drain_by_schedule_trace) (bus_fates drain_by_schedule_setup drain_by_schedule_trace) (named_by_all drain_by_schedule_setup drain_by_schedule_trace)
    refl refl refl refl refl refl

drain_by_schedule_records : AreRecordsOf drain_by_schedule_setup drain_by_schedule_trace
unfolding machine drain_by_schedule_setup drain_by_schedule_trace
drain_by_schedule_records = records drain_by_schedule_setup drain_by_schedule_trace refl
    (of_one (RecordOf drain_by_schedule_setup drain_by_schedule_trace) drain_by_schedule_record_0) drain_by_schedule_bus_record refl refl
