-- A limit of four steps, one before the halt.
use Rattle.std.specs.Prelude.{◌≡◌, refl}
use Rattle.lf_model.specs.Promise.Played.{IsPlayedBy}
use Rattle.lf_model.specs.Report.{report}
use Rattle.lf_worked.specs.Machine.{machine}
use Rattle.lf_worked.specs.FourSteps.{four_steps_setup, four_steps_events, four_steps_trace, four_steps_text}
use Rattle.lf_worked.proofs.PromiseTest.{played}
use Rattle.lf_worked.proofs.RecordTest.{kept_of, log_of, on_bus, named_by_all}
use Rattle.lf_worked.proofs.RecordsTest.{RecordAt, BusRecordOf, status_of, bus_fates, record_ok, bus_record_ok}
use Rattle.lf_worked.proofs.AllRecordsTest.{AreRecordsOf, RecordOf, records, of_one}

four_steps_report : report four_steps_trace ≡ four_steps_text
unfolding machine four_steps_trace four_steps_text
four_steps_report = refl

four_steps_played : IsPlayedBy four_steps_setup four_steps_events four_steps_trace
unfolding machine four_steps_setup four_steps_events four_steps_trace
four_steps_played = played four_steps_setup four_steps_events four_steps_trace refl

four_steps_record_0 : RecordAt four_steps_setup four_steps_trace 0
unfolding machine four_steps_setup four_steps_trace
four_steps_record_0 = record_ok four_steps_setup 0 (kept_of four_steps_setup four_steps_trace 0) (log_of four_steps_setup four_steps_trace) (on_bus four_steps_setup four_steps_trace) refl refl refl refl refl

four_steps_bus_record : BusRecordOf four_steps_setup four_steps_trace
unfolding machine four_steps_setup four_steps_trace
four_steps_bus_record = bus_record_ok four_steps_setup (log_of four_steps_setup four_steps_trace) (on_bus four_steps_setup four_steps_trace) (status_of four_steps_trace) (bus_fates four_steps_setup four_steps_trace) (named_by_all four_steps_setup four_steps_trace)
    refl refl refl refl refl refl

four_steps_records : AreRecordsOf four_steps_setup four_steps_trace
unfolding machine four_steps_setup four_steps_trace
four_steps_records = records four_steps_setup four_steps_trace refl
    (of_one (RecordOf four_steps_setup four_steps_trace) four_steps_record_0) four_steps_bus_record refl refl
