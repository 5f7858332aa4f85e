-- A register with two turned bits that is never read is reported without a value.
use Rattle.std.specs.Prelude.{◌≡◌, refl}
use Rattle.lf_model.specs.Promise.Played.{IsPlayedBy}
use Rattle.lf_model.specs.Report.{report}
use Rattle.lf_worked.specs.Machine.{machine}
use Rattle.lf_worked.specs.BlankRegister.{blank_register_setup, blank_register_events, blank_register_trace, blank_register_text}
use Rattle.lf_worked.proofs.PromiseTest.{played}
use Rattle.lf_worked.proofs.RecordTest.{kept_of, log_of, on_bus, named_by_all}
use Rattle.lf_worked.proofs.RecordsTest.{RecordAt, BusRecordOf, status_of, bus_fates, record_ok, bus_record_ok}
use Rattle.lf_worked.proofs.AllRecordsTest.{AreRecordsOf, RecordOf, records, of_one}

blank_register_report : report blank_register_trace ≡ blank_register_text
unfolding machine blank_register_trace blank_register_text
blank_register_report = refl

blank_register_played : IsPlayedBy blank_register_setup blank_register_events blank_register_trace
unfolding machine blank_register_setup blank_register_events blank_register_trace
blank_register_played = played blank_register_setup blank_register_events blank_register_trace refl

blank_register_record_0 : RecordAt blank_register_setup blank_register_trace 0
unfolding machine blank_register_setup blank_register_trace
blank_register_record_0 = record_ok blank_register_setup 0 (kept_of blank_register_setup blank_register_trace 0) (log_of blank_register_setup blank_register_trace) (on_bus blank_register_setup blank_register_trace) refl refl refl refl refl

blank_register_bus_record : BusRecordOf blank_register_setup blank_register_trace
unfolding machine blank_register_setup blank_register_trace
blank_register_bus_record = bus_record_ok blank_register_setup (log_of blank_register_setup blank_register_trace) (on_bus blank_register_setup blank_register_trace) (status_of blank_register_trace) (bus_fates blank_register_setup blank_register_trace) (named_by_all blank_register_setup blank_register_trace)
    refl refl refl refl refl refl

blank_register_records : AreRecordsOf blank_register_setup blank_register_trace
unfolding machine blank_register_setup blank_register_trace
blank_register_records = records blank_register_setup blank_register_trace refl
    (of_one (RecordOf blank_register_setup blank_register_trace) blank_register_record_0) blank_register_bus_record refl refl
