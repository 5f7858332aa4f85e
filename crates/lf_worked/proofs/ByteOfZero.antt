-- A load of a byte that is 0.
use Rattle.std.specs.Prelude.{◌≡◌, refl}
use Rattle.lf_model.specs.Promise.Played.{IsPlayedBy}
use Rattle.lf_model.specs.Report.{report}
use Rattle.lf_worked.specs.Machine.{machine}
use Rattle.lf_worked.specs.ByteOfZero.{byte_of_zero_setup, byte_of_zero_events, byte_of_zero_trace, byte_of_zero_text}
use Rattle.lf_worked.proofs.PromiseTest.{played}
use Rattle.lf_worked.proofs.RecordTest.{kept_of, log_of, on_bus, named_by_all}
use Rattle.lf_worked.proofs.RecordsTest.{RecordAt, BusRecordOf, status_of, bus_fates, record_ok, bus_record_ok}
use Rattle.lf_worked.proofs.AllRecordsTest.{AreRecordsOf, RecordOf, records, of_one}

byte_of_zero_report : report byte_of_zero_trace ≡ byte_of_zero_text
unfolding machine byte_of_zero_trace byte_of_zero_text
byte_of_zero_report = refl

byte_of_zero_played : IsPlayedBy byte_of_zero_setup byte_of_zero_events byte_of_zero_trace
unfolding machine byte_of_zero_setup byte_of_zero_events byte_of_zero_trace
byte_of_zero_played = played byte_of_zero_setup byte_of_zero_events byte_of_zero_trace refl

byte_of_zero_record_0 : RecordAt byte_of_zero_setup byte_of_zero_trace 0
unfolding machine byte_of_zero_setup byte_of_zero_trace
byte_of_zero_record_0 = record_ok byte_of_zero_setup 0 (kept_of byte_of_zero_setup byte_of_zero_trace 0) (log_of byte_of_zero_setup byte_of_zero_trace) (on_bus byte_of_zero_setup byte_of_zero_trace) refl refl refl refl refl

byte_of_zero_bus_record : BusRecordOf byte_of_zero_setup byte_of_zero_trace
unfolding machine byte_of_zero_setup byte_of_zero_trace
byte_of_zero_bus_record = bus_record_ok byte_of_zero_setup (log_of byte_of_zero_setup byte_of_zero_trace) (on_bus byte_of_zero_setup byte_of_zero_trace) (status_of byte_of_zero_trace) (bus_fates byte_of_zero_setup byte_of_zero_trace) (named_by_all byte_of_zero_setup byte_of_zero_trace)
    refl refl refl refl refl refl

byte_of_zero_records : AreRecordsOf byte_of_zero_setup byte_of_zero_trace
unfolding machine byte_of_zero_setup byte_of_zero_trace
byte_of_zero_records = records byte_of_zero_setup byte_of_zero_trace refl
    (of_one (RecordOf byte_of_zero_setup byte_of_zero_trace) byte_of_zero_record_0) byte_of_zero_bus_record refl refl
