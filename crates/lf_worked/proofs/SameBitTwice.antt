-- A word of which one bit turned twice reads clean.
use Rattle.std.specs.Prelude.{◌≡◌, refl}
use Rattle.lf_model.specs.Promise.Played.{IsPlayedBy}
use Rattle.lf_model.specs.Report.{report}
use Rattle.lf_worked.specs.Machine.{machine}
use Rattle.lf_worked.specs.SameBitTwice.{same_bit_twice_setup, same_bit_twice_events, same_bit_twice_trace, same_bit_twice_text}
use Rattle.lf_worked.proofs.PromiseTest.{played}
use Rattle.lf_worked.proofs.RecordTest.{kept_of, log_of, on_bus, named_by_all}
use Rattle.lf_worked.proofs.RecordsTest.{RecordAt, BusRecordOf, status_of, bus_fates, record_ok, bus_record_ok}
use Rattle.lf_worked.proofs.AllRecordsTest.{AreRecordsOf, RecordOf, records, of_one}

same_bit_twice_report : report same_bit_twice_trace ≡ same_bit_twice_text
unfolding machine same_bit_twice_trace same_bit_twice_text
same_bit_twice_report = refl

same_bit_twice_played : IsPlayedBy same_bit_twice_setup same_bit_twice_events same_bit_twice_trace
unfolding machine same_bit_twice_setup same_bit_twice_events same_bit_twice_trace
same_bit_twice_played = played same_bit_twice_setup same_bit_twice_events same_bit_twice_trace refl

same_bit_twice_record_0 : RecordAt same_bit_twice_setup same_bit_twice_trace 0
unfolding machine same_bit_twice_setup same_bit_twice_trace
same_bit_twice_record_0 = record_ok same_bit_twice_setup 0 (kept_of same_bit_twice_setup same_bit_twice_trace 0) (log_of same_bit_twice_setup same_bit_twice_trace) (on_bus same_bit_twice_setup same_bit_twice_trace) refl refl refl refl refl

same_bit_twice_bus_record : BusRecordOf same_bit_twice_setup same_bit_twice_trace
unfolding machine same_bit_twice_setup same_bit_twice_trace
same_bit_twice_bus_record = bus_record_ok same_bit_twice_setup (log_of same_bit_twice_setup same_bit_twice_trace) (on_bus same_bit_twice_setup same_bit_twice_trace) (status_of same_bit_twice_trace) (bus_fates same_bit_twice_setup same_bit_twice_trace) (named_by_all same_bit_twice_setup same_bit_twice_trace)
    refl refl refl refl refl refl

same_bit_twice_records : AreRecordsOf same_bit_twice_setup same_bit_twice_trace
unfolding machine same_bit_twice_setup same_bit_twice_trace
same_bit_twice_records = records same_bit_twice_setup same_bit_twice_trace refl
    (of_one (RecordOf same_bit_twice_setup same_bit_twice_trace) same_bit_twice_record_0) same_bit_twice_bus_record refl refl
