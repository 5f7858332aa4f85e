-- Loads of a byte, a half, a word and a doubleword, signed and not.
use Rattle.std.specs.Prelude.{◌≡◌, refl}
use Rattle.lf_model.specs.Promise.Played.{IsPlayedBy}
use Rattle.lf_model.specs.Report.{report}
use Rattle.lf_worked.specs.Machine.{machine}
use Rattle.lf_worked.specs.LoadsOfEveryLength.{loads_of_every_length_setup, loads_of_every_length_events, loads_of_every_length_trace, loads_of_every_length_text}
use Rattle.lf_worked.proofs.PromiseTest.{played}
use Rattle.lf_worked.proofs.RecordTest.{kept_of, log_of, on_bus, named_by_all}
use Rattle.lf_worked.proofs.RecordsTest.{RecordAt, BusRecordOf, status_of, bus_fates, record_ok, bus_record_ok}
use Rattle.lf_worked.proofs.AllRecordsTest.{AreRecordsOf, RecordOf, records, of_one}

loads_of_every_length_report : report loads_of_every_length_trace ≡ loads_of_every_length_text
unfolding machine loads_of_every_length_trace loads_of_every_length_text
loads_of_every_length_report = refl

loads_of_every_length_played : IsPlayedBy loads_of_every_length_setup loads_of_every_length_events loads_of_every_length_trace
unfolding machine loads_of_every_length_setup loads_of_every_length_events loads_of_every_length_trace
loads_of_every_length_played = played loads_of_every_length_setup loads_of_every_length_events loads_of_every_length_trace refl

loads_of_every_length_record_0 : RecordAt loads_of_every_length_setup loads_of_every_length_trace 0
unfolding machine loads_of_every_length_setup loads_of_every_length_trace
loads_of_every_length_record_0 = record_ok loads_of_every_length_setup 0 (kept_of loads_of_every_length_setup loads_of_every_length_trace 0) (log_of loads_of_every_length_setup loads_of_every_length_trace) (on_bus loads_of_every_length_setup loads_of_every_length_trace) refl refl refl refl refl

loads_of_every_length_bus_record : BusRecordOf loads_of_every_length_setup loads_of_every_length_trace
unfolding machine loads_of_every_length_setup loads_of_every_length_trace
loads_of_every_length_bus_record = bus_record_ok loads_of_every_length_setup (log_of loads_of_every_length_setup loads_of_every_length_trace) (on_bus loads_of_every_length_setup loads_of_every_length_trace) (status_of loads_of_every_length_trace) (bus_fates loads_of_every_length_setup loads_of_every_length_trace) (named_by_all loads_of_every_length_setup loads_of_every_length_trace)
    refl refl refl refl refl refl

loads_of_every_length_records : AreRecordsOf loads_of_every_length_setup loads_of_every_length_trace
unfolding machine loads_of_every_length_setup loads_of_every_length_trace
loads_of_every_length_records = records loads_of_every_length_setup loads_of_every_length_trace refl
    (of_one (RecordOf loads_of_every_length_setup loads_of_every_length_trace) loads_of_every_length_record_0) loads_of_every_length_bus_record refl refl
