-- What becomes of flips of register cells.
use Rattle.std.specs.Prelude.{◌≡◌, refl}
use Rattle.lf_model.specs.Promise.Played.{IsPlayedBy}
use Rattle.lf_model.specs.Report.{report}
use Rattle.lf_worked.specs.Machine.{machine}
use Rattle.lf_worked.specs.FlipsOfRegisters.{flips_of_registers_setup, flips_of_registers_events, flips_of_registers_trace, flips_of_registers_text}
use Rattle.lf_worked.proofs.PromiseTest.{played}
use Rattle.lf_worked.proofs.RecordTest.{kept_of, log_of, on_bus, named_by_all}
use Rattle.lf_worked.proofs.RecordsTest.{RecordAt, BusRecordOf, status_of, bus_fates, record_ok, bus_record_ok}
use Rattle.lf_worked.proofs.AllRecordsTest.{AreRecordsOf, RecordOf, records, of_one}

flips_of_registers_report : report flips_of_registers_trace ≡ flips_of_registers_text
unfolding machine flips_of_registers_trace flips_of_registers_text
flips_of_registers_report = refl

flips_of_registers_played : IsPlayedBy flips_of_registers_setup flips_of_registers_events flips_of_registers_trace
unfolding machine flips_of_registers_setup flips_of_registers_events flips_of_registers_trace
flips_of_registers_played = played flips_of_registers_setup flips_of_registers_events flips_of_registers_trace refl

flips_of_registers_record_0 : RecordAt flips_of_registers_setup flips_of_registers_trace 0
unfolding machine flips_of_registers_setup flips_of_registers_trace
flips_of_registers_record_0 = record_ok flips_of_registers_setup 0 (kept_of flips_of_registers_setup flips_of_registers_trace 0) (log_of flips_of_registers_setup flips_of_registers_trace) (on_bus flips_of_registers_setup flips_of_registers_trace) refl refl refl refl refl

flips_of_registers_bus_record : BusRecordOf flips_of_registers_setup flips_of_registers_trace
unfolding machine flips_of_registers_setup flips_of_registers_trace
flips_of_registers_bus_record = bus_record_ok flips_of_registers_setup (log_of flips_of_registers_setup flips_of_registers_trace) (on_bus flips_of_registers_setup flips_of_registers_trace) (status_of flips_of_registers_trace) (bus_fates flips_of_registers_setup flips_of_registers_trace) (named_by_all flips_of_registers_setup flips_of_registers_trace)
    refl refl refl refl refl refl

flips_of_registers_records : AreRecordsOf flips_of_registers_setup flips_of_registers_trace
unfolding machine flips_of_registers_setup flips_of_registers_trace
flips_of_registers_records = records flips_of_registers_setup flips_of_registers_trace refl
    (of_one (RecordOf flips_of_registers_setup flips_of_registers_trace) flips_of_registers_record_0) flips_of_registers_bus_record refl refl
