-- An atomic drains the waiting stores first, then makes its own turn.
use Rattle.std.specs.Prelude.{◌≡◌, refl}
use Rattle.lf_model.specs.Promise.Played.{IsPlayedBy}
use Rattle.lf_model.specs.Report.{report}
use Rattle.lf_worked.specs.Machine.{machine}
use Rattle.lf_worked.specs.AtomicDrains.{atomic_drains_setup, atomic_drains_events, atomic_drains_trace, atomic_drains_text}
use Rattle.lf_worked.proofs.PromiseTest.{played}
use Rattle.lf_worked.proofs.RecordTest.{kept_of, log_of, on_bus, named_by_all}
use Rattle.lf_worked.proofs.RecordsTest.{RecordAt, BusRecordOf, status_of, bus_fates, record_ok, bus_record_ok}
use Rattle.lf_worked.proofs.AllRecordsTest.{AreRecordsOf, RecordOf, records, of_one}

atomic_drains_report : report atomic_drains_trace ≡ atomic_drains_text
unfolding machine atomic_drains_trace atomic_drains_text
atomic_drains_report = refl

atomic_drains_played : IsPlayedBy atomic_drains_setup atomic_drains_events atomic_drains_trace
unfolding machine atomic_drains_setup atomic_drains_events atomic_drains_trace
atomic_drains_played = played atomic_drains_setup atomic_drains_events atomic_drains_trace refl

atomic_drains_record_0 : RecordAt atomic_drains_setup atomic_drains_trace 0
unfolding machine atomic_drains_setup atomic_drains_trace
atomic_drains_record_0 = record_ok atomic_drains_setup 0 (kept_of atomic_drains_setup atomic_drains_trace 0) (log_of atomic_drains_setup atomic_drains_trace) (on_bus atomic_drains_setup atomic_drains_trace) refl refl refl refl refl

atomic_drains_bus_record : BusRecordOf atomic_drains_setup atomic_drains_trace
unfolding machine atomic_drains_setup atomic_drains_trace
atomic_drains_bus_record = bus_record_ok atomic_drains_setup (log_of atomic_drains_setup atomic_drains_trace) (on_bus atomic_drains_setup atomic_drains_trace) (status_of atomic_drains_trace) (bus_fates atomic_drains_setup atomic_drains_trace) (named_by_all atomic_drains_setup atomic_drains_trace)
    refl refl refl refl refl refl

atomic_drains_records : AreRecordsOf atomic_drains_setup atomic_drains_trace
unfolding machine atomic_drains_setup atomic_drains_trace
atomic_drains_records = records atomic_drains_setup atomic_drains_trace refl
    (of_one (RecordOf atomic_drains_setup atomic_drains_trace) atomic_drains_record_0) atomic_drains_bus_record refl refl
