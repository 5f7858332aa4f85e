-- An atomic drops its own line, so the load that follows fills it again.
use Rattle.std.specs.Prelude.{◌≡◌, refl}
use Rattle.lf_model.specs.Promise.Played.{IsPlayedBy}
use Rattle.lf_model.specs.Report.{report}
use Rattle.lf_worked.specs.Machine.{machine}
use Rattle.lf_worked.specs.AtomicDropsOwnLine.{atomic_drops_own_line_setup, atomic_drops_own_line_events, atomic_drops_own_line_trace, atomic_drops_own_line_text}
use Rattle.lf_worked.proofs.PromiseTest.{played}
use Rattle.lf_worked.proofs.RecordTest.{kept_of, log_of, on_bus, named_by_all}
use Rattle.lf_worked.proofs.RecordsTest.{RecordAt, BusRecordOf, status_of, bus_fates, record_ok, bus_record_ok}
use Rattle.lf_worked.proofs.AllRecordsTest.{AreRecordsOf, RecordOf, records, of_one}

atomic_drops_own_line_report : report atomic_drops_own_line_trace ≡ atomic_drops_own_line_text
unfolding machine atomic_drops_own_line_trace atomic_drops_own_line_text
atomic_drops_own_line_report = refl

atomic_drops_own_line_played : IsPlayedBy atomic_drops_own_line_setup atomic_drops_own_line_events atomic_drops_own_line_trace
unfolding machine atomic_drops_own_line_setup atomic_drops_own_line_events atomic_drops_own_line_trace
atomic_drops_own_line_played = played atomic_drops_own_line_setup atomic_drops_own_line_events atomic_drops_own_line_trace refl

atomic_drops_own_line_record_0 : RecordAt atomic_drops_own_line_setup atomic_drops_own_line_trace 0
unfolding machine atomic_drops_own_line_setup atomic_drops_own_line_trace
atomic_drops_own_line_record_0 = record_ok atomic_drops_own_line_setup 0 (kept_of atomic_drops_own_line_setup atomic_drops_own_line_trace 0) (log_of atomic_drops_own_line_setup atomic_drops_own_line_trace) (on_bus atomic_drops_own_line_setup atomic_drops_own_line_trace) refl refl refl refl refl

atomic_drops_own_line_bus_record : BusRecordOf atomic_drops_own_line_setup atomic_drops_own_line_trace
unfolding machine atomic_drops_own_line_setup atomic_drops_own_line_trace
atomic_drops_own_line_bus_record = bus_record_ok atomic_drops_own_line_setup (log_of atomic_drops_own_line_setup atomic_drops_own_line_trace) (on_bus atomic_drops_own_line_setup atomic_drops_own_line_trace) (status_of atomic_drops_own_line_trace) (bus_fates atomic_drops_own_line_setup atomic_drops_own_line_trace) (named_by_all atomic_drops_own_line_setup atomic_drops_own_line_trace)
    refl refl refl refl refl refl

atomic_drops_own_line_records : AreRecordsOf atomic_drops_own_line_setup atomic_drops_own_line_trace
unfolding machine atomic_drops_own_line_setup atomic_drops_own_line_trace
atomic_drops_own_line_records = records atomic_drops_own_line_setup atomic_drops_own_line_trace refl
    (of_one (RecordOf atomic_drops_own_line_setup atomic_drops_own_line_trace) atomic_drops_own_line_record_0) atomic_drops_own_line_bus_record refl refl
