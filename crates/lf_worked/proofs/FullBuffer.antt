-- Stores of every length through a buffer of two.
use Rattle.std.specs.Prelude.{◌≡◌, refl}
use Rattle.lf_model.specs.Promise.Played.{IsPlayedBy}
use Rattle.lf_model.specs.Report.{report}
use Rattle.lf_worked.specs.Machine.{machine}
use Rattle.lf_worked.specs.FullBuffer.{full_buffer_setup, full_buffer_events, full_buffer_trace, full_buffer_text}
use Rattle.lf_worked.proofs.PromiseTest.{played}
use Rattle.lf_worked.proofs.RecordTest.{kept_of, log_of, on_bus, named_by_all}
use Rattle.lf_worked.proofs.RecordsTest.{RecordAt, BusRecordOf, status_of, bus_fates, record_ok, bus_record_ok}
use Rattle.lf_worked.proofs.AllRecordsTest.{AreRecordsOf, RecordOf, records, of_one}

full_buffer_report : report full_buffer_trace ≡ full_buffer_text
unfolding machine full_buffer_trace full_buffer_text
full_buffer_report = refl

full_buffer_played : IsPlayedBy full_buffer_setup full_buffer_events full_buffer_trace
unfolding machine full_buffer_setup full_buffer_events full_buffer_trace
full_buffer_played = played full_buffer_setup full_buffer_events full_buffer_trace refl

full_buffer_record_0 : RecordAt full_buffer_setup full_buffer_trace 0
unfolding machine full_buffer_setup full_buffer_trace
full_buffer_record_0 = record_ok full_buffer_setup 0 (kept_of full_buffer_setup full_buffer_trace 0) (log_of full_buffer_setup full_buffer_trace) (on_bus full_buffer_setup full_buffer_trace) refl refl refl refl refl

full_buffer_bus_record : BusRecordOf full_buffer_setup full_buffer_trace
unfolding machine full_buffer_setup full_buffer_trace
full_buffer_bus_record = bus_record_ok full_buffer_setup (log_of full_buffer_setup full_buffer_trace) (on_bus full_buffer_setup full_buffer_trace) (status_of full_buffer_trace) (bus_fates full_buffer_setup full_buffer_trace) (named_by_all full_buffer_setup full_buffer_trace)
    refl refl refl refl refl refl

full_buffer_records : AreRecordsOf full_buffer_setup full_buffer_trace
unfolding machine full_buffer_setup full_buffer_trace
full_buffer_records = records full_buffer_setup full_buffer_trace refl
    (of_one (RecordOf full_buffer_setup full_buffer_trace) full_buffer_record_0) full_buffer_bus_record refl refl
