-- The scrubber walks two lines and begins again.
use Rattle.std.specs.Prelude.{◌≡◌, refl}
use Rattle.lf_model.specs.Promise.Played.{IsPlayedBy}
use Rattle.lf_model.specs.Report.{report}
use Rattle.lf_worked.specs.Machine.{machine}
use Rattle.lf_worked.specs.ScrubberWalksRound.{scrubber_walks_round_setup, scrubber_walks_round_events, scrubber_walks_round_trace, scrubber_walks_round_text}
use Rattle.lf_worked.proofs.PromiseTest.{played}
use Rattle.lf_worked.proofs.RecordTest.{kept_of, log_of, on_bus, named_by_all}
use Rattle.lf_worked.proofs.RecordsTest.{RecordAt, BusRecordOf, status_of, bus_fates, record_ok, bus_record_ok}
use Rattle.lf_worked.proofs.AllRecordsTest.{AreRecordsOf, RecordOf, records, of_one}

scrubber_walks_round_report : report scrubber_walks_round_trace ≡ scrubber_walks_round_text
unfolding machine scrubber_walks_round_trace scrubber_walks_round_text
scrubber_walks_round_report = refl

scrubber_walks_round_played : IsPlayedBy scrubber_walks_round_setup scrubber_walks_round_events scrubber_walks_round_trace
unfolding machine scrubber_walks_round_setup scrubber_walks_round_events scrubber_walks_round_trace
scrubber_walks_round_played = played scrubber_walks_round_setup scrubber_walks_round_events scrubber_walks_round_trace refl

scrubber_walks_round_record_0 : RecordAt scrubber_walks_round_setup scrubber_walks_round_trace 0
unfolding machine scrubber_walks_round_setup scrubber_walks_round_trace
scrubber_walks_round_record_0 = record_ok scrubber_walks_round_setup 0 (kept_of scrubber_walks_round_setup scrubber_walks_round_trace 0) (log_of scrubber_walks_round_setup scrubber_walks_round_trace) (on_bus scrubber_walks_round_setup scrubber_walks_round_trace) refl refl refl refl refl

scrubber_walks_round_bus_record : BusRecordOf scrubber_walks_round_setup scrubber_walks_round_trace
unfolding machine scrubber_walks_round_setup scrubber_walks_round_trace
scrubber_walks_round_bus_record = bus_record_ok scrubber_walks_round_setup (log_of scrubber_walks_round_setup scrubber_walks_round_trace) (on_bus scrubber_walks_round_setup scrubber_walks_round_trace) (status_of scrubber_walks_round_trace) (bus_fates scrubber_walks_round_setup scrubber_walks_round_trace) (named_by_all scrubber_walks_round_setup scrubber_walks_round_trace)
    refl refl refl refl refl refl

scrubber_walks_round_records : AreRecordsOf scrubber_walks_round_setup scrubber_walks_round_trace
unfolding machine scrubber_walks_round_setup scrubber_walks_round_trace
scrubber_walks_round_records = records scrubber_walks_round_setup scrubber_walks_round_trace refl
    (of_one (RecordOf scrubber_walks_round_setup scrubber_walks_round_trace) scrubber_walks_round_record_0) scrubber_walks_round_bus_record refl refl
