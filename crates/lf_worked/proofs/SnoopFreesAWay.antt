-- A line that the turn of a fill drops frees its way for that fill.
use Rattle.std.specs.Prelude.{◌≡◌, refl}
use Rattle.lf_model.specs.Promise.Played.{IsPlayedBy}
use Rattle.lf_model.specs.Report.{report}
use Rattle.lf_worked.specs.Machine.{machine}
use Rattle.lf_worked.specs.SnoopFreesAWay.{snoop_frees_a_way_setup, snoop_frees_a_way_events, snoop_frees_a_way_trace, snoop_frees_a_way_text}
use Rattle.lf_worked.proofs.PromiseTest.{played}
use Rattle.lf_worked.proofs.RecordTest.{kept_of, log_of, on_bus, named_by_all}
use Rattle.lf_worked.proofs.RecordsTest.{RecordAt, BusRecordOf, status_of, bus_fates, record_ok, bus_record_ok}
use Rattle.lf_worked.proofs.AllRecordsTest.{AreRecordsOf, RecordOf, records, of_two}

snoop_frees_a_way_report : report snoop_frees_a_way_trace ≡ snoop_frees_a_way_text
unfolding machine snoop_frees_a_way_trace snoop_frees_a_way_text
snoop_frees_a_way_report = refl

snoop_frees_a_way_played : IsPlayedBy snoop_frees_a_way_setup snoop_frees_a_way_events snoop_frees_a_way_trace
unfolding machine snoop_frees_a_way_setup snoop_frees_a_way_events snoop_frees_a_way_trace
snoop_frees_a_way_played = played snoop_frees_a_way_setup snoop_frees_a_way_events snoop_frees_a_way_trace refl

snoop_frees_a_way_record_0 : RecordAt snoop_frees_a_way_setup snoop_frees_a_way_trace 0
unfolding machine snoop_frees_a_way_setup snoop_frees_a_way_trace
snoop_frees_a_way_record_0 = record_ok snoop_frees_a_way_setup 0 (kept_of snoop_frees_a_way_setup snoop_frees_a_way_trace 0) (log_of snoop_frees_a_way_setup snoop_frees_a_way_trace) (on_bus snoop_frees_a_way_setup snoop_frees_a_way_trace) refl refl refl refl refl

snoop_frees_a_way_record_1 : RecordAt snoop_frees_a_way_setup snoop_frees_a_way_trace 1
unfolding machine snoop_frees_a_way_setup snoop_frees_a_way_trace
snoop_frees_a_way_record_1 = record_ok snoop_frees_a_way_setup 1 (kept_of snoop_frees_a_way_setup snoop_frees_a_way_trace 1) (log_of snoop_frees_a_way_setup snoop_frees_a_way_trace) (on_bus snoop_frees_a_way_setup snoop_frees_a_way_trace) refl refl refl refl refl

snoop_frees_a_way_bus_record : BusRecordOf snoop_frees_a_way_setup snoop_frees_a_way_trace
unfolding machine snoop_frees_a_way_setup snoop_frees_a_way_trace
snoop_frees_a_way_bus_record = bus_record_ok snoop_frees_a_way_setup (log_of snoop_frees_a_way_setup snoop_frees_a_way_trace) (on_bus snoop_frees_a_way_setup snoop_frees_a_way_trace) (status_of snoop_frees_a_way_trace) (bus_fates snoop_frees_a_way_setup snoop_frees_a_way_trace) (named_by_all snoop_frees_a_way_setup snoop_frees_a_way_trace)
    refl refl refl refl refl refl

snoop_frees_a_way_records : AreRecordsOf snoop_frees_a_way_setup snoop_frees_a_way_trace
unfolding machine snoop_frees_a_way_setup snoop_frees_a_way_trace
snoop_frees_a_way_records = records snoop_frees_a_way_setup snoop_frees_a_way_trace refl
    (of_two (RecordOf snoop_frees_a_way_setup snoop_frees_a_way_trace) snoop_frees_a_way_record_0 snoop_frees_a_way_record_1) snoop_frees_a_way_bus_record refl refl
