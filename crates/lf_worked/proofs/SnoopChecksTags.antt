-- A snoop checks the tags of its set before it drops the line.
use Rattle.std.specs.Prelude.{◌≡◌, refl}
use Rattle.lf_model.specs.Promise.Played.{IsPlayedBy}
use Rattle.lf_model.specs.Report.{report}
use Rattle.lf_worked.specs.Machine.{machine}
use Rattle.lf_worked.specs.SnoopChecksTags.{snoop_checks_tags_setup, snoop_checks_tags_events, snoop_checks_tags_trace, snoop_checks_tags_text}
use Rattle.lf_worked.proofs.PromiseTest.{played}
use Rattle.lf_worked.proofs.RecordTest.{kept_of, log_of, on_bus, named_by_all}
use Rattle.lf_worked.proofs.RecordsTest.{RecordAt, BusRecordOf, status_of, bus_fates, record_ok, bus_record_ok}
use Rattle.lf_worked.proofs.AllRecordsTest.{AreRecordsOf, RecordOf, records, of_two}

snoop_checks_tags_report : report snoop_checks_tags_trace ≡ snoop_checks_tags_text
unfolding machine snoop_checks_tags_trace snoop_checks_tags_text
snoop_checks_tags_report = refl

snoop_checks_tags_played : IsPlayedBy snoop_checks_tags_setup snoop_checks_tags_events snoop_checks_tags_trace
unfolding machine snoop_checks_tags_setup snoop_checks_tags_events snoop_checks_tags_trace
snoop_checks_tags_played = played snoop_checks_tags_setup snoop_checks_tags_events snoop_checks_tags_trace refl

snoop_checks_tags_record_0 : RecordAt snoop_checks_tags_setup snoop_checks_tags_trace 0
unfolding machine snoop_checks_tags_setup snoop_checks_tags_trace
snoop_checks_tags_record_0 = record_ok snoop_checks_tags_setup 0 (kept_of snoop_checks_tags_setup snoop_checks_tags_trace 0) (log_of snoop_checks_tags_setup snoop_checks_tags_trace) (on_bus snoop_checks_tags_setup snoop_checks_tags_trace) refl refl refl refl refl

snoop_checks_tags_record_1 : RecordAt snoop_checks_tags_setup snoop_checks_tags_trace 1
unfolding machine snoop_checks_tags_setup snoop_checks_tags_trace
snoop_checks_tags_record_1 = record_ok snoop_checks_tags_setup 1 (kept_of snoop_checks_tags_setup snoop_checks_tags_trace 1) (log_of snoop_checks_tags_setup snoop_checks_tags_trace) (on_bus snoop_checks_tags_setup snoop_checks_tags_trace) refl refl refl refl refl

snoop_checks_tags_bus_record : BusRecordOf snoop_checks_tags_setup snoop_checks_tags_trace
unfolding machine snoop_checks_tags_setup snoop_checks_tags_trace
snoop_checks_tags_bus_record = bus_record_ok snoop_checks_tags_setup (log_of snoop_checks_tags_setup snoop_checks_tags_trace) (on_bus snoop_checks_tags_setup snoop_checks_tags_trace) (status_of snoop_checks_tags_trace) (bus_fates snoop_checks_tags_setup snoop_checks_tags_trace) (named_by_all snoop_checks_tags_setup snoop_checks_tags_trace)
    refl refl refl refl refl refl

snoop_checks_tags_records : AreRecordsOf snoop_checks_tags_setup snoop_checks_tags_trace
unfolding machine snoop_checks_tags_setup snoop_checks_tags_trace
snoop_checks_tags_records = records snoop_checks_tags_setup snoop_checks_tags_trace refl
    (of_two (RecordOf snoop_checks_tags_setup snoop_checks_tags_trace) snoop_checks_tags_record_0 snoop_checks_tags_record_1) snoop_checks_tags_bus_record refl refl
