-- What becomes of flips of tag bytes.
use Rattle.std.specs.Prelude.{◌≡◌, refl}
use Rattle.lf_model.specs.Promise.Played.{IsPlayedBy}
use Rattle.lf_model.specs.Report.{report}
use Rattle.lf_worked.specs.Machine.{machine}
use Rattle.lf_worked.specs.FlipsOfTags.{flips_of_tags_setup, flips_of_tags_events, flips_of_tags_trace, flips_of_tags_text}
use Rattle.lf_worked.proofs.PromiseTest.{played}
use Rattle.lf_worked.proofs.RecordTest.{kept_of, log_of, on_bus, named_by_all}
use Rattle.lf_worked.proofs.RecordsTest.{RecordAt, BusRecordOf, status_of, bus_fates, record_ok, bus_record_ok}
use Rattle.lf_worked.proofs.AllRecordsTest.{AreRecordsOf, RecordOf, records, of_one}

flips_of_tags_report : report flips_of_tags_trace ≡ flips_of_tags_text
unfolding machine flips_of_tags_trace flips_of_tags_text
flips_of_tags_report = refl

flips_of_tags_played : IsPlayedBy flips_of_tags_setup flips_of_tags_events flips_of_tags_trace
unfolding machine flips_of_tags_setup flips_of_tags_events flips_of_tags_trace
flips_of_tags_played = played flips_of_tags_setup flips_of_tags_events flips_of_tags_trace refl

flips_of_tags_record_0 : RecordAt flips_of_tags_setup flips_of_tags_trace 0
unfolding machine flips_of_tags_setup flips_of_tags_trace
flips_of_tags_record_0 = record_ok flips_of_tags_setup 0 (kept_of flips_of_tags_setup flips_of_tags_trace 0) (log_of flips_of_tags_setup flips_of_tags_trace) (on_bus flips_of_tags_setup flips_of_tags_trace) refl refl refl refl refl

flips_of_tags_bus_record : BusRecordOf flips_of_tags_setup flips_of_tags_trace
unfolding machine flips_of_tags_setup flips_of_tags_trace
flips_of_tags_bus_record = bus_record_ok flips_of_tags_setup (log_of flips_of_tags_setup flips_of_tags_trace) (on_bus flips_of_tags_setup flips_of_tags_trace) (status_of flips_of_tags_trace) (bus_fates flips_of_tags_setup flips_of_tags_trace) (named_by_all flips_of_tags_setup flips_of_tags_trace)
    refl refl refl refl refl refl

flips_of_tags_records : AreRecordsOf flips_of_tags_setup flips_of_tags_trace
unfolding machine flips_of_tags_setup flips_of_tags_trace
flips_of_tags_records = records flips_of_tags_setup flips_of_tags_trace refl
    (of_one (RecordOf flips_of_tags_setup flips_of_tags_trace) flips_of_tags_record_0) flips_of_tags_bus_record refl refl
