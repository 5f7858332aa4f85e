-- From what an ended machine leaves, a trace can be gathered, and it follows the schedule that brought the machine there.
use Rattle.std.proofs.Common.{◌≡◌, ◌∙◌, ◌+◌, ℕ, true, List, IfSome, map, fold, slice_get, sym, subst, arith}
use Rattle.std.specs.List.{AllByRecursion}
use Rattle.ahb_bus.specs.declared.record.BusRecord.{BusRecord}
use Rattle.bus_memory.specs.Names.{names_of}
use Rattle.lf_model.specs.Promise.Follows.{scheduled, rounds, Follows}
use Rattle.lf_model.specs.Promise.Turns.{Actors}
use Rattle.lf_model.specs.Records.AllRecords.{words_named_by_all, watched_word, watched_words}
use Rattle.lf_model.specs.Records.BusMemory.{memory_after}
use Rattle.lf_model.specs.Records.BusRecord.{BusRecordOk}
use Rattle.lf_model.specs.declared.record.CoreRecord.{CoreRecord}
use Rattle.lf_model.specs.declared.setup.Event.{Event}
use Rattle.lf_model.specs.declared.setup.Setup.{Setup}
use Rattle.lf_model.specs.declared.trace.Trace.{Trace}
use Rattle.lf_model.specs.declared.trace.Word2.{Word2}
use Rattle.machine_play.proofs.AllOver.{all_over}
use Rattle.machine_play.proofs.Gathering.{LeavesBusRecord}
use Rattle.machine_play.proofs.Leaving.{all_leave}
use Rattle.machine_play.proofs.TraceFollows.{right, trace_follows}
use Rattle.machine_play.proofs.Watching.{all_watched}
use Rattle.machine_play.specs.Ending.{watched_on, named_of, AllLeave}
use Rattle.machine_play.specs.LeavesRecords.{LeaveRecords}
use Rattle.machine_play.specs.Machine.{IsCoreAt, IsMachine}
use Rattle.machine_play.specs.MachineMade.{HasEnded, ComesTo}
use Rattle.machine_play.specs.MachineValue.{MachineValue}
use Rattle.machine_play.specs.Moved.{IsSound, is_over}
use Rattle.machine_play.specs.Playable.{IsWordOfRam, IsPlayable}
use Rattle.run_trace.specs.Gathered.{IsGatherable, gathered}

module _ (setup : Setup) (m : MachineValue) (playable : IsPlayable setup) (setup_is : m.bus.setup ≡ setup) (sound : IsSound m) (over : is_over m ≡ true) (records : List CoreRecord) (all : AllLeave m.cores records)
    (left : BusRecord) (log_is : left.log.entries ≡ m.bus.log) (transfers_is : left.transfers ≡ m.bus.transfers)
    (right_bus : BusRecordOk m.bus.setup left.log.entries left.transfers (record { addr = left.ahb_addr; status = left.ahb_status }) left.fates (names_of (map named_of records)))
    (watch : List Word2) (shown : watch ≡ map (watched_on m.bus) setup.config.watch) where
  is : IsMachine setup m
  is = subst (λ (s : Setup). IsMachine s m) setup_is sound

  leave : LeaveRecords setup m.bus 0 m.cores records
  leave = all_leave setup m.bus 0 m.cores records (λ i. let same : i ≡ 0 + i = omega arith in subst (λ (n : ℕ). IfSome (slice_get m.cores i) (IsCoreAt setup m.bus n)) same (is.cores i)) all

  bus_left : LeavesBusRecord m.bus records left
  bus_left = record { log_is = log_is; transfers_is = transfers_is; right = right_bus }

  ended : HasEnded setup m
  ended = all_over setup m setup_is over

  watch_is : watch ≡ watched_words setup m.bus.log (words_named_by_all records) m.bus.transfers
  watch_is =
      shown
      ∙ subst (λ (s : Setup). map (watched_on m.bus) setup.config.watch ≡ map (watched_word s.image m.bus.log (memory_after s.flips (words_named_by_all records) m.bus.transfers).words) setup.config.watch) setup_is
      (all_watched m.bus is.bus_ok is.idle (words_named_by_all records) setup.config.watch (subst (λ (s : Setup). AllByRecursion (IsWordOfRam s.config.ram) setup.config.watch) (sym setup_is) playable.watch))

  pub gatherable : IsGatherable setup records left watch
  gatherable = record { limits = playable.limits; right = right setup m is records leave left bus_left watch watch_is ended }

  pub follows_so : (trace : Trace) → trace ≡ gathered setup records left watch → (events : List Event) (count : ℕ) → ComesTo setup (λ (a : Actors). rounds count (fold scheduled a events)) m → Follows setup events trace
  follows_so trace same events count comes = subst (Follows setup events) (sym same) (trace_follows setup m is records leave left bus_left watch watch_is ended events count comes)
