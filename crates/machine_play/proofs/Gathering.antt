-- The records that the cores and the bus of an ended machine leave are right together.
use Rattle.std.proofs.Common.{◌≡◌, ◌∙◌, ◌+◌, ◌≤◌, ℕ, zero, suc, List, [], ◌∷◌, ◌++◌, IfSome, length, map, slice_get, refl, ap, sym, subst, arith}
use Rattle.ahb_bus.specs.BusState.{BusState}
use Rattle.ahb_bus.specs.declared.record.BusRecord.{BusRecord}
use Rattle.bus_memory.specs.Names.{names_of}
use Rattle.core_parts.specs.CoreValue.{CoreValue}
use Rattle.lf_model.specs.Bus.Walk.{Walk, scrubber, walk_after, IsWholeWalk}
use Rattle.lf_model.specs.Ledger.Steps.{own_transfers}
use Rattle.lf_model.specs.Records.AllRecords.{words_named_by_all, watched_words, RecordAt, AreRecordsOk}
use Rattle.lf_model.specs.Records.BusRecord.{BusRecordOk}
use Rattle.lf_model.specs.Records.CoreRecord.{RecordOk}
use Rattle.lf_model.specs.declared.bus.Entry.{Entry}
use Rattle.lf_model.specs.declared.bus.Transfer.{Transfer}
use Rattle.lf_model.specs.declared.record.CoreRecord.{CoreRecord}
use Rattle.lf_model.specs.declared.setup.Setup.{Setup}
use Rattle.lf_model.specs.declared.trace.Word2.{Word2}
use Rattle.machine_play.specs.Ending.{named_of}
use Rattle.machine_play.specs.LeavesRecords.{LeaveRecords}
use Rattle.machine_play.specs.Machine.{IsMachine}
use Rattle.machine_play.specs.MachineValue.{MachineValue}
use Rattle.machine_play.proofs.OwnShares.{walk_turns}

-- ---- of the cores

-- the words that the bus was given are those that all records name
names_are : (records : List CoreRecord) → names_of (map named_of records) ≡ words_named_by_all records
names_are [] = refl
names_are (kept ∷ records) = ap (λ ws. kept.named ++ ws) (names_are records)

module _ (setup : Setup) (bus : BusState) where
  pub as_many : (c : ℕ) (vs : List CoreValue) (records : List CoreRecord) → LeaveRecords setup bus c vs records → length records ≡ length vs
  as_many c [] [] leave = refl
  as_many c [] (kept ∷ records) leave = absurd leave
  as_many c (v ∷ vs) [] leave = absurd leave
  as_many c (v ∷ vs) (kept ∷ records) leave = ap suc (as_many (c + 1) vs records leave.1)

  record_at : (c : ℕ) (vs : List CoreValue) (records : List CoreRecord) → LeaveRecords setup bus c vs records → (i k : ℕ) → k ≡ c + i → IfSome (slice_get records i) (λ kept. RecordOk setup k kept bus.log bus.transfers)
  record_at c [] [] leave i k at = tt
  record_at c [] (kept ∷ records) leave i k at = absurd leave
  record_at c (v ∷ vs) [] leave i k at = absurd leave
  record_at c (v ∷ vs) (kept ∷ records) leave zero k at = let same : c ≡ k = omega (arith, at) in subst (λ (n : ℕ). RecordOk setup n kept bus.log bus.transfers) same leave.0.right
  record_at c (v ∷ vs) (kept ∷ records) leave (suc i) k at = record_at (c + 1) vs records leave.1 i k (omega (arith, at))

-- ---- all of them

-- what the bus of this machine leaves, where the cores name these words
pub record LeavesBusRecord (bus : BusState) (records : List CoreRecord) (left : BusRecord) : Type 0 where
  pub log_is : left.log.entries ≡ bus.log
  pub transfers_is : left.transfers ≡ bus.transfers
  pub right : BusRecordOk bus.setup left.log.entries left.transfers (record { addr = left.ahb_addr; status = left.ahb_status }) left.fates (names_of (map named_of records))

module _ (setup : Setup) (m : MachineValue) (is : IsMachine setup m) (records : List CoreRecord) (leave : LeaveRecords setup m.bus 0 m.cores records) (left : BusRecord) (bus : LeavesBusRecord m.bus records left) where
  whole_walk : setup.config.scrub_turns ≤ m.walk.walk.turns → IsWholeWalk setup.config.scrub setup.config.scrub_turns m.bus.transfers
  whole_walk all = record {
    each = is.scrubber_at.each;
    all =
        let made : (walk_after setup.config.scrub m.bus.transfers).turns ≡ m.walk.walk.turns = sym (ap (λ (w : Walk). w.turns) is.scrubber_at.walk_is) in
        let share = subst (λ (s : Setup). length (own_transfers scrubber m.bus.transfers) ≤ s.config.scrub_turns) is.bus_setup is.bus_ok.shares.scrub_share in
        omega (arith, made, all, share, walk_turns setup.config.scrub m.bus.transfers);
  }

  pub records_right : (watch : List Word2) → setup.config.scrub_turns ≤ m.walk.walk.turns → watch ≡ watched_words setup m.bus.log (words_named_by_all records) m.bus.transfers
      → AreRecordsOk setup records left.log.entries left.transfers (record { addr = left.ahb_addr; status = left.ahb_status }) left.fates watch
  records_right watch all watch_is = record {
    one_each = as_many setup m.bus 0 m.cores records leave ∙ is.one_each;
    cores = λ c within.
        subst (λ (es : List Entry). RecordAt setup records es left.transfers c) (sym bus.log_is)
        (subst (λ (us : List Transfer). RecordAt setup records m.bus.log us c) (sym bus.transfers_is)
        (record_at setup m.bus 0 m.cores records leave c c (omega arith)));
    bus =
        subst (λ (ws : List Word2). BusRecordOk setup left.log.entries left.transfers (record { addr = left.ahb_addr; status = left.ahb_status }) left.fates ws) (names_are records)
        (subst (λ (s : Setup). BusRecordOk s left.log.entries left.transfers (record { addr = left.ahb_addr; status = left.ahb_status }) left.fates (names_of (map named_of records))) is.bus_setup bus.right);
    walk = subst (IsWholeWalk setup.config.scrub setup.config.scrub_turns) (sym bus.transfers_is) (whole_walk all);
    watch_is =
        watch_is
        ∙ (ap (λ (es : List Entry). watched_words setup es (words_named_by_all records) m.bus.transfers) (sym bus.log_is)
        ∙ ap (λ (us : List Transfer). watched_words setup left.log.entries (words_named_by_all records) us) (sym bus.transfers_is));
  }
