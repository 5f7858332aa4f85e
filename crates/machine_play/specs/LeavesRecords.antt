-- The records that the cores of an ended machine leave.
use Rattle.std.specs.Prelude.{ℕ, ◌≡◌, ◌+◌, List, [], ◌∷◌}
use Rattle.ahb_bus.specs.BusState.{BusState}
use Rattle.core_parts.specs.CoreValue.{CoreValue}
use Rattle.lf_model.specs.Records.CoreRecord.{RecordOk}
use Rattle.lf_model.specs.declared.record.CoreRecord.{CoreRecord}
use Rattle.lf_model.specs.declared.setup.Setup.{Setup}

-- core number c leaves this record: it has the core's steps and operations, and is right beside the log and all transfers
pub record LeavesRecord (setup : Setup) (bus : BusState) (c : ℕ) (v : CoreValue) (kept : CoreRecord) : Type 0 where
  pub number : v.arch.core ≡ c
  pub steps : kept.result.steps ≡ v.steps
  pub ops : kept.ops ≡ v.ops
  pub right : RecordOk setup c kept bus.log bus.transfers

-- each of these cores, the first of which has number c, leaves its own
abbrev pub LeaveRecords : Setup → BusState → ℕ → List CoreValue → List CoreRecord → Type 0
LeaveRecords setup bus c [] [] = Unit {0}
LeaveRecords setup bus c [] (kept ∷ records) = ⊥
LeaveRecords setup bus c (v ∷ vs) [] = ⊥
LeaveRecords setup bus c (v ∷ vs) (kept ∷ records) = LeavesRecord setup bus c v kept × LeaveRecords setup bus (c + 1) vs records
