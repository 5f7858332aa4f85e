-- The records that cores leave one after another, and what they are beside the bus of the machine.
use Rattle.std.proofs.Common.{◌≡◌, ◌+◌, ◌++◌, ℕ, suc, List, [], ◌∷◌, IfSome, slice_get, ap, subst, arith}
use Rattle.ahb_bus.specs.BusState.{BusState}
use Rattle.core_parts.specs.CoreValue.{CoreValue}
use Rattle.core_parts.specs.Phases.{state_of_core}
use Rattle.core_parts.specs.declared.phase.CoreState.{CoreState}
use Rattle.core_parts.specs.declared.phase.CoreState.TheVariants.{Running, Draining, Ended}
use Rattle.leon_core.specs.Ends.{LeavesBy}
use Rattle.lf_model.specs.Records.CoreRecord.{RecordOk}
use Rattle.lf_model.specs.declared.record.CoreRecord.{CoreRecord}
use Rattle.lf_model.specs.declared.setup.Setup.{Setup}
use Rattle.machine_play.specs.Ending.{LeavesOk, AllLeave}
use Rattle.machine_play.specs.LeavesRecords.{LeavesRecord, LeaveRecords}
use Rattle.machine_play.specs.Machine.{IsCoreAt}

pub one_more_leaves : (vs : List CoreValue) (records : List CoreRecord) (v : CoreValue) (kept : CoreRecord) → AllLeave vs records → LeavesOk v kept → AllLeave (vs ++ v ∷ []) (records ++ kept ∷ [])
one_more_leaves [] [] v kept all ok = (ok, tt)
one_more_leaves [] (r ∷ records) v kept all ok = absurd all
one_more_leaves (u ∷ vs) [] v kept all ok = absurd all
one_more_leaves (u ∷ vs) (r ∷ records) v kept all ok = (all.0, one_more_leaves vs records v kept all.1 ok)

-- its steps and operations
steps_left_by : (v : CoreValue) (kept : CoreRecord) (state : CoreState) → LeavesBy v kept state → kept.result.steps ≡ v.steps
steps_left_by v kept Running h = absurd h
steps_left_by v kept Draining h = absurd h
steps_left_by v kept (Ended end) h = ap (λ (r : CoreRecord). r.result.steps) h

ops_left_by : (v : CoreValue) (kept : CoreRecord) (state : CoreState) → LeavesBy v kept state → kept.ops ≡ v.ops
ops_left_by v kept Running h = absurd h
ops_left_by v kept Draining h = absurd h
ops_left_by v kept (Ended end) h = ap (λ (r : CoreRecord). r.ops) h

module _ (setup : Setup) (bus : BusState) where
  one_leaves : (c : ℕ) (v : CoreValue) (kept : CoreRecord) → IsCoreAt setup bus c v → LeavesOk v kept → LeavesRecord setup bus c v kept
  one_leaves c v kept at ok = record {
    number = at.number;
    steps = steps_left_by v kept (state_of_core v) ok.leaves;
    ops = ops_left_by v kept (state_of_core v) ok.leaves;
    right = subst (λ (s : Setup). RecordOk s c kept bus.log bus.transfers) at.setup_is (subst (λ (n : ℕ). RecordOk v.setup n kept bus.log bus.transfers) at.number (ok.ok bus.log bus.transfers at.joins));
  }

  -- all of them, where the first has number c
  pub all_leave : (c : ℕ) (vs : List CoreValue) (records : List CoreRecord) → ((i : ℕ) → IfSome (slice_get vs i) (IsCoreAt setup bus (c + i))) → AllLeave vs records → LeaveRecords setup bus c vs records
  all_leave c [] [] at all = tt
  all_leave c [] (kept ∷ records) at all = absurd all
  all_leave c (v ∷ vs) [] at all = absurd all
  all_leave c (v ∷ vs) (kept ∷ records) at all = (
    one_leaves c v kept (subst (λ (n : ℕ). IsCoreAt setup bus n v) first (at 0)) all.0,
    all_leave (c + 1) vs records (λ i. subst (λ (n : ℕ). IfSome (slice_get vs i) (IsCoreAt setup bus n)) (next i) (at (suc i))) all.1,
  )
    where
      first : c + 0 ≡ c
      first = omega arith

      next : (i : ℕ) → c + suc i ≡ c + 1 + i
      next i = omega arith
