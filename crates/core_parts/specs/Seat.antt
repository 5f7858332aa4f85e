-- The parts of a core are its seat of the course after the steps that it made and the transfers that it saw.
use Rattle.std.specs.Prelude.{ℕ, ◌≡◌, ◌+◌, ◌-◌, false, List, [], length, map, filter}
use Rattle.std.specs.List.{zip}
use Rattle.core_parts.specs.CoreValue.{CoreValue, seen_of}
use Rattle.core_parts.specs.Needs.{kind_of, why_of, IsTurnOf}
use Rattle.core_parts.specs.Phases.{halt_by}
use Rattle.core_parts.specs.PortState.{arrays_in}
use Rattle.core_parts.specs.declared.phase.Phase.{Phase}
use Rattle.core_parts.specs.declared.phase.Phase.TheVariants.{Between, Begun, Needs, Ended}
use Rattle.lf_model.specs.Course.Arrays.{Arrays, begun}
use Rattle.lf_model.specs.Course.Core.{Ground, is_store, is_store_stop}
use Rattle.lf_model.specs.Course.Course.{course}
use Rattle.lf_model.specs.Course.LocalStep.{local_steps}
use Rattle.lf_model.specs.Course.Outcome.Need.{Turn as Asks}
use Rattle.lf_model.specs.Course.Progress.{Progress, ErrorTrap}
use Rattle.lf_model.specs.Course.Turn.{turn_attempt, turn_needs}
use Rattle.lf_model.specs.Ledger.CoreAccount.{errors_reported}
use Rattle.lf_model.specs.Records.CoreRecord.{completion_reported}
use Rattle.lf_model.specs.Records.OwnTurns.{next_effect}
use Rattle.lf_model.specs.Run.{Run}
use Rattle.lf_model.specs.Step.{state_of}
use Rattle.lf_model.specs.declared.bus.Transfer.{Transfer}
use Rattle.lf_model.specs.declared.step.Turn.{Turn}
use Rattle.lf_model.specs.declared.trace.Op.{Op}

-- the seat after these transfers and so many steps
abbrev pub seat : Ground → List Transfer → ℕ → Progress
seat g transfers steps = local_steps g (steps - (course g transfers).steps) (course g transfers)

-- its state, in error mode once it has entered that, and its operations
abbrev pub run_of_core : CoreValue → Run
run_of_core v = record { state = record (state_of v.arch (seen_of v)) { halt = halt_by v.phase }; ops = (seen_of v).ops }

-- ---- its arrays, by its phase

-- a step that is begun needs this turn: the instruction was tried, unless the turn leaves it
pub record NeedsTurn (g : Ground) (k : Progress) (turn : Turn) (a : Arrays) : Type 0 where
  pub needed : turn_needs g (why_of turn) (turn_attempt g (why_of turn) (next_effect g k) k) k ≡ Asks (kind_of turn) (why_of turn)
  pub aimed : IsTurnOf k.run.state.ctl.pc (next_effect g k) turn
  pub tried : a ≡ (turn_attempt g (why_of turn) (next_effect g k) k).arrays

abbrev pub ArraysAre : Ground → Progress → Arrays → Phase → Type 0
ArraysAre g k a Between = a ≡ k.arrays
ArraysAre g k a Begun = a ≡ begun g.flips k.steps k.arrays
ArraysAre g k a (Needs turn) = NeedsTurn g k turn a
ArraysAre g k a (Ended end) = a ≡ k.arrays

-- ---- its error traps, and the stores that wait

abbrev pub errors_by : ℕ → ℕ → Phase → List ErrorTrap
errors_by steps turns (Ended end) = errors_reported end steps turns
errors_by steps turns Between = []
errors_by steps turns Begun = []
errors_by steps turns (Needs turn) = []

-- the stores that retired and have not left the store buffer are those that wait, unless a store stopped the core, which lost them
abbrev pub WaitsBy : ℕ → Progress → Phase → Type 0
WaitsBy waiting k (Ended end) = is_store_stop end ≡ false → k.drained + waiting ≡ k.stored
WaitsBy waiting k Between = k.drained + waiting ≡ k.stored
WaitsBy waiting k Begun = k.drained + waiting ≡ k.stored
WaitsBy waiting k (Needs turn) = k.drained + waiting ≡ k.stored

-- ---- the whole

pub record IsSeat (v : CoreValue) (g : Ground) (k : Progress) : Type 0 where
  pub steps : k.steps ≡ v.steps
  pub quiet : k.quiet ≡ v.quiet
  pub retired : k.retired ≡ v.arch.n
  pub run : k.run ≡ run_of_core v
  pub arrays : ArraysAre g k (arrays_in v.ports) v.phase
  pub seen : k.seen ≡ v.log_seen
  pub unseen : k.unseen ≡ []
  pub completions : k.completions ≡ map (λ (o : Op × ℕ). completion_reported o.0 o.1) (zip v.ops v.seen_by)
  pub errors : k.errors ≡ errors_by v.steps k.turns v.phase
  pub owed : k.owed ≡ 0
  pub stored : k.stored ≡ length (filter is_store v.ops)
  pub waits : WaitsBy (length v.ports.waiting) k v.phase
