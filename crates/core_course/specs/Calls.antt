-- What the calls of a core ask and promise.
use Rattle.std.specs.Prelude.{◌≡◌, ◌<◌, ◌==◌, true, false, List, length, take, drop}
use Rattle.std.specs.List.{AllByRecursion, list_all}
use Rattle.core_course.specs.CoreOk.{CoreOk}
use Rattle.core_parts.specs.CoreValue.{CoreValue}
use Rattle.core_parts.specs.Moves.{tried_at}
use Rattle.core_parts.specs.Phases.{ground_so_far, state_of_core}
use Rattle.core_parts.specs.Seat.{seat}
use Rattle.core_parts.specs.declared.phase.CoreState.TheVariants.{Draining}
use Rattle.core_parts.specs.declared.phase.Phase.{Phase}
use Rattle.core_parts.specs.declared.phase.Phase.TheVariants.{Between, Begun, Needs, Ended}
use Rattle.lf_model.specs.Course.Core.{Ground}
use Rattle.lf_model.specs.Course.Progress.{Progress, next_needs}
use Rattle.lf_model.specs.Records.BusRecord.{is_in_memory}
use Rattle.lf_model.specs.Records.OwnTurns.{next_effect}
use Rattle.lf_model.specs.Records.SeenOrder.{is_entry_of}
use Rattle.lf_model.specs.declared.bus.Entry.{Entry}
use Rattle.lf_model.specs.declared.bus.Transfer.{Transfer}
use Rattle.lf_model.specs.declared.bus.Why.TheVariants.{End, Sched}
use Rattle.lf_model.specs.declared.step.Did.{Did}
use Rattle.lf_model.specs.declared.step.Turn.{Turn}
use Rattle.lf_model.specs.declared.step.Turn.TheVariants.{Drain}
use Rattle.v8_exec.specs.CourseParts.{did_by}

-- ---- the bus that a core meets

-- its transfers lie in memory; of its log and transfers, those that came since the core's last turn are all others'
pub record Joins (v : CoreValue) (log : List Entry) (transfers : List Transfer) : Type 0 where
  pub ok : CoreOk v (take v.log_seen log) (take v.turns_seen transfers)
  pub in_memory : list_all (is_in_memory v.setup.config.ram) transfers ≡ true
  pub entries : AllByRecursion (λ e. is_entry_of v.arch.core e ≡ false) (drop v.log_seen log)
  pub others : AllByRecursion (λ (t : Transfer). (v.arch.core == t.master) ≡ false) (drop v.turns_seen transfers)

-- ---- start_step and local_step: no step is begun, and steps are left
pub record MayStep (v : CoreValue) : Type 0 where
  pub between : v.phase ≡ Between
  pub left : v.steps < v.setup.config.steps

-- ---- bus_step: the turn that the step needs, a drain by the schedule, or one after the last step
abbrev pub MayTurnBy : CoreValue → Turn → Phase → Type 0
MayTurnBy v turn (Needs asked) = turn ≡ asked
MayTurnBy v turn Begun = (turn ≡ Drain Sched) × (0 < length v.ports.waiting)
MayTurnBy v turn Between = (turn ≡ Drain End) × (state_of_core v ≡ Draining)
MayTurnBy v turn (Ended end) = ⊥

abbrev pub MayTurn : CoreValue → Turn → Type 0
MayTurn v turn = MayTurnBy v turn v.phase

-- ---- the answer of local_step is the table's, at the seat that the core had

-- of the step after this place of the course, by what its instruction comes to and what the step needs
abbrev pub answer_at : Ground → Progress → Did
answer_at g k = let x = tried_at g k in did_by k.run.state (next_effect g k) x.arrays.cells (next_needs g k x.outcome)

abbrev pub Answers : CoreValue → List Transfer → Did → Type 0
Answers v transfers answer = let g = ground_so_far v in answer ≡ answer_at g (seat g transfers v.steps)
