-- The rules about one core, over its result, its operations in program order and the transfers on the bus: its thread, its
-- results, its steps and its course, with the causes of its stop, its blanks and its lost stores. They serve the record that a
-- core leaves and the trace of a run alike.
use Rattle.std.specs.Prelude.{ℕ, ◌≡◌, ◌≤◌, ◌<◌, ◌+◌, List, map, count_by, slice_get, IfSome, IsSomeAnd}
use Rattle.lf_model.specs.Course.Core.{Ground, given_by, ground_of}
use Rattle.lf_model.specs.Course.Course.{course, finished}
use Rattle.lf_model.specs.Course.Progress.{Progress}
use Rattle.lf_model.specs.ProgramOrder.{answers_of, program_order}
use Rattle.lf_model.specs.Operation.{made, is_lost}
use Rattle.lf_model.specs.Results.{halt_of, idle_steps, is_in_steps, IsEnd, LosesStores, ShowsRegisters}
use Rattle.lf_model.specs.Run.{run}
use Rattle.lf_model.specs.State.{State, psr_of}
use Rattle.lf_model.specs.declared.bus.Transfer.{Transfer}
use Rattle.lf_model.specs.declared.setup.Setup.{Setup}
use Rattle.lf_model.specs.declared.trace.CoreResult.{CoreResult}
use Rattle.lf_model.specs.declared.trace.Op.{Op}
use Rattle.lf_model.specs.declared.trace.Trace.{Trace}

-- a core that has ended: its number, its result, its operations in program order, lost stores among them, and all transfers
pub record EndedCore : Type 0 where
  pub core : ℕ
  pub result : CoreResult
  pub ops : List Op
  pub transfers : List Transfer

-- Thread: no more instructions than steps are allowed, and the core's run comes so far and makes just these operations
pub record HasThread (setup : Setup) (c : EndedCore) : Type 0 where
  pub within : c.result.n ≤ setup.config.steps
  pub same : IsSomeAnd (run setup c.core (answers_of c.ops) c.result.n) (λ q. q.ops ≡ map made c.ops)

-- Result: its result shows the state that its run has after its instructions
pub record ShowsState (setup : Setup) (c : EndedCore) (s : State) : Type 0 where
  pub out : c.result.out ≡ s.out
  pub psr : c.result.psr ≡ psr_of s.ctl
  pub wim : c.result.wim ≡ s.wim
  pub tbr : c.result.tbr ≡ s.ctl.tbr
  pub y : c.result.y ≡ s.y
  pub pc : c.result.pc ≡ s.ctl.pc
  pub npc : c.result.npc ≡ s.ctl.npc
  pub registers : ShowsRegisters s c.result.regs
  pub halt : s.halt ≡ halt_of c.result.end
  pub ends : IsEnd setup c.result.steps c.result.end
  pub within : c.result.steps ≤ setup.config.steps
  pub bound : c.result.steps ≤ c.result.n + count_by (is_in_steps c.core c.result.steps) c.transfers + idle_steps c.result.end
  pub lost : 0 < count_by is_lost c.ops → LosesStores c.result.end

abbrev pub ShowsResult : Setup → EndedCore → Type 0
ShowsResult setup c = IsSomeAnd (run setup c.core (answers_of c.ops) c.result.n) (λ q. ShowsState setup c q.state)

-- what its course goes by
abbrev pub ground_of_ended : Setup → EndedCore → Ground
ground_of_ended setup c = ground_of setup c.core (given_by c.ops) c.result.end c.result.steps

-- the core at its end, by its course over the transfers as the bus records them
abbrev pub course_of_ended : Setup → EndedCore → Progress
course_of_ended setup c = finished (ground_of_ended setup c) (course (ground_of_ended setup c) c.transfers)

-- ---- of a trace

abbrev pub core_in_trace : Trace → ℕ → CoreResult → EndedCore
core_in_trace trace c r = record { core = c; result = r; ops = program_order c trace.order; transfers = trace.transfers }

abbrev pub ThreadAt : Setup → Trace → ℕ → Type 0
ThreadAt setup trace c = IfSome (slice_get trace.cores c) (λ r. HasThread setup (core_in_trace trace c r))

abbrev pub ResultAt : Setup → Trace → ℕ → Type 0
ResultAt setup trace c = IfSome (slice_get trace.cores c) (λ r. ShowsResult setup (core_in_trace trace c r))
