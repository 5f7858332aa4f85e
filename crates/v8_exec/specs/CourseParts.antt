-- What the parts of a core answer an instruction, by the arrays of its course, and what a step answers by the turn that it needs.
use Rattle.std.specs.Prelude.{ℕ, ◌≡◌, List, map, Option, Some, None, if◌then◌else◌}
use Rattle.lf_model.specs.Caches.Cache.{Cache, way_of}
use Rattle.lf_model.specs.Caches.Look.{LookUp, look}
use Rattle.lf_model.specs.Caches.Look.LookUp.{Hit as Hits, Miss as Misses}
use Rattle.lf_model.specs.Caches.Slot.{history_at, line_of}
use Rattle.lf_model.specs.Course.Arrays.{Arrays}
use Rattle.lf_model.specs.Course.Core.{r_register_access_error}
use Rattle.lf_model.specs.Course.Outcome.{Need}
use Rattle.lf_model.specs.Course.Outcome.Need.{NoTurn, Turn, RegisterStop}
use Rattle.lf_model.specs.Effect.{Access, Effect}
use Rattle.lf_model.specs.Flips.{Moment, is_bad_word, syndrome}
use Rattle.lf_model.specs.State.{State}
use Rattle.lf_model.specs.Step.{Parts}
use Rattle.lf_model.specs.declared.bus.TurnKind.{TurnKind}
use Rattle.lf_model.specs.declared.bus.TurnKind.TheVariants as kinds
use Rattle.lf_model.specs.declared.bus.Why.{Why}
use Rattle.lf_model.specs.declared.step.Did.{Did}
use Rattle.lf_model.specs.declared.step.Did.TheVariants as answers
use Rattle.lf_model.specs.declared.step.Look.{Look}
use Rattle.lf_model.specs.declared.step.Look.TheVariants.{Hit, Miss}
use Rattle.lf_model.specs.declared.step.Turn.{Turn as TurnAsked}
use Rattle.lf_model.specs.declared.step.Turn.TheVariants as turns

-- ---- what the parts answer

-- the syndrome of a cell that is bad
abbrev pub bad_syndrome : List Moment → Option ℕ
bad_syndrome h = if is_bad_word h then Some (syndrome h) else None

-- a look-up hits where that of the course hits, in the way of its slot, and misses with its cause
abbrev pub AgreesWith : Cache → LookUp → Look → Type 0
AgreesWith cache (Hits slot) (Hit value way) = way ≡ way_of slot cache
AgreesWith cache (Hits slot) (Miss why) = ⊥
AgreesWith cache (Misses cause) (Hit value way) = ⊥
AgreesWith cache (Misses cause) (Miss why) = why ≡ cause

pub record AnswersBy (a : Arrays) (parts : Parts) : Type 0 where
  pub bad : parts.bad ≡ map bad_syndrome a.cells
  pub look_up : (addr len : ℕ) → AgreesWith a.data_cache (look addr len a.data_cache).answer (parts.look addr len)

-- ---- what a step answers

-- the turn of a load's fill and of an atomic, by the operation that the instruction makes
abbrev pub load_turn : Why → Option Access → TurnAsked
load_turn why None = turns.Snoop
load_turn why (Some x) = turns.Load x.addr x.len why

abbrev pub atomic_turn : Option Access → TurnAsked
atomic_turn None = turns.Snoop
atomic_turn (Some x) = turns.Atomic x.addr x.len x.put x.rd

-- the turn of this kind and cause. Looks and fixes are turns of the scrubber, and no core's.
abbrev pub turn_asked : State → Effect → Why → TurnKind → TurnAsked
turn_asked s e why kinds.Fetch = turns.Fetch (line_of s.ctl.pc) why
turn_asked s e why kinds.Load = load_turn why e.access
turn_asked s e why kinds.Store = turns.Drain why
turn_asked s e why kinds.Atomic = atomic_turn e.access
turn_asked s e why kinds.Snoop = turns.Snoop
turn_asked s e why kinds.Look = turns.Snoop
turn_asked s e why kinds.Fix = turns.Snoop

-- an instruction that needs no turn retires, but a trap halts the core where traps are disabled
abbrev pub retired_or_halted : State → Option ℕ → Did
retired_or_halted s None = answers.Retired
retired_or_halted s (Some tt_) = if s.ctl.et then answers.Retired else answers.Halt tt_

-- the answer of a step whose instruction has this effect, by what it needs and the histories of the cells
abbrev pub did_by : State → Effect → List (List Moment) → Need → Did
did_by s e cells NoTurn = retired_or_halted s e.trap
did_by s e cells (Turn kind why) = answers.Need (turn_asked s e why kind)
did_by s e cells (RegisterStop cell) = answers.Stop r_register_access_error cell (syndrome (history_at cell cells))
