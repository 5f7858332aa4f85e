-- What a core's attempt of an instruction comes to, by the footprint of the instruction.
use Rattle.std.specs.Prelude.{ℕ, Bool, true, false, Option, Some, None, if◌then◌else◌}
use Rattle.lf_model.specs.Caches.Look.{LookUp, Looked, look}
use Rattle.lf_model.specs.Caches.Look.LookUp.{Hit, Miss}
use Rattle.lf_model.specs.Course.Arrays.{Arrays, CellsRead, read_cells}
use Rattle.lf_model.specs.Course.Attempt.{Attempt, comes_to, load_attempt, barrier_attempt}
use Rattle.lf_model.specs.Course.Outcome.{Outcome}
use Rattle.replay_effects.specs.declared.footprint.Access.{Access}
use Rattle.replay_effects.specs.declared.footprint.AccessKind.{AccessKind}
use Rattle.replay_effects.specs.declared.footprint.AccessKind.TheVariants.{Load, Store, Atomic}
use Rattle.replay_effects.specs.declared.footprint.Footprint.{Footprint}
use Rattle.replay_effects.specs.declared.look_ups.LookUp.{LookUp as Answer}
use Rattle.replay_effects.specs.declared.look_ups.LookUp.TheVariants as answers
use Rattle.replay_effects.specs.declared.outcome.Outcome.{Outcome as Shown}
use Rattle.replay_effects.specs.declared.outcome.Outcome.TheVariants as shown

-- ---- what the calls answer, as the course has it

abbrev pub look_up_of : Answer → LookUp
look_up_of (answers.Hit slot) = Hit slot
look_up_of (answers.Miss why) = Miss why

abbrev pub outcome_of : Shown → Outcome
outcome_of shown.NoText = Outcome.NoText
outcome_of (shown.FetchMiss why) = Outcome.FetchMiss why
outcome_of (shown.BadRegister cell) = Outcome.BadRegister cell
outcome_of shown.OrdinaryTrap = Outcome.OrdinaryTrap
outcome_of (shown.LoadMiss why) = Outcome.LoadMiss why
outcome_of (shown.LoadHit slot) = Outcome.LoadHit slot
outcome_of shown.Store = Outcome.Store
outcome_of shown.Atomic = Outcome.Atomic
outcome_of (shown.Barrier why) = Outcome.Barrier why
outcome_of shown.Other = Outcome.Other

-- ---- the attempt, by the footprint in place of the effect

abbrev pub access_by : Access → Arrays → AccessKind → Attempt
access_by x a Load = load_attempt a (look x.addr x.len a.data_cache)
access_by x a Store = comes_to Outcome.Store a
access_by x a Atomic = comes_to Outcome.Atomic a

abbrev pub operation_by : Footprint → Arrays → Option Access → Attempt
operation_by f a None = barrier_attempt a f.barrier
operation_by f a (Some x) = access_by x a x.kind

abbrev pub trap_by : Footprint → Arrays → Bool → Attempt
trap_by f a false = operation_by f a f.access
trap_by f a true = comes_to Outcome.OrdinaryTrap a

abbrev pub register_by : Footprint → Arrays → Option ℕ → Attempt
register_by f a None = trap_by f a f.trap
register_by f a (Some cell) = comes_to (Outcome.BadRegister cell) a

abbrev pub read_by : Footprint → Arrays → CellsRead → Attempt
read_by f a read = register_by f (record a { cells = read.cells }) read.bad

abbrev pub fetch_by : Footprint → Arrays → LookUp → Attempt
fetch_by f a (Miss why) = comes_to (Outcome.FetchMiss why) a
fetch_by f a (Hit slot) = read_by f a (read_cells f.reads.items a.cells)

abbrev pub looked_by : Footprint → Arrays → Looked → Attempt
looked_by f a looked = fetch_by f (record a { fetch_cache = looked.cache }) looked.answer

-- PC is a text word or not, and the instruction at it has this footprint
abbrev pub attempt_by : Bool → ℕ → Footprint → Arrays → Attempt
attempt_by is_text pc f a = if is_text then looked_by f a (look pc 4 a.fetch_cache) else comes_to Outcome.NoText a
