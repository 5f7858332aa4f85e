-- A local step: one that makes no turn on the bus. Its instruction retires, but for the last step of a core that a bad register
-- cell stops.
use Rattle.std.specs.Prelude.{ℕ, zero, suc, ◌+◌, ◌==◌, ◌&&◌, not, Bool, List, [], ◌∷◌, ◌++◌, Option, Some, None, if◌then◌else◌}
use Rattle.lf_model.specs.Caches.Slot.{history_at, befalls}
use Rattle.lf_model.specs.Caches.Cache.{Cache, way_of}
use Rattle.lf_model.specs.Caches.Change.{updated, flushed}
use Rattle.lf_model.specs.Course.Arrays.{Arrays, begun, write_cells}
use Rattle.lf_model.specs.Course.Attempt.{Attempt, attempt}
use Rattle.lf_model.specs.Course.Core.{Ground, is_store_kind, is_register_stop, r_register_access_error}
use Rattle.lf_model.specs.Course.Outcome.{Outcome, Need}
use Rattle.lf_model.specs.Course.Outcome.Need.{NoTurn, Turn, RegisterStop}
use Rattle.lf_model.specs.Course.Outcome.Outcome.{NotTried, NoText, FetchMiss, BadRegister, OrdinaryTrap, LoadMiss, LoadHit, Store, Atomic, Barrier, Other}
use Rattle.lf_model.specs.Course.Progress.{ErrorTrap, Progress, next_needs, retired_if}
use Rattle.lf_model.specs.Effect.{Access, operation_kind, Effect}
use Rattle.lf_model.specs.Flips.{syndrome}
use Rattle.lf_model.specs.Flips.Moment.{Named}
use Rattle.lf_model.specs.Names.{same_why}
use Rattle.lf_model.specs.Run.{effect_at_pc}
use Rattle.lf_model.specs.declared.bus.Why.{Why}
use Rattle.lf_model.specs.declared.bus.Why.TheVariants.{Flush}

-- ---- what an instruction that retires does to the arrays

-- a store updates the data cache
abbrev pub store_by : Option Access → Arrays → Arrays
store_by None a = a
store_by (Some x) a = if is_store_kind (operation_kind x.kind) then record a { data_cache = updated x.addr x.len a.data_cache } else a

-- FLUSH empties both caches
abbrev pub flush_by : Option Why → Arrays → Arrays
flush_by None a = a
flush_by (Some why) a = if same_why why Flush then record a { fetch_cache = flushed a.fetch_cache; data_cache = flushed a.data_cache } else a

-- then the register cells are written
abbrev pub retired_arrays : Effect → Arrays → Arrays
retired_arrays e a = write_cells e.writes (flush_by e.barrier (store_by e.access a))

-- ---- what a step that came to a stop does

-- the error trap names the cell
abbrev pub named_cell : Outcome → Arrays → Arrays
named_cell (BadRegister cell) a = record a { cells = befalls (λ h. Named ∷ h) cell a.cells }
named_cell NotTried a = a
named_cell NoText a = a
named_cell (FetchMiss why) a = a
named_cell OrdinaryTrap a = a
named_cell (LoadMiss why) a = a
named_cell (LoadHit slot) a = a
named_cell Store a = a
named_cell Atomic a = a
named_cell (Barrier why) a = a
named_cell Other a = a

-- ---- the step

-- the way that a load hit
abbrev pub way_hit : Cache → Outcome → Option ℕ
way_hit cache (LoadHit slot) = Some (way_of slot cache)
way_hit cache NotTried = None
way_hit cache NoText = None
way_hit cache (FetchMiss why) = None
way_hit cache (BadRegister cell) = None
way_hit cache OrdinaryTrap = None
way_hit cache (LoadMiss why) = None
way_hit cache Store = None
way_hit cache Atomic = None
way_hit cache (Barrier why) = None
way_hit cache Other = None

-- a step without a turn that needs the stop by a register cell has met an error trap
abbrev pub register_errors : Arrays → Progress → Need → List ErrorTrap
register_errors a k (RegisterStop cell) = record {
  trap_type = r_register_access_error;
  place = cell;
  syndrome = syndrome (history_at cell a.cells);
  steps = k.steps + 1;
  turns = None;
} ∷ []
register_errors a k NoTurn = []
register_errors a k (Turn kind why) = []

-- it owes the turn that it needs
abbrev pub turns_owed : Need → ℕ
turns_owed NoTurn = 0
turns_owed (Turn kind why) = 1
turns_owed (RegisterStop cell) = 0

-- the next step is the last of a core that a bad register cell stops
abbrev pub is_last_stop : Ground → ℕ → Bool
is_last_stop g step = is_register_stop g.end && step + 1 == g.steps

-- the step whose instruction has this effect and came to this
abbrev pub local_step_by : Ground → Effect → Attempt → Progress → Progress
local_step_by g e x k =
    let retires = not (is_last_stop g k.steps) in
    record (retired_if retires g e (way_hit x.arrays.data_cache x.outcome) k.seen k) {
      steps = k.steps + 1;
      quiet = k.quiet + 1;
      arrays = if retires then retired_arrays e x.arrays else named_cell x.outcome x.arrays;
      errors = k.errors ++ register_errors x.arrays k (next_needs g k x.outcome);
      owed = k.owed + turns_owed (next_needs g k x.outcome);
    }

unfoldable pub local_step : Ground → Progress → Progress
local_step g k =
    let e = effect_at_pc g.setup g.core k.run.state in
    local_step_by g e (attempt g.setup.image k.run.state e (begun g.flips k.steps k.arrays)) k

-- so many local steps
abbrev pub local_steps : Ground → ℕ → Progress → Progress
local_steps g zero k = k
local_steps g (suc n) k = local_steps g n (local_step g k)
