-- A core's turn on the bus, up to what it asks of memory: what its step needed, what it does before the transfer, and at which
-- address the transfer is.
use Rattle.std.specs.Prelude.{ℕ, ◌||◌, nat_le, Bool, List, fold, length, Option, Some, None, option_map, slice_get, if◌then◌else◌}
use Rattle.lf_model.specs.Caches.Slot.{line_of}
use Rattle.lf_model.specs.Caches.Cache.{way_of}
use Rattle.lf_model.specs.Caches.Change.{snooped, victim}
use Rattle.lf_model.specs.Course.Arrays.{Arrays, begun}
use Rattle.lf_model.specs.Course.Attempt.{Attempt, comes_to, attempt}
use Rattle.lf_model.specs.Course.Core.{Ground}
use Rattle.lf_model.specs.Course.Outcome.{Need, drains}
use Rattle.lf_model.specs.Course.Outcome.Need.{NoTurn}
use Rattle.lf_model.specs.Course.Outcome.Outcome.{NotTried}
use Rattle.lf_model.specs.Course.Progress.{Progress, store_waits, next_needs}
use Rattle.lf_model.specs.Effect.{AccessKind, Access, Effect}
use Rattle.lf_model.specs.Names.{same_why}
use Rattle.lf_model.specs.Start.{is_text_word}
use Rattle.lf_model.specs.declared.bus.Entry.{Entry}
use Rattle.lf_model.specs.declared.bus.Transfer.{Transfer}
use Rattle.lf_model.specs.declared.bus.TurnKind.{TurnKind}
use Rattle.lf_model.specs.declared.bus.TurnKind.TheVariants.{Fetch, Load, Store, Atomic, Snoop, Look, Fix}
use Rattle.lf_model.specs.declared.bus.Why.{Why}
use Rattle.lf_model.specs.declared.bus.Why.TheVariants as whys

-- ---- before the transfer

-- all steps are made: the turn is the drain of a store that still waits
abbrev pub is_past_steps : Ground → Progress → Bool
is_past_steps g k = nat_le g.steps k.steps

-- a step that makes its turn for its window, or by the schedule, doesn't try its instruction
abbrev pub leaves_instruction : Why → Bool
leaves_instruction why = same_why why whys.Window || same_why why whys.Sched

-- what the instruction comes to in the step of a turn with this cause, and the arrays before the transfer
abbrev pub turn_attempt : Ground → Why → Effect → Progress → Attempt
turn_attempt g why e k = if is_past_steps g k then comes_to NotTried k.arrays
    else if leaves_instruction why then comes_to NotTried (begun g.flips k.steps k.arrays)
    else attempt g.setup.image k.run.state e (begun g.flips k.steps k.arrays)

-- what the step of a turn with this cause needs. After the last step, and where the schedule asks, it is right to drain just
-- where a store waits.
abbrev pub turn_needs : Ground → Why → Attempt → Progress → Need
turn_needs g why x k = if is_past_steps g k then drains (store_waits k) whys.End NoTurn
    else if same_why why whys.Sched then drains (store_waits k) whys.Sched NoTurn
    else next_needs g k x.outcome

-- the core catches up: its data cache snoops the stores that others made since its last turn, in order
abbrev pub caught_up : List ℕ → Arrays → Arrays
caught_up unseen a = record a { data_cache = fold snooped a.data_cache unseen }

-- the arrays as the transfer begins
abbrev pub arrays_before : Ground → Why → Effect → Progress → Arrays
arrays_before g why e k = caught_up k.unseen (turn_attempt g why e k).arrays

-- ---- where the transfer is

-- its address and length, and, of a store or an atomic, the number of the operation
pub record Target : Type 0 where
  pub addr : ℕ
  pub len : ℕ
  pub number : ℕ

abbrev pub line_target : ℕ → Target
line_target addr = record { addr = line_of addr; len = 0; number = 0 }

abbrev pub store_target : Entry → Target
store_target entry = record { addr = entry.addr; len = entry.len; number = entry.k }

-- the target of a load's fill, and of an atomic, by the operation that the instruction makes
abbrev pub load_target : Access → AccessKind → Option Target
load_target x AccessKind.Load = Some (line_target x.addr)
load_target x AccessKind.Store = None
load_target x AccessKind.Atomic = None

abbrev pub atomic_target : ℕ → Access → AccessKind → Option Target
atomic_target number x AccessKind.Load = None
atomic_target number x AccessKind.Store = None
atomic_target number x AccessKind.Atomic = Some (record { addr = x.addr; len = x.len; number = number })

abbrev pub target_by : (Access → AccessKind → Option Target) → Option Access → Option Target
target_by target None = None
target_by target (Some x) = target x x.kind

-- where a transfer of this kind is: none where it only catches up, as a fill or an atomic that the instruction at PC doesn't
-- make, and a store after the last one
abbrev pub target_of : Ground → Progress → Effect → TurnKind → Option Target
target_of g k e Fetch = if is_text_word g.setup.image.text k.run.state.ctl.pc then Some (line_target k.run.state.ctl.pc) else None
target_of g k e Load = target_by load_target e.access
target_of g k e Store = option_map store_target (slice_get g.given.stores k.drained)
target_of g k e Atomic = target_by (atomic_target (length k.run.ops)) e.access
target_of g k e Snoop = None
target_of g k e Look = None
target_of g k e Fix = None

-- the way that a fill takes
abbrev pub fill_way : ℕ → Arrays → TurnKind → ℕ
fill_way addr a Fetch = way_of (victim addr a.fetch_cache) a.fetch_cache
fill_way addr a Load = way_of (victim addr a.data_cache) a.data_cache
fill_way addr a Store = 0
fill_way addr a Atomic = 0
fill_way addr a Snoop = 0
fill_way addr a Look = 0
fill_way addr a Fix = 0

abbrev pub addressed_at : Ground → Effect → Progress → Transfer → Option Target → Transfer
addressed_at g e k t None = record t { addr = 0; way = 0; words = 0; syn = 0; len = 0 }
addressed_at g e k t (Some p) = record t { addr = p.addr; way = fill_way p.addr (arrays_before g t.why e k) t.kind; words = 0; syn = 0; len = p.len }

-- the transfer with its address, length and way, before memory answers
abbrev pub addressed : Ground → Effect → Progress → Transfer → Transfer
addressed g e k t = addressed_at g e k t (target_of g k e t.kind)
