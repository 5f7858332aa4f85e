-- A core tries its instruction: it fetches the word at PC through the fetch cache, reads the registers, and looks a load up in
-- the data cache. In this order, up to the first of these that stops it.
use Rattle.std.specs.Prelude.{ℕ, Option, Some, None, if◌then◌else◌}
use Rattle.lf_model.specs.Caches.Look.{LookUp, Looked, look}
use Rattle.lf_model.specs.Caches.Look.LookUp.{Hit, Miss}
use Rattle.lf_model.specs.Course.Arrays.{Arrays, CellsRead, cells_of, read_cells}
use Rattle.lf_model.specs.Course.Outcome.{Outcome}
use Rattle.lf_model.specs.Course.Outcome.Outcome.{NoText, FetchMiss, BadRegister, OrdinaryTrap, LoadMiss, LoadHit, Store, Atomic, Barrier, Other}
use Rattle.lf_model.specs.Effect.{AccessKind, Access, Effect}
use Rattle.lf_model.specs.Start.{is_text_word}
use Rattle.lf_model.specs.State.{State}
use Rattle.lf_model.specs.declared.bus.Why.{Why}
use Rattle.lf_model.specs.declared.image.Image.{Image}

-- what it came to, and the arrays then
pub record Attempt : Type 0 where
  pub outcome : Outcome
  pub arrays : Arrays

abbrev pub comes_to : Outcome → Arrays → Attempt
comes_to outcome a = record { outcome = outcome; arrays = a }

-- ---- the instruction, once its word is fetched and its registers are read

abbrev pub load_outcome : LookUp → Outcome
load_outcome (Hit slot) = LoadHit slot
load_outcome (Miss why) = LoadMiss why

-- a load looks its bytes up in the data cache
abbrev pub load_attempt : Arrays → Looked → Attempt
load_attempt a looked = comes_to (load_outcome looked.answer) (record a { data_cache = looked.cache })

abbrev pub access_attempt : Access → Arrays → AccessKind → Attempt
access_attempt x a AccessKind.Load = load_attempt a (look x.addr x.len a.data_cache)
access_attempt x a AccessKind.Store = comes_to Store a
access_attempt x a AccessKind.Atomic = comes_to Atomic a

abbrev pub barrier_attempt : Arrays → Option Why → Attempt
barrier_attempt a None = comes_to Other a
barrier_attempt a (Some why) = comes_to (Barrier why) a

abbrev pub operation_attempt : Effect → Arrays → Option Access → Attempt
operation_attempt e a None = barrier_attempt a e.barrier
operation_attempt e a (Some x) = access_attempt x a x.kind

abbrev pub trap_attempt : Effect → Arrays → Option ℕ → Attempt
trap_attempt e a None = operation_attempt e a e.access
trap_attempt e a (Some tt_) = comes_to OrdinaryTrap a

-- ---- its registers

abbrev pub register_attempt : Effect → Arrays → Option ℕ → Attempt
register_attempt e a None = trap_attempt e a e.trap
register_attempt e a (Some cell) = comes_to (BadRegister cell) a

abbrev pub read_attempt : Effect → Arrays → CellsRead → Attempt
read_attempt e a read = register_attempt e (record a { cells = read.cells }) read.bad

-- ---- its fetch

abbrev pub fetch_attempt : State → Effect → Arrays → LookUp → Attempt
fetch_attempt s e a (Miss why) = comes_to (FetchMiss why) a
fetch_attempt s e a (Hit slot) = read_attempt e a (read_cells (cells_of s.ctl.cwp e.reads) a.cells)

abbrev pub looked_attempt : State → Effect → Arrays → Looked → Attempt
looked_attempt s e a looked = fetch_attempt s e (record a { fetch_cache = looked.cache }) looked.answer

-- the instruction at PC, which has this effect, is tried; a PC that is no text word traps
unfoldable pub attempt : Image → State → Effect → Arrays → Attempt
attempt image s e a = if is_text_word image.text s.ctl.pc then looked_attempt s e a (look s.ctl.pc 4 a.fetch_cache) else comes_to NoText a
