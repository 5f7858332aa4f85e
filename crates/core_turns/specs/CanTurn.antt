-- What a turn asks of the core that makes it, and of the bus; and the parts of the core once the turn is over.
use Rattle.std.specs.Prelude.{ℕ, ◌≡◌, ◌+◌, ◌^◌, ◌<◌, nat_le, [], IsTrue, ⊤, length, if◌then◌else◌}
use Rattle.ahb_bus.specs.Asks.{HasEntryLeft, IsCauseOf}
use Rattle.ahb_bus.specs.BusState.{BusState}
use Rattle.ahb_bus.specs.declared.record.Who.{Who}
use Rattle.core_parts.specs.declared.parts.Parts.{Parts}
use Rattle.lf_model.specs.Caches.Cache.{Cache}
use Rattle.lf_model.specs.Caches.Slot.{line_of}
use Rattle.lf_model.specs.Start.{is_in_ram}
use Rattle.lf_model.specs.declared.bus.Pending.{Pending}
use Rattle.lf_model.specs.declared.bus.TurnKind.{TurnKind}
use Rattle.lf_model.specs.declared.bus.TurnKind.TheVariants as kinds
use Rattle.lf_model.specs.declared.bus.Why.{Why}
use Rattle.lf_model.specs.declared.control.Arch.{Arch}
use Rattle.lf_model.specs.declared.setup.Setup.{Setup}
use Rattle.lf_model.specs.declared.step.Turn.{Turn}
use Rattle.lf_model.specs.declared.step.Turn.TheVariants.{Fetch, Load, Atomic, Drain, Snoop}
use Rattle.parity_cache.specs.CacheState.{IsCleanSet}
use Rattle.parity_slots.specs.SlotState.{IsAccess}
use Rattle.core_turns.specs.Exchanging.{CanExchange}

-- the core, in the step after those that it made
abbrev pub who_in : Arch → Parts → Who
who_in arch p = record { master = arch.core; step = p.«record».steps }

-- ---- of the core

-- not all its steps are made
abbrev pub HasStepLeft : Parts → Type 0
HasStepLeft p = p.«record».steps < p.site.config.steps

-- a line of RAM, for this cause. The look-up that missed has checked the set of the line, so that no tag byte of it is struck.
pub record CanFill (setup : Setup) (kind : TurnKind) (why : Why) (line : ℕ) (cache : Cache) : Type 0 where
  pub cause : IsCauseOf kind why
  pub in_ram : IsTrue (is_in_ram setup.config.ram line 32)
  pub clean : IsCleanSet line cache

-- the line of PC
pub record CanFetch (line : ℕ) (why : Why) (arch : Arch) (p : Parts) : Type 0 where
  pub left : HasStepLeft p
  pub at_pc : line ≡ line_of arch.ctl.pc
  pub fill : CanFill p.site kinds.Fetch why (line_of arch.ctl.pc) p.arrays.fetch_cache.cache

pub record CanLoad (addr len : ℕ) (why : Why) (p : Parts) : Type 0 where
  pub left : HasStepLeft p
  pub access : IsAccess addr len
  pub fill : CanFill p.site kinds.Load why (line_of addr) p.arrays.data_cache.cache

-- LDSTUB or SWAP as the core's next operation; stores that waited have drained
pub record CanRetire (asked : Pending) (rd : ℕ) (arch : Arch) (p : Parts) : Type 0 where
  pub left : HasStepLeft p
  pub exchange : CanExchange p.site asked rd
  pub none_waits : p.buffer.waiting ≡ []
  pub instructions : arch.n + 1 < 2 ^ 32
  pub operations : arch.k + 1 < 2 ^ 32

-- a store waits
pub record CanDrain (why : Why) (p : Parts) : Type 0 where
  pub cause : IsCauseOf kinds.Store why
  pub some : 0 < length p.buffer.waiting

-- an atomic as it is asked for: the core's next operation
abbrev pub next_atomic_in : ℕ → ℕ → ℕ → Arch → Parts → Pending
next_atomic_in addr len new arch p = record { value = new; addr = addr; k = arch.k; step = p.«record».steps; len = len }

abbrev pub CanTurn : Turn → Arch → Parts → Type 0
CanTurn (Fetch line why) arch p = CanFetch line why arch p
CanTurn (Load addr len why) arch p = CanLoad addr len why p
CanTurn (Atomic addr len new rd) arch p = CanRetire (next_atomic_in addr len new arch p) rd arch p
CanTurn (Drain why) arch p = CanDrain why p
CanTurn Snoop arch p = ⊤

-- ---- of the bus

-- a store or an atomic has an entry of the log left
abbrev pub HasEntryFor : Turn → Who → BusState → Type 0
HasEntryFor (Fetch line why) who bus = ⊤
HasEntryFor (Load addr len why) who bus = ⊤
HasEntryFor (Atomic addr len new rd) who bus = HasEntryLeft who bus
HasEntryFor (Drain why) who bus = HasEntryLeft who bus
HasEntryFor Snoop who bus = ⊤

-- ---- the end of the turn

-- the step that is begun ends, unless all steps were made
abbrev pub steps_ended : Parts → ℕ
steps_ended p = if nat_le p.site.config.steps p.«record».steps then p.«record».steps else p.«record».steps + 1

abbrev pub turn_over : Parts → Parts
turn_over p = record p { «record» = record p.«record» { steps = steps_ended p } }

-- how often the step that is begun may have used the fetch cache: before its fetch is filled, not at all
abbrev pub looked_before : Turn → ℕ
looked_before (Fetch line why) = 0
looked_before (Load addr len why) = 1
looked_before (Atomic addr len new rd) = 1
looked_before (Drain why) = 1
looked_before Snoop = 1
