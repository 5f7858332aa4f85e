-- The turn on the bus that a step needs: its kind, its cause, and where it aims.
use Rattle.std.specs.Prelude.{ℕ, ◌≡◌, Option, Some, None}
use Rattle.lf_model.specs.Caches.Slot.{line_of}
use Rattle.lf_model.specs.Effect.{Access, AccessKind, Effect}
use Rattle.lf_model.specs.declared.bus.TurnKind.{TurnKind}
use Rattle.lf_model.specs.declared.bus.TurnKind.TheVariants as kinds
use Rattle.lf_model.specs.declared.bus.Why.{Why}
use Rattle.lf_model.specs.declared.bus.Why.TheVariants as whys
use Rattle.lf_model.specs.declared.step.Turn.{Turn}
use Rattle.lf_model.specs.declared.step.Turn.TheVariants.{Fetch, Load, Atomic, Drain, Snoop}

-- the kind of its transfer
abbrev pub kind_of : Turn → TurnKind
kind_of (Fetch line why) = kinds.Fetch
kind_of (Load addr len why) = kinds.Load
kind_of (Atomic addr len new rd) = kinds.Atomic
kind_of (Drain why) = kinds.Store
kind_of Snoop = kinds.Snoop

-- its cause
abbrev pub why_of : Turn → Why
why_of (Fetch line why) = why
why_of (Load addr len why) = why
why_of (Atomic addr len new rd) = whys.None
why_of (Drain why) = why
why_of Snoop = whys.Window

-- the instruction loads so many bytes from this address
abbrev pub IsLoadOf : ℕ → ℕ → Option Access → Type 0
IsLoadOf addr len None = ⊥
IsLoadOf addr len (Some x) = (x.kind ≡ AccessKind.Load) × ((addr ≡ x.addr) × (len ≡ x.len))

-- it is LDSTUB or SWAP, and the turn has its address, its bytes, the number that it stores and the register that it writes
abbrev pub IsAtomicOf : Turn → Option Access → Type 0
IsAtomicOf turn None = ⊥
IsAtomicOf turn (Some x) = (x.kind ≡ AccessKind.Atomic) × (turn ≡ Atomic x.addr x.len x.put x.rd)

-- the turn is aimed as the instruction at PC, with this effect, asks: a fetch at the line of PC, a load or an atomic at its operands
abbrev pub IsTurnOf : ℕ → Effect → Turn → Type 0
IsTurnOf pc e (Fetch line why) = line ≡ line_of pc
IsTurnOf pc e (Load addr len why) = IsLoadOf addr len e.access
IsTurnOf pc e (Atomic addr len new rd) = IsAtomicOf (Atomic addr len new rd) e.access
IsTurnOf pc e (Drain why) = Unit {0}
IsTurnOf pc e Snoop = Unit {0}
