-- How the footprint of an instruction shows in what a trial of it came to.
use Rattle.std.specs.Prelude.{ℕ, ◌==◌, ◌&&◌, ◌||◌, not, is_some, Bool, true, false, List, [], ◌∷◌, length, Option, Some, None, if◌then◌else◌}
use Rattle.lf_model.specs.State.{cell}
use Rattle.lf_model.specs.declared.bus.Why.{Why}
use Rattle.lf_model.specs.declared.step.Did.{Did}
use Rattle.lf_model.specs.declared.step.Did.TheVariants.{Retired, Turned, Need, Halt, Stop}
use Rattle.lf_model.specs.declared.step.Turn.{Turn}
use Rattle.lf_model.specs.declared.step.Turn.TheVariants.{Fetch, Load, Atomic, Drain, Snoop}
use Rattle.replay_effects.specs.declared.footprint.Access.{Access}
use Rattle.replay_effects.specs.declared.footprint.AccessKind.{AccessKind}
use Rattle.replay_effects.specs.declared.footprint.AccessKind.TheVariants as kinds
use Rattle.replay_effects.specs.declared.tried.Exchange.{Exchange}

abbrev pub is_load_kind : AccessKind → Bool
is_load_kind kinds.Load = true
is_load_kind kinds.Store = false
is_load_kind kinds.Atomic = false

-- an instruction that found traps enabled or not, and left them so, wrote these cells: it took a trap where it disabled traps and
-- wrote cells
abbrev pub shows_trap : Bool → Bool → List ℕ → Bool
shows_trap before after written = before && (not after && not (length written == 0))

-- a store that waits has to drain first
abbrev pub drain_of_turn : Turn → Option Why
drain_of_turn (Drain why) = Some why
drain_of_turn (Fetch line why) = None
drain_of_turn (Load addr len why) = None
drain_of_turn (Atomic addr len new rd) = None
drain_of_turn Snoop = None

abbrev pub drain_of : Did → Option Why
drain_of (Need turn) = drain_of_turn turn
drain_of Retired = None
drain_of Turned = None
drain_of (Halt tt_) = None
drain_of (Stop tt_ place syn) = None

-- the atomic that needs its turn
abbrev pub exchange_of_turn : Turn → Option Exchange
exchange_of_turn (Atomic addr len new rd) = Some (record { access = record { kind = kinds.Atomic; addr = addr; len = len; put = new }; rd = rd })
exchange_of_turn (Fetch line why) = None
exchange_of_turn (Load addr len why) = None
exchange_of_turn (Drain why) = None
exchange_of_turn Snoop = None

abbrev pub exchange_of : Did → Option Exchange
exchange_of (Need turn) = exchange_of_turn turn
exchange_of Retired = None
exchange_of Turned = None
exchange_of (Halt tt_) = None
exchange_of (Stop tt_ place syn) = None

abbrev pub halt_of : Did → Option ℕ
halt_of (Halt tt_) = Some tt_
halt_of Retired = None
halt_of Turned = None
halt_of (Need turn) = None
halt_of (Stop tt_ place syn) = None

-- the cell of a register of a window; register 0 has none
abbrev pub cell_of_register : ℕ → ℕ → List ℕ
cell_of_register window rd = if rd == 0 then [] else cell window rd ∷ []

-- the operation reads memory: it is an atomic, or a load that is noted
abbrev pub is_load : Option Access → Bool
is_load None = false
is_load (Some x) = is_load_kind x.kind

abbrev pub reads_memory : Did → Option Access → Bool
reads_memory did access = is_some (exchange_of did) || is_load access
