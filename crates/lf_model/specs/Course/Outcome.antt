-- What the instruction of a step comes to, and which turn on the bus the step needs. When stores drain, and that a core makes a
-- turn after a window of steps without one, is this machine's own.
use Rattle.std.specs.Prelude.{ℕ, Bool, if◌then◌else◌}
use Rattle.lf_model.specs.declared.bus.TurnKind.{TurnKind}
use Rattle.lf_model.specs.declared.bus.TurnKind.TheVariants as kinds
use Rattle.lf_model.specs.declared.bus.Why.{Why}
use Rattle.lf_model.specs.declared.bus.Why.TheVariants as whys

-- what the instruction at PC comes to: it isn't tried; PC is no text word; its fetch misses; a register cell that it reads is
-- bad; it takes an ordinary trap; its load misses, or hits in a slot of the data cache; it stores; it is an atomic; it is a
-- barrier, STBAR or FLUSH; or it is another
pub data Outcome : Type 0 where
  NotTried : Outcome
  NoText : Outcome
  FetchMiss : Why → Outcome
  BadRegister : (cell : ℕ) → Outcome
  OrdinaryTrap : Outcome
  LoadMiss : Why → Outcome
  LoadHit : (slot : ℕ) → Outcome
  Store : Outcome
  Atomic : Outcome
  Barrier : Why → Outcome
  Other : Outcome

-- what a step needs: no turn on the bus, a turn of this kind and cause, or the stop by a bad register cell
pub data Need : Type 0 where
  NoTurn : Need
  Turn : TurnKind → Why → Need
  RegisterStop : (cell : ℕ) → Need

-- a store that waits drains first, for this cause
abbrev pub drains : Bool → Why → Need → Need
drains waits why need = if waits then Turn kinds.Store why else need

-- a trap: where traps are disabled the core will enter error mode, and its stores drain first
abbrev pub trap_needs : Bool → Bool → Need
trap_needs et waits = if et then NoTurn else drains waits whys.End NoTurn

-- what the instruction needs: by whether traps are enabled, whether a store waits, and whether the store buffer is full
abbrev pub outcome_needs : Bool → Bool → Bool → Outcome → Need
outcome_needs et waits full NotTried = NoTurn
outcome_needs et waits full NoText = trap_needs et waits
outcome_needs et waits full (FetchMiss why) = drains waits whys.Miss (Turn kinds.Fetch why)
outcome_needs et waits full (BadRegister cell) = drains waits whys.End (RegisterStop cell)
outcome_needs et waits full OrdinaryTrap = trap_needs et waits
outcome_needs et waits full (LoadMiss why) = drains waits whys.Miss (Turn kinds.Load why)
outcome_needs et waits full (LoadHit slot) = NoTurn
outcome_needs et waits full Store = drains full whys.Full NoTurn
outcome_needs et waits full Atomic = drains waits whys.Atomic (Turn kinds.Atomic whys.None)
outcome_needs et waits full (Barrier why) = drains waits why NoTurn
outcome_needs et waits full Other = NoTurn

-- what a step needs. A core whose window of steps without a turn is over needs one before all else.
abbrev pub step_needs : Bool → Bool → Bool → Bool → Outcome → Need
step_needs window_over et waits full outcome =
    if window_over then drains waits whys.Window (Turn kinds.Snoop whys.Window) else outcome_needs et waits full outcome
