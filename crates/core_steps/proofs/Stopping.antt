-- A try that meets a bad register cell leaves what the seat of a core that this stops needs, once the cell is named.
use Rattle.std.proofs.Common.{◌≡◌, ◌∙◌, ◌+◌, ℕ, Bool, true, false, List, ◌∷◌, Option, Some, None, length, nat_lt, nat_le, if◌then◌else◌, refl, sym, ap, arith}
use Rattle.std.proofs.lemmas.List.{append-nil}
use Rattle.core_parts.specs.CoreValue.{CoreValue}
use Rattle.core_parts.specs.Moves.{tried_at, Stops}
use Rattle.core_parts.specs.PortState.{PortState, arrays_in}
use Rattle.core_parts.specs.declared.phase.Phase.TheVariants.{Ended}
use Rattle.core_steps.specs.Tries.{state_here, effect_here, window_over, try_here, need_here, Tries, ended}
use Rattle.core_steps.proofs.Begun.{Begins, run_is, tried_is, needs_are}
use Rattle.core_steps.proofs.TouchesLeave.{arrays_left, waiting_tried}
use Rattle.lf_model.specs.Caches.Slot.{history_at, befalls}
use Rattle.lf_model.specs.Course.Attempt.{Attempt}
use Rattle.lf_model.specs.Course.Core.{Ground, r_register_access_error}
use Rattle.lf_model.specs.Course.LocalStep.{named_cell}
use Rattle.lf_model.specs.Course.Outcome.{Outcome, Need, outcome_needs, step_needs, drains, trap_needs}
use Rattle.lf_model.specs.Course.Outcome.Need.{NoTurn, Turn, RegisterStop}
use Rattle.lf_model.specs.Course.Outcome.Outcome.{NotTried, NoText, FetchMiss, BadRegister, OrdinaryTrap, LoadMiss, LoadHit, Store, Atomic, Barrier, Other}
use Rattle.lf_model.specs.Course.Progress.{Progress, next_needs}
use Rattle.lf_model.specs.Effect.{Effect}
use Rattle.lf_model.specs.Flips.{Moment, syndrome}
use Rattle.lf_model.specs.Flips.Moment.{Named}
use Rattle.lf_model.specs.State.{State}
use Rattle.lf_model.specs.declared.bus.TurnKind.TheVariants as kinds
use Rattle.lf_model.specs.declared.bus.Why.{Why}
use Rattle.lf_model.specs.declared.bus.Why.TheVariants as whys
use Rattle.lf_model.specs.declared.step.Did.TheVariants.{Retired, Halt, Stop}
use Rattle.lf_model.specs.declared.trace.CoreEnd.TheVariants.{Stop as StoppedBy}
use Rattle.v8_exec.specs.CourseParts.{retired_or_halted, did_by}

-- ---- a stop is that of a bad register cell

-- the answer names the cell and its syndrome
pub record StopsBy (cells : List (List Moment)) (tt_ cell syn : ℕ) (need : Need) : Type 0 where
  pub need_is : need ≡ RegisterStop cell
  pub type_is : tt_ ≡ r_register_access_error
  pub met : syndrome (history_at cell cells) ≡ syn

not_stop : (s : State) (tt_ cell syn : ℕ) (trap : Option ℕ) → Stop tt_ cell syn ≡ retired_or_halted s trap → ⊥
not_stop s tt_ cell syn None is = cc
not_stop s tt_ cell syn (Some m) is = by s.ctl.et is
  where
    by : (et : Bool) → Stop tt_ cell syn ≡ (if et then Retired else Halt m) → ⊥
    by true eq = cc
    by false eq = cc

pub stop_need : (s : State) (e : Effect) (cells : List (List Moment)) (tt_ cell syn : ℕ) (need : Need) → Stop tt_ cell syn ≡ did_by s e cells need → StopsBy cells tt_ cell syn need
stop_need s e cells tt_ cell syn NoTurn is = absurd (not_stop s tt_ cell syn e.trap is)
stop_need s e cells tt_ cell syn (Turn kind why) is = absurd cc
stop_need s e cells tt_ cell syn (RegisterStop here) is =
    let cell_is : here ≡ cell = cc in
    let syn_is : syndrome (history_at here cells) ≡ syn = cc in
    record { need_is = ap RegisterStop cell_is; type_is = cc; met = ap (λ c. syndrome (history_at c cells)) (sym cell_is) ∙ syn_is }

-- ---- only an outcome that names it needs that

drains_stop : (waits : Bool) (why : Why) (cell : ℕ) (need : Need) → drains waits why need ≡ RegisterStop cell → need ≡ RegisterStop cell
drains_stop true why cell need is = absurd cc
drains_stop false why cell need is = is

traps_stop : (et waits : Bool) (cell : ℕ) → trap_needs et waits ≡ RegisterStop cell → ⊥
traps_stop true waits cell is = cc
traps_stop false true cell is = cc
traps_stop false false cell is = cc

names_cell : (et waits full : Bool) (out : Outcome) (cell : ℕ) → outcome_needs et waits full out ≡ RegisterStop cell → out ≡ BadRegister cell
names_cell et waits full NotTried cell is = absurd cc
names_cell et waits full NoText cell is = absurd (traps_stop et waits cell is)
names_cell et waits full (FetchMiss why) cell is = let turn : Turn kinds.Fetch why ≡ RegisterStop cell = drains_stop waits whys.Miss cell (Turn kinds.Fetch why) is in absurd cc
names_cell et waits full (BadRegister here) cell is = let stop : RegisterStop here ≡ RegisterStop cell = drains_stop waits whys.End cell (RegisterStop here) is in cc
names_cell et waits full OrdinaryTrap cell is = absurd (traps_stop et waits cell is)
names_cell et waits full (LoadMiss why) cell is = let turn : Turn kinds.Load why ≡ RegisterStop cell = drains_stop waits whys.Miss cell (Turn kinds.Load why) is in absurd cc
names_cell et waits full (LoadHit slot) cell is = absurd cc
names_cell et waits full Store cell is = let none : NoTurn ≡ RegisterStop cell = drains_stop full whys.Full cell NoTurn is in absurd cc
names_cell et waits full Atomic cell is = let turn : Turn kinds.Atomic whys.None ≡ RegisterStop cell = drains_stop waits whys.Atomic cell (Turn kinds.Atomic whys.None) is in absurd cc
names_cell et waits full (Barrier why) cell is = let none : NoTurn ≡ RegisterStop cell = drains_stop waits why cell NoTurn is in absurd cc
names_cell et waits full Other cell is = absurd cc

pub record NamesCell (over : Bool) (out : Outcome) (cell : ℕ) : Type 0 where
  pub open_ : over ≡ false
  pub out_is : out ≡ BadRegister cell

pub named_by : (over et waits full : Bool) (out : Outcome) (cell : ℕ) → step_needs over et waits full out ≡ RegisterStop cell → NamesCell over out cell
named_by true et waits full out cell is = let turn : Turn kinds.Snoop whys.Window ≡ RegisterStop cell = drains_stop waits whys.Window cell (Turn kinds.Snoop whys.Window) is in absurd cc
named_by false et waits full out cell is = record { open_ = refl; out_is = names_cell et waits full out cell is }

-- ---- the seat's fields

module _ (g : Ground) (k : Progress) (old new : CoreValue) (b : Begins g k old) (tt_ cell syn : ℕ) (t : Tries (Stop tt_ cell syn) old new) where
  abbrev waits : Bool
  waits = nat_lt 0 (length old.ports.waiting)

  abbrev full : Bool
  full = nat_le old.ports.depth (length old.ports.waiting)

  stop : StopsBy (try_here old).arrays.cells tt_ cell syn (need_here old (try_here old).outcome)
  stop = stop_need (state_here old) (effect_here old) (try_here old).arrays.cells tt_ cell syn (need_here old (try_here old).outcome) t.answer

  names : NamesCell (window_over old) (try_here old).outcome cell
  names = named_by (window_over old) old.arch.ctl.et waits full (try_here old).outcome cell stop.need_is

  tried_so : tried_at g k ≡ try_here old
  tried_so = tried_is g k old b names.open_

  -- the step needs this stop
  pub stop_needed : next_needs g k (tried_at g k).outcome ≡ RegisterStop cell
  stop_needed = ap (λ (x : Attempt). next_needs g k x.outcome) tried_so ∙ (needs_are g k old b (try_here old).outcome ∙ stop.need_is)

  pub trap_type : tt_ ≡ r_register_access_error
  trap_type = stop.type_is

  -- the core once the cell is named
  abbrev pub stopped_value : CoreValue
  stopped_value = record (ended (Ended (StoppedBy tt_ cell syn)) new) { ports = record new.ports { cells = befalls (λ h. Named ∷ h) cell new.ports.cells } }

  arrays_tried : arrays_in new.ports ≡ (tried_at g k).arrays
  arrays_tried = ap arrays_in t.ports ∙ (arrays_left old (Stop tt_ cell syn) ∙ ap (λ (x : Attempt). x.arrays) (sym tried_so))

  arrays_named : arrays_in stopped_value.ports ≡ named_cell (tried_at g k).outcome (tried_at g k).arrays
  arrays_named =
      ap (named_cell (BadRegister cell)) arrays_tried
      ∙ ap (λ (out : Outcome). named_cell out (tried_at g k).arrays) (sym (ap (λ (x : Attempt). x.outcome) tried_so ∙ names.out_is))

  pub stops_so : Stops g k cell syn old stopped_value
  stops_so = record {
    steps = ap (λ (v : CoreValue). v.steps + 1) t.stays;
    quiet = ap (λ (v : CoreValue). v.quiet + 1) t.stays;
    counted = t.counts ∙ omega arith;
    run = t.run ∙ sym (run_is g k old b);
    arrays = arrays_named;
    met = ap (λ (x : Attempt). syndrome (history_at cell x.arrays.cells)) tried_so ∙ stop.met;
    seen = ap (λ (v : CoreValue). v.log_seen) t.stays;
    completions = rw (t.ops, t.seen_by) (rw (append-nil old.ops, append-nil old.seen_by) refl);
    stored = rw t.ops (rw (append-nil old.ops) refl);
    waits = ap (λ (s : PortState). length s.waiting) t.ports ∙ ap length (waiting_tried old (Stop tt_ cell syn) refl);
  }
