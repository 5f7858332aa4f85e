-- A try that needs a turn needs that of the course, aims it as the course does, and leaves the arrays as the course has them
-- before the transfer; nothing else changes.
use Rattle.std.proofs.Common.{◌≡◌, ◌∙◌, ◌||◌, ℕ, Bool, true, false, List, Option, Some, None, length, nat_lt, nat_le, if◌then◌else◌, refl, sym, ap}
use Rattle.std.proofs.lemmas.Bool.{false≢true}
use Rattle.core_parts.specs.CoreValue.{CoreValue}
use Rattle.core_parts.specs.Needs.{kind_of, why_of, IsTurnOf}
use Rattle.core_parts.specs.PortState.{arrays_in}
use Rattle.core_parts.specs.Seat.{NeedsTurn}
use Rattle.core_steps.specs.Tries.{state_here, effect_here, window_over, try_here, need_here, Tries}
use Rattle.core_steps.proofs.Begun.{Begins, run_is, arrays_are, effect_is, tried_is, needs_are}
use Rattle.core_steps.proofs.EffectEnds.{leaves_by, EndsSo, ends_so}
use Rattle.core_steps.proofs.Outcomes.{Says, Comes, comes}
use Rattle.core_steps.proofs.TouchesLeave.{arrays_left}
use Rattle.lf_model.specs.Caches.Cache.{Cache}
use Rattle.lf_model.specs.Course.Attempt.{Attempt}
use Rattle.lf_model.specs.Course.Core.{Ground}
use Rattle.lf_model.specs.Course.Outcome.{Outcome, Need, drains, trap_needs, outcome_needs, step_needs}
use Rattle.lf_model.specs.Course.Outcome.Need.{NoTurn, Turn, RegisterStop}
use Rattle.lf_model.specs.Course.Outcome.Outcome.{NotTried, NoText, FetchMiss, BadRegister, OrdinaryTrap, LoadMiss, LoadHit, Store, Atomic, Barrier, Other}
use Rattle.lf_model.specs.Course.Progress.{Progress}
use Rattle.lf_model.specs.Course.Turn.{is_past_steps, leaves_instruction, turn_attempt, turn_needs}
use Rattle.lf_model.specs.Effect.{AccessKind, Access, Effect}
use Rattle.lf_model.specs.Flips.{Moment}
use Rattle.lf_model.specs.Names.{same_why}
use Rattle.lf_model.specs.Records.OwnTurns.{next_effect}
use Rattle.lf_model.specs.State.{State}
use Rattle.lf_model.specs.declared.bus.TurnKind.{TurnKind}
use Rattle.lf_model.specs.declared.bus.TurnKind.TheVariants as kinds
use Rattle.lf_model.specs.declared.bus.Why.{Why}
use Rattle.lf_model.specs.declared.bus.Why.TheVariants as whys
use Rattle.lf_model.specs.declared.step.Did.TheVariants.{Retired, Halt}
use Rattle.lf_model.specs.declared.step.Did.TheVariants.{Need as Asks}
use Rattle.lf_model.specs.declared.step.Turn.{Turn as TurnAsked}
use Rattle.v8_exec.specs.CourseParts.{turn_asked, retired_or_halted, did_by}

-- ---- what was asked

-- the turn is that of a kind and a cause
pub record AsksBy (s : State) (e : Effect) (turn : TurnAsked) (need : Need) : Type 0 where
  pub kind : TurnKind
  pub why : Why
  pub need_is : need ≡ Turn kind why
  pub turn_is : turn ≡ turn_asked s e why kind

not_asked : (s : State) (turn : TurnAsked) (trap : Option ℕ) → Asks turn ≡ retired_or_halted s trap → ⊥
not_asked s turn None is = cc
not_asked s turn (Some m) is = by s.ctl.et is
  where
    by : (et : Bool) → Asks turn ≡ (if et then Retired else Halt m) → ⊥
    by true eq = cc
    by false eq = cc

pub asks_by : (s : State) (e : Effect) (cells : List (List Moment)) (turn : TurnAsked) (need : Need) → Asks turn ≡ did_by s e cells need → AsksBy s e turn need
asks_by s e cells turn NoTurn is = absurd (not_asked s turn e.trap is)
asks_by s e cells turn (Turn kind why) is = record { kind = kind; why = why; need_is = refl; turn_is = cc }
asks_by s e cells turn (RegisterStop cell) is = absurd cc

-- ---- the turn that a step needs

-- it has this kind and cause, and aims where the instruction does; for its cause the step leaves its instruction untried just
-- where its window is over, and no step needs a turn by the schedule
pub record Aims (pc : ℕ) (s : State) (e : Effect) (over : Bool) (kind : TurnKind) (why : Why) : Type 0 where
  pub kind_is : kind_of (turn_asked s e why kind) ≡ kind
  pub why_is : why_of (turn_asked s e why kind) ≡ why
  pub aimed : IsTurnOf pc e (turn_asked s e why kind)
  pub leaves : leaves_instruction why ≡ over
  pub scheduled : same_why why whys.Sched ≡ false

module _ (s : State) (e : Effect) where
  abbrev AimsBy : Bool → Need → Type 0
  AimsBy over need = (kind : TurnKind) (why : Why) → need ≡ Turn kind why → Aims s.ctl.pc s e over kind why

  abbrev drain_aims : (over : Bool) (why : Why) → leaves_instruction why ≡ over → same_why why whys.Sched ≡ false → Aims s.ctl.pc s e over kinds.Store why
  drain_aims over why leaves scheduled = record { kind_is = refl; why_is = refl; aimed = tt; leaves = leaves; scheduled = scheduled }

  -- the need of a turn with this kind and cause
  same_turn : (over : Bool) (kind kind' : TurnKind) (why why' : Why) → Turn kind why ≡ Turn kind' why' → Aims s.ctl.pc s e over kind why → Aims s.ctl.pc s e over kind' why'
  same_turn over kind kind' why why' is aims =
      let same_kind_ : kind ≡ kind' = cc in
      let same_why_ : why ≡ why' = cc in
      rw (← same_kind_, ← same_why_) aims

  drains_aim : (over waits : Bool) (why : Why) (need : Need) → leaves_instruction why ≡ over → same_why why whys.Sched ≡ false → AimsBy over need → AimsBy over (drains waits why need)
  drains_aim over true why need leaves scheduled other kind why' is = same_turn over kinds.Store kind why why' is (drain_aims over why leaves scheduled)
  drains_aim over false why need leaves scheduled other kind why' is = other kind why' is

  none_aims : (over : Bool) → AimsBy over NoTurn
  none_aims over kind why is = absurd cc

  stop_aims : (over : Bool) (cell : ℕ) → AimsBy over (RegisterStop cell)
  stop_aims over cell kind why is = absurd cc

  traps_aim : (et waits : Bool) → AimsBy false (trap_needs et waits)
  traps_aim true waits = none_aims false
  traps_aim false waits = drains_aim false waits whys.End NoTurn refl refl (none_aims false)

  not_scheduled : (a b : Bool) → (a || b) ≡ false → b ≡ false
  not_scheduled false b is = is
  not_scheduled true b is = absurd (false≢true (sym is))

  fill_aims : (why : Why) → leaves_instruction why ≡ false → AimsBy false (Turn kinds.Fetch why)
  fill_aims why leaves kind' why' is = same_turn false kinds.Fetch kind' why why' is (record {
    kind_is = refl;
    why_is = refl;
    aimed = refl;
    leaves = leaves;
    scheduled = not_scheduled (same_why why whys.Window) (same_why why whys.Sched) leaves;
  })

  load_aims : (why : Why) (x : Access) → e.access ≡ Some x → x.kind ≡ AccessKind.Load → leaves_instruction why ≡ false → AimsBy false (Turn kinds.Load why)
  load_aims why x access kind leaves kind' why' is = same_turn false kinds.Load kind' why why' is (record {
    kind_is = rw access refl;
    why_is = rw access refl;
    aimed = rw access (kind, (refl, refl));
    leaves = leaves;
    scheduled = not_scheduled (same_why why whys.Window) (same_why why whys.Sched) leaves;
  })

  atomic_aims : (x : Access) → e.access ≡ Some x → x.kind ≡ AccessKind.Atomic → AimsBy false (Turn kinds.Atomic whys.None)
  atomic_aims x access kind kind' why' is = same_turn false kinds.Atomic kind' whys.None why' is (record {
    kind_is = rw access refl;
    why_is = rw access refl;
    aimed = rw access (kind, refl);
    leaves = refl;
    scheduled = refl;
  })

  snoop_aims : AimsBy true (Turn kinds.Snoop whys.Window)
  snoop_aims kind' why' is = same_turn true kinds.Snoop kind' whys.Window why' is (record { kind_is = refl; why_is = refl; aimed = tt; leaves = refl; scheduled = refl })

  outcome_aims : (et waits full : Bool) (cache : Cache) (out : Outcome) → leaves_by e.barrier ≡ false → Says e cache out → AimsBy false (outcome_needs et waits full out)
  outcome_aims et waits full cache NotTried barrier says = absurd says
  outcome_aims et waits full cache NoText barrier says = traps_aim et waits
  outcome_aims et waits full cache (FetchMiss why) barrier says = drains_aim false waits whys.Miss (Turn kinds.Fetch why) refl refl (fill_aims why says)
  outcome_aims et waits full cache (BadRegister cell) barrier says = drains_aim false waits whys.End (RegisterStop cell) refl refl (stop_aims false cell)
  outcome_aims et waits full cache OrdinaryTrap barrier says = traps_aim et waits
  outcome_aims et waits full cache (LoadMiss why) barrier says = drains_aim false waits whys.Miss (Turn kinds.Load why) refl refl (load_aims why says.0.0 says.0.1 says.0.2 says.1)
  outcome_aims et waits full cache (LoadHit slot) barrier says = none_aims false
  outcome_aims et waits full cache Store barrier says = drains_aim false full whys.Full NoTurn refl refl (none_aims false)
  outcome_aims et waits full cache Atomic barrier says = drains_aim false waits whys.Atomic (Turn kinds.Atomic whys.None) refl refl (atomic_aims says.0 says.1 says.2)
  outcome_aims et waits full cache (Barrier why) barrier says =
      let leaves : leaves_instruction why ≡ false = sym (ap leaves_by says.1) ∙ barrier in
      drains_aim false waits why NoTurn leaves (not_scheduled (same_why why whys.Window) (same_why why whys.Sched) leaves) (none_aims false)
  outcome_aims et waits full cache Other barrier says = none_aims false

  step_aims : (over et waits full : Bool) (cache : Cache) (out : Outcome) → leaves_by e.barrier ≡ false → (over ≡ false → Says e cache out) → AimsBy over (step_needs over et waits full out)
  step_aims true et waits full cache out barrier says = drains_aim true waits whys.Window (Turn kinds.Snoop whys.Window) refl refl snoop_aims
  step_aims false et waits full cache out barrier says = outcome_aims et waits full cache out barrier (says refl)

-- ---- the seat

module _ (g : Ground) (k : Progress) (old new : CoreValue) (b : Begins g k old) (left : is_past_steps g k ≡ false) (turn : TurnAsked) (t : Tries (Asks turn) old new) where
  abbrev here : Effect
  here = effect_here old

  asked : AsksBy (state_here old) here turn (need_here old (try_here old).outcome)
  asked = asks_by (state_here old) here (try_here old).arrays.cells turn (need_here old (try_here old).outcome) t.answer

  ends : EndsSo (state_here old) here
  ends = ends_so old.setup old.arch.core (state_here old)

  comes_here : window_over old ≡ false → Comes here old.ports.data_cache.cache (try_here old)
  comes_here open_ = rw open_ (comes old.setup old.arch.core (state_here old) (arrays_in old.ports) ends.apart)

  aims : Aims (state_here old).ctl.pc (state_here old) here (window_over old) asked.kind asked.why
  aims = step_aims (state_here old) here (window_over old) old.arch.ctl.et (nat_lt 0 (length old.ports.waiting)) (nat_le old.ports.depth (length old.ports.waiting))
      old.ports.data_cache.cache (try_here old).outcome ends.barrier (λ open_. (comes_here open_).says) asked.kind asked.why asked.need_is

  why_is : why_of turn ≡ asked.why
  why_is = ap why_of asked.turn_is ∙ aims.why_is

  kind_is : kind_of turn ≡ asked.kind
  kind_is = ap kind_of asked.turn_is ∙ aims.kind_is

  -- the instruction is tried as the course has it before the transfer
  attempt_by : (over : Bool) → window_over old ≡ over → leaves_instruction asked.why ≡ over → turn_attempt g asked.why (next_effect g k) k ≡ try_here old
  attempt_by true over leaves = rw (left, leaves, over, arrays_are g k old b) refl
  attempt_by false over leaves = rw (left, leaves) (tried_is g k old b over)

  attempt_so : turn_attempt g (why_of turn) (next_effect g k) k ≡ try_here old
  attempt_so = ap (λ why. turn_attempt g why (next_effect g k) k) why_is ∙ attempt_by (window_over old) refl aims.leaves

  needed_so : turn_needs g asked.why (try_here old) k ≡ Turn asked.kind asked.why
  needed_so = rw (left, aims.scheduled) (needs_are g k old b (try_here old).outcome ∙ asked.need_is)

  pub needs_so : NeedsTurn g k turn (arrays_in new.ports)
  needs_so = record {
    needed = ap (λ x. turn_needs g (why_of turn) x k) attempt_so ∙ rw (why_is, kind_is) needed_so;
    aimed = rw (effect_is g k old b, run_is g k old b, asked.turn_is) aims.aimed;
    tried = ap arrays_in t.ports ∙ (arrays_left old (Asks turn) ∙ ap (λ (x : Attempt). x.arrays) (sym attempt_so));
  }
