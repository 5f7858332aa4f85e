-- A step that needs a turn: its core can make it.
use Rattle.std.proofs.Common.{◌≡◌, ◌∙◌, ◌%◌, ◌<◌, ◌≤◌, ◌||◌, ◌==◌, ℕ, zero, suc, Bool, true, false, [], length, Some, refl, sym, subst, arith}
use Rattle.ahb_bus.proofs.InsideLemmas.{is_length_of, atomic_is_length}
use Rattle.ahb_bus.specs.Asks.{IsCauseOf}
use Rattle.core_parts.specs.Inside.{ports_of}
use Rattle.core_parts.specs.PortState.{arrays_in}
use Rattle.core_parts.specs.declared.parts.Parts.{Parts}
use Rattle.core_turns.specs.CanTurn.{HasStepLeft, CanLoad, CanTurn}
use Rattle.lf_model.specs.Course.Outcome.{Outcome, Need, drains, trap_needs, outcome_needs, step_needs}
use Rattle.lf_model.specs.Course.Outcome.Need.{NoTurn, Turn, RegisterStop}
use Rattle.lf_model.specs.Course.Outcome.Outcome.{NotTried, NoText, FetchMiss, BadRegister, OrdinaryTrap, LoadMiss, LoadHit, Store, Atomic, Barrier, Other}
use Rattle.lf_model.specs.Effect.{Access, Effect}
use Rattle.lf_model.specs.Promise.Regular.{is_length}
use Rattle.lf_model.specs.Start.{is_in_ram, is_text_word, IsLoadable}
use Rattle.lf_model.specs.State.{State}
use Rattle.lf_model.specs.declared.bus.TurnKind.{TurnKind}
use Rattle.lf_model.specs.declared.bus.TurnKind.TheVariants as kinds
use Rattle.lf_model.specs.declared.bus.Why.{Why}
use Rattle.lf_model.specs.declared.bus.Why.TheVariants as whys
use Rattle.lf_model.specs.declared.control.Arch.{Arch}
use Rattle.lf_model.specs.declared.step.Turn.{Turn as TurnAsked}
use Rattle.lf_model.specs.declared.step.Turn.TheVariants as turns
use Rattle.leon_core.proofs.CleanLook.{IsFillCause, clean_line}
use Rattle.leon_core.proofs.MissesSo.{Misses}
use Rattle.leon_core.proofs.TextInRam.{text_line_in_ram, access_line_in_ram}
use Rattle.parity_cache.specs.CacheState.{IsCleanSet}
use Rattle.v8_exec.specs.Accesses.{AsksTurn}
use Rattle.v8_exec.specs.CourseParts.{turn_asked}
use Rattle.v8_exec.specs.Reading.{IsAccess as IsRamAccess, is_access_size}
use Rattle.lf_model.specs.Effect.{Site}

-- ---- sizes of accesses

-- one of four, however they are joined
joined : (a b c d : Bool) → (((a || b) || c) || d) ≡ (a || (b || (c || d)))
joined true b c d = refl
joined false true c d = refl
joined false false c d = refl

regular_size : (len : ℕ) → is_access_size len ≡ true → is_length len ≡ true
regular_size len is = sym (joined (len == 1) (len == 2) (len == 4) (len == 8)) ∙ is

some_size : (len : ℕ) → is_length len ≡ true → 1 ≤ len
some_size zero is = absurd cc
some_size (suc n) is = omega arith

-- ---- the turn

module _ (s : State) (e : Effect) (site : Site) (arch : Arch) (p : Parts) (left : HasStepLeft p) (few : p.site.config.steps < 4294967296) (counted : arch.n ≤ p.«record».steps)
    (made : arch.k ≤ p.«record».steps) (pc : arch.ctl.pc ≡ s.ctl.pc) (loadable : IsLoadable p.site.config.ram p.site.image) (whole : p.site.config.ram % 32 ≡ 0)
    (ram : site.ram ≡ p.site.config.ram) (image : site.image ≡ p.site.image) (turn : TurnAsked) (asks : AsksTurn site turn) where
  abbrev CanBy : Need → Type 0
  CanBy need = (kind : TurnKind) (why : Why) → need ≡ Turn kind why → turn ≡ turn_asked s e why kind → CanTurn turn arch p

  same_turn : (kind kind' : TurnKind) (why why' : Why) → Turn kind why ≡ Turn kind' why' → (turn ≡ turn_asked s e why kind → CanTurn turn arch p) → turn ≡ turn_asked s e why' kind' → CanTurn turn arch p
  same_turn kind kind' why why' is can asked =
      let same_kind : kind ≡ kind' = cc in
      let same_why : why ≡ why' = cc in
      can (rw (same_kind, same_why) asked)

  drain_can : (why : Why) → IsCauseOf kinds.Store why → 0 < length p.buffer.waiting → turn ≡ turns.Drain why → CanTurn turn arch p
  drain_can why cause some asked = subst (λ (t : TurnAsked). CanTurn t arch p) (sym asked) (record { cause = cause; some = some })

  drains_can : (waits : Bool) (why : Why) (need : Need) → IsCauseOf kinds.Store why → (waits ≡ true → 0 < length p.buffer.waiting) → (waits ≡ false → CanBy need) → CanBy (drains waits why need)
  drains_can true why need cause some other kind why' is asked = same_turn kinds.Store kind why why' is (drain_can why cause (some refl)) asked
  drains_can false why need cause some other kind why' is asked = other refl kind why' is asked

  none_can : CanBy NoTurn
  none_can kind why is asked = absurd cc

  stop_can : (cell : ℕ) → CanBy (RegisterStop cell)
  stop_can cell kind why is asked = absurd cc

  fetch_can : (why : Why) → IsFillCause why → is_text_word p.site.image.text s.ctl.pc ≡ true → IsCleanSet s.ctl.pc p.arrays.fetch_cache.cache → CanBy (Turn kinds.Fetch why)
  fetch_can why cause text clean kind why' is asked =
      same_turn kinds.Fetch kind why why' is (λ it. subst (λ (t : TurnAsked). CanTurn t arch p) (sym it) (rw pc (record {
        left = left;
        at_pc = refl;
        fill = record { cause = cause; in_ram = text_line_in_ram p.site.config.ram whole p.site.image.text loadable.text s.ctl.pc text; clean = clean_line s.ctl.pc p.arrays.fetch_cache.cache clean };
      }))) asked

  load_at : (addr len : ℕ) (why : Why) → IsFillCause why → IsRamAccess site addr len → IsCleanSet addr p.arrays.data_cache.cache → CanLoad addr len why p
  load_at addr len why cause access clean =
      let within : is_in_ram p.site.config.ram addr len ≡ true = rw (sym ram) access.within in
      record {
        left = left;
        access = record { size = is_length_of len (regular_size len access.size); aligned = access.aligned };
        fill = record { cause = cause; in_ram = access_line_in_ram p.site.config.ram whole addr len (some_size len (regular_size len access.size)) within; clean = clean_line addr p.arrays.data_cache.cache clean };
      }

  load_can : (why : Why) → IsFillCause why → (x : Access) → e.access ≡ Some x → IsCleanSet x.addr p.arrays.data_cache.cache → CanBy (Turn kinds.Load why)
  load_can why cause x access clean kind why' is asked =
      same_turn kinds.Load kind why why' is (λ it.
      let this : turn ≡ turns.Load x.addr x.len why = rw access at it in
      subst (λ (t : TurnAsked). CanTurn t arch p) (sym this) (load_at x.addr x.len why cause (subst (AsksTurn site) this asks) clean)) asked

  atomic_at : (addr len new rd : ℕ) → AsksTurn site (turns.Atomic addr len new rd) → p.buffer.waiting ≡ [] → CanTurn (turns.Atomic addr len new rd) arch p
  atomic_at addr len new rd asked none = record {
    left = left;
    exchange = record {
      size = asked.1;
      store = record {
        size = atomic_is_length len asked.1;
        in_ram = rw (sym ram) asked.0.within;
        aligned = asked.0.aligned;
        value = asked.3;
        text = rw (sym image) asked.2;
      };
      register = asked.4;
    };
    none_waits = none;
    instructions = omega (arith, counted, left, few);
    operations = omega (arith, made, left, few);
  }

  atomic_can : (x : Access) → e.access ≡ Some x → p.buffer.waiting ≡ [] → CanBy (Turn kinds.Atomic whys.None)
  atomic_can x access none kind why' is asked =
      same_turn kinds.Atomic kind whys.None why' is (λ it.
      let this : turn ≡ turns.Atomic x.addr x.len x.put x.rd = rw access at it in
      subst (λ (t : TurnAsked). CanTurn t arch p) (sym this) (atomic_at x.addr x.len x.put x.rd (subst (AsksTurn site) this asks) none)) asked

  snoop_can : CanBy (Turn kinds.Snoop whys.Window)
  snoop_can kind why is asked = same_turn kinds.Snoop kind whys.Window why is (λ it. subst (λ (t : TurnAsked). CanTurn t arch p) (sym it) tt) asked

  module _ (waits full : Bool) (some : waits ≡ true → 0 < length p.buffer.waiting) (filled : full ≡ true → 0 < length p.buffer.waiting) (none : waits ≡ false → p.buffer.waiting ≡ []) where
    traps_can : (et : Bool) → CanBy (trap_needs et waits)
    traps_can true = none_can
    traps_can false = drains_can waits whys.End NoTurn refl some (λ no. none_can)

    outcome_can : (et : Bool) (out : Outcome) → Misses s.ctl.pc e p.site.image.text (arrays_in (ports_of p)) out → CanBy (outcome_needs et waits full out)
    outcome_can et NotTried says = none_can
    outcome_can et NoText says = traps_can et
    outcome_can et (FetchMiss why) says = drains_can waits whys.Miss (Turn kinds.Fetch why) refl some (λ no. fetch_can why says.0 says.1 says.2)
    outcome_can et (BadRegister cell) says = drains_can waits whys.End (RegisterStop cell) refl some (λ no. stop_can cell)
    outcome_can et OrdinaryTrap says = traps_can et
    outcome_can et (LoadMiss why) says = drains_can waits whys.Miss (Turn kinds.Load why) refl some (λ no. load_can why says.0 says.1.0 says.1.1 says.1.2)
    outcome_can et (LoadHit slot) says = none_can
    outcome_can et Store says = drains_can full whys.Full NoTurn refl filled (λ no. none_can)
    outcome_can et Atomic says = drains_can waits whys.Atomic (Turn kinds.Atomic whys.None) refl some (λ no. atomic_can says.0 says.1 (none no))
    outcome_can et (Barrier why) says = drains_can waits why NoTurn says some (λ no. none_can)
    outcome_can et Other says = none_can

    pub step_can : (over et : Bool) (out : Outcome) → (over ≡ false → Misses s.ctl.pc e p.site.image.text (arrays_in (ports_of p)) out) → CanBy (step_needs over et waits full out)
    step_can true et out says = drains_can waits whys.Window (Turn kinds.Snoop whys.Window) refl some (λ no. snoop_can)
    step_can false et out says = outcome_can et out (says refl)
