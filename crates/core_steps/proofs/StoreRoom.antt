-- A store retires only where the store buffer has room: its try comes to a store, which drains the first that waits where the buffer is
-- full. So the stores that wait stay within the depth of the buffer.
use Rattle.std.proofs.Common.{◌≡◌, ◌∙◌, ◌+◌, ◌<◌, ◌≤◌, ℕ, Bool, true, false, [], ◌∷◌, Option, Some, None, length, nat_lt, nat_le, if◌then◌else◌, refl, ap, subst, arith}
use Rattle.std.proofs.lemmas.Bool.{leb-false}
use Rattle.std.proofs.lemmas.List.{length-append}
use Rattle.core_parts.specs.CoreValue.{CoreValue}
use Rattle.core_parts.specs.PortState.{PortState, arrays_in}
use Rattle.core_steps.specs.Tries.{state_here, effect_here, window_over, try_here, need_here, Tries}
use Rattle.core_steps.proofs.EffectEnds.{ends_so}
use Rattle.core_steps.proofs.Outcomes.{Says, Comes, comes}
use Rattle.core_steps.proofs.Retiring.{open_by, none_open, retired_none}
use Rattle.core_steps.proofs.TouchesLeave.{store_waiting, waits_as, waiting_tried, waiting_retired}
use Rattle.lf_model.specs.Caches.Cache.{Cache}
use Rattle.lf_model.specs.Course.Core.{is_store_kind}
use Rattle.lf_model.specs.Course.Outcome.{Outcome, Need, drains, outcome_needs}
use Rattle.lf_model.specs.Course.Outcome.Need.{NoTurn, Turn, RegisterStop}
use Rattle.lf_model.specs.Course.Outcome.Outcome.{NotTried, NoText, FetchMiss, BadRegister, OrdinaryTrap, LoadMiss, LoadHit, Store, Atomic, Barrier, Other}
use Rattle.lf_model.specs.Effect.{AccessKind, Access, Effect, operation_kind}
use Rattle.lf_model.specs.declared.bus.TurnKind.{TurnKind}
use Rattle.lf_model.specs.declared.bus.TurnKind.TheVariants as kinds
use Rattle.lf_model.specs.declared.bus.Why.{Why}
use Rattle.lf_model.specs.declared.bus.Why.TheVariants as whys
use Rattle.lf_model.specs.declared.step.Did.{Did}
use Rattle.lf_model.specs.declared.step.Did.TheVariants.{Retired, Turned, Need as Asks, Halt, Stop}
use Rattle.v8_exec.specs.Touching.{retires_of}

-- ---- the outcome of a store that needs no turn

no_turn : (waits : Bool) (why : Why) (need : Need) → (need ≡ NoTurn → ⊥) → drains waits why need ≡ NoTurn → ⊥
no_turn true why need other is = cc
no_turn false why need other is = other is

not_turn : (kind : TurnKind) (why : Why) → Turn kind why ≡ NoTurn → ⊥
not_turn kind why is = cc

not_stop : (cell : ℕ) → RegisterStop cell ≡ NoTurn → ⊥
not_stop cell is = cc

abbrev pub is_store_in : Option Access → Bool
is_store_in None = false
is_store_in (Some x) = is_store_kind (operation_kind x.kind)

module _ (e : Effect) (cache : Cache) (storing : is_store_in e.access ≡ true) where
  none_not : e.access ≡ None → ⊥
  none_not none = let both : is_store_in None ≡ true = rw none at storing in absurd cc

  kind_not : (x : Access) → e.access ≡ Some x → x.kind ≡ AccessKind.Load → ⊥
  kind_not x access kind = let both : is_store_kind (operation_kind x.kind) ≡ true = rw access at storing in let load : false ≡ true = rw kind at both in absurd cc

  comes_to_store : (et waits full : Bool) (out : Outcome) → Says e cache out → outcome_needs et waits full out ≡ NoTurn → out ≡ Store
  comes_to_store et waits full NotTried says none = absurd says
  comes_to_store et waits full NoText says none = absurd (none_not says)
  comes_to_store et waits full (FetchMiss why) says none = absurd (no_turn waits whys.Miss (Turn kinds.Fetch why) (not_turn kinds.Fetch why) none)
  comes_to_store et waits full (BadRegister cell) says none = absurd (no_turn waits whys.End (RegisterStop cell) (not_stop cell) none)
  comes_to_store et waits full OrdinaryTrap says none = absurd (none_not says)
  comes_to_store et waits full (LoadMiss why) says none = absurd (no_turn waits whys.Miss (Turn kinds.Load why) (not_turn kinds.Load why) none)
  comes_to_store et waits full (LoadHit slot) says none = absurd (kind_not says.0 says.1 says.2)
  comes_to_store et waits full Store says none = refl
  comes_to_store et waits full Atomic says none = absurd (no_turn waits whys.Atomic (Turn kinds.Atomic whys.None) (not_turn kinds.Atomic whys.None) none)
  comes_to_store et waits full (Barrier why) says none = absurd (none_not says.0)
  comes_to_store et waits full Other says none = absurd (none_not says)

room_by : (et waits full : Bool) → outcome_needs et waits full Store ≡ NoTurn → full ≡ false
room_by et waits false none = refl
room_by et waits true none = absurd (not_turn kinds.Store whys.Full none)

-- ---- a store that retires

module _ (old new : CoreValue) (t : Tries Retired old new) where
  abbrev waits : Bool
  waits = nat_lt 0 (length old.ports.waiting)

  abbrev full : Bool
  full = nat_le old.ports.depth (length old.ports.waiting)

  need : need_here old (try_here old).outcome ≡ NoTurn
  need = retired_none (state_here old) (effect_here old) (try_here old).arrays.cells (need_here old (try_here old).outcome) t.answer

  open_ : window_over old ≡ false
  open_ = open_by (window_over old) old.arch.ctl.et waits full (try_here old).outcome need

  needs_none : outcome_needs old.arch.ctl.et waits full (try_here old).outcome ≡ NoTurn
  needs_none = none_open (window_over old) old.arch.ctl.et waits full (try_here old).outcome open_ need

  comes_here : Comes (effect_here old) old.ports.data_cache.cache (try_here old)
  comes_here = rw open_ (comes old.setup old.arch.core (state_here old) (arrays_in old.ports) (ends_so old.setup old.arch.core (state_here old)).apart)

  -- its try comes to a store
  pub comes_to_store_here : is_store_in (effect_here old).access ≡ true → (try_here old).outcome ≡ Store
  comes_to_store_here storing = comes_to_store (effect_here old) old.ports.data_cache.cache storing old.arch.ctl.et waits full (try_here old).outcome comes_here.says needs_none

  -- and it found room
  pub room_here : is_store_in (effect_here old).access ≡ true → length old.ports.waiting < old.ports.depth
  room_here storing =
      let store : outcome_needs old.arch.ctl.et waits full Store ≡ NoTurn = subst (λ (out : Outcome). outcome_needs old.arch.ctl.et waits full out ≡ NoTurn) (comes_to_store_here storing) needs_none in
      let below = leb-false old.ports.depth (length old.ports.waiting) (room_by old.arch.ctl.et waits full store) in
      omega (arith, below)

-- ---- how many stores wait

-- of an instruction that retires only a store waits
store_one : (access : Option Access) → length (store_waiting access) ≡ (if is_store_in access then 1 else 0)
store_one None = refl
store_one (Some x) = by (is_store_kind (operation_kind x.kind))
  where
    by : (is : Bool) → length (if is then waits_as x ∷ [] else []) ≡ (if is then 1 else 0)
    by true = refl
    by false = refl

module _ (did : Did) (old new : CoreValue) (t : Tries did old new) (within : length old.ports.waiting ≤ old.ports.depth) where
  abbrev Within : Type 0
  Within = length new.ports.waiting ≤ old.ports.depth

  unretired : retires_of (effect_here old) did ≡ [] → Within
  unretired none =
      let same : length new.ports.waiting ≡ length old.ports.waiting = ap (λ (s : PortState). length s.waiting) t.ports ∙ ap length (waiting_tried old did none) in
      omega (arith, same, within)

  grown : (n : ℕ) (storing : Bool) → n ≡ (if storing then 1 else 0) → (storing ≡ true → length old.ports.waiting < old.ports.depth) → length old.ports.waiting + n ≤ old.ports.depth
  grown n true is room = let below = room refl in omega (arith, is, below)
  grown n false is room = omega (arith, is, within)

  retired : did ≡ Retired → Within
  retired is =
      let u : Tries Retired old new = subst (λ (d : Did). Tries d old new) is t in
      let more : length new.ports.waiting ≡ length old.ports.waiting + length (store_waiting (effect_here old).access) =
      ap (λ (s : PortState). length s.waiting) u.ports ∙ (ap length (waiting_retired old Retired refl) ∙ length-append old.ports.waiting (store_waiting (effect_here old).access)) in
      let most = grown (length (store_waiting (effect_here old).access)) (is_store_in (effect_here old).access) (store_one (effect_here old).access) (room_here old new u) in
      omega (arith, more, most)

  by_did : (d : Did) → did ≡ d → Within
  by_did Retired is = retired is
  by_did Turned is = unretired (ap (retires_of (effect_here old)) is)
  by_did (Asks turn) is = unretired (ap (retires_of (effect_here old)) is)
  by_did (Halt tt_) is = unretired (ap (retires_of (effect_here old)) is)
  by_did (Stop tt_ place syn) is = unretired (ap (retires_of (effect_here old)) is)

  -- no more than the buffer has places
  pub waiting_within : length new.ports.waiting ≤ old.ports.depth
  waiting_within = by_did did refl
