-- An instruction that retires with an operation is no atomic, and where it is a load it hit the data cache.
use Rattle.std.proofs.Common.{◌≡◌, ◌∙◌, ℕ, Bool, true, false, Option, Some, None, refl, sym, subst}
use Rattle.core_steps.proofs.Outcomes.{Says}
use Rattle.lf_model.specs.Caches.Cache.{Cache}
use Rattle.lf_model.specs.Caches.Look.{look}
use Rattle.lf_model.specs.Caches.Look.LookUp.{Hit}
use Rattle.lf_model.specs.Course.Outcome.{Outcome, drains, outcome_needs}
use Rattle.lf_model.specs.Course.Outcome.Need.{NoTurn, Turn, RegisterStop}
use Rattle.lf_model.specs.Course.Outcome.Outcome.{NotTried, NoText, FetchMiss, BadRegister, OrdinaryTrap, LoadMiss, LoadHit, Store, Atomic, Barrier, Other}
use Rattle.lf_model.specs.Effect.{AccessKind, Access, Effect}
use Rattle.lf_model.specs.declared.bus.TurnKind.TheVariants as kinds
use Rattle.lf_model.specs.declared.bus.Why.{Why}
use Rattle.lf_model.specs.declared.bus.Why.TheVariants as whys

-- an access of this kind whose try came to this; cache: the data cache before the try
abbrev pub RetiresAs : Cache → Access → AccessKind → Outcome → Type 0
RetiresAs cache x AccessKind.Load out = (slot : ℕ) × ((look x.addr x.len cache).answer ≡ Hit slot)
RetiresAs cache x AccessKind.Store out = Unit {0}
RetiresAs cache x AccessKind.Atomic out = ⊥

-- a turn is needed first
turn_first : (waits : Bool) (why why' : Why) (kind : _) → drains waits why (Turn kind why') ≡ NoTurn → ⊥
turn_first true why why' kind is = cc
turn_first false why why' kind is = cc

stop_first : (waits : Bool) (why : Why) (cell : ℕ) → drains waits why (RegisterStop cell) ≡ NoTurn → ⊥
stop_first true why cell is = cc
stop_first false why cell is = cc

module _ (e : Effect) (cache : Cache) (x : Access) (made : e.access ≡ Some x) where
  none_made : e.access ≡ None → ⊥
  none_made none = some_not (sym none ∙ made)
    where
      some_not : ◌≡◌ {A = Option Access} None (Some x) → ⊥
      some_not is = cc

  same_access : (y : Access) → e.access ≡ Some y → y ≡ x
  same_access y is = one (sym is ∙ made)
    where
      one : ◌≡◌ {A = Option Access} (Some y) (Some x) → y ≡ x
      one same = cc

  as_load : (slot : ℕ) (out : Outcome) (kind : AccessKind) → kind ≡ AccessKind.Load → (look x.addr x.len cache).answer ≡ Hit slot → RetiresAs cache x kind out
  as_load slot out AccessKind.Load is hit = (slot, hit)
  as_load slot out AccessKind.Store is hit = absurd (other is)
    where
      other : AccessKind.Store ≡ AccessKind.Load → ⊥
      other same = cc
  as_load slot out AccessKind.Atomic is hit = absurd (other is)
    where
      other : AccessKind.Atomic ≡ AccessKind.Load → ⊥
      other same = cc

  as_store : (kind : AccessKind) → kind ≡ AccessKind.Store → RetiresAs cache x kind Store
  as_store AccessKind.Store is = tt
  as_store AccessKind.Load is = absurd (other is)
    where
      other : AccessKind.Load ≡ AccessKind.Store → ⊥
      other same = cc
  as_store AccessKind.Atomic is = absurd (other is)
    where
      other : AccessKind.Atomic ≡ AccessKind.Store → ⊥
      other same = cc

  pub retires_as : (et waits full : Bool) (out : Outcome) → Says e cache out → outcome_needs et waits full out ≡ NoTurn → RetiresAs cache x x.kind out
  retires_as et waits full NotTried says none = absurd says
  retires_as et waits full NoText says none = absurd (none_made says)
  retires_as et waits full (FetchMiss why) says none = absurd (turn_first waits whys.Miss why kinds.Fetch none)
  retires_as et waits full (BadRegister cell) says none = absurd (stop_first waits whys.End cell none)
  retires_as et waits full OrdinaryTrap says none = absurd (none_made says)
  retires_as et waits full (LoadMiss why) says none = absurd (turn_first waits whys.Miss why kinds.Load none)
  retires_as et waits full (LoadHit slot) says none =
      let same = same_access says.0 says.1 in
      as_load slot (LoadHit slot) x.kind (subst (λ (y : Access). y.kind ≡ AccessKind.Load) same says.2) (subst (λ (y : Access). (look y.addr y.len cache).answer ≡ Hit slot) same says.3)
  retires_as et waits full Store says none = as_store x.kind (subst (λ (y : Access). y.kind ≡ AccessKind.Store) (same_access says.0 says.1) says.2)
  retires_as et waits full Atomic says none = absurd (turn_first waits whys.Atomic whys.None kinds.Atomic none)
  retires_as et waits full (Barrier why) says none = absurd (none_made says.0)
  retires_as et waits full Other says none = absurd (none_made says)
