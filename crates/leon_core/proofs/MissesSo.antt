-- What a try leaves for the turn that its step needs: the set of a fill was checked, and the turn has a cause of its kind.
use Rattle.std.proofs.Common.{◌≡◌, ℕ, true, List, Option, Some, None, refl, inl, inr}
use Rattle.std.proofs.lemmas.Bool.{cases_Bool}
use Rattle.leon_core.proofs.BarrierCause.{IsDrainCause, barrier_cause}
use Rattle.leon_core.proofs.CleanLook.{IsFillCause, clean_looked, causes_fill}
use Rattle.lf_model.specs.Caches.Cache.{Cache}
use Rattle.lf_model.specs.Caches.Look.{LookUp, Looked, look}
use Rattle.lf_model.specs.Caches.Look.LookUp.{Hit, Miss}
use Rattle.lf_model.specs.Course.Arrays.{Arrays, CellsRead, cells_of, read_cells}
use Rattle.lf_model.specs.Course.Attempt.{Attempt, load_attempt, access_attempt, barrier_attempt, operation_attempt, trap_attempt, register_attempt, fetch_attempt, attempt}
use Rattle.lf_model.specs.Course.Outcome.{Outcome}
use Rattle.lf_model.specs.Course.Outcome.Outcome.{NotTried, NoText, FetchMiss, BadRegister, OrdinaryTrap, LoadMiss, LoadHit, Store, Atomic, Barrier, Other}
use Rattle.lf_model.specs.Effect.{AccessKind, Access, Effect}
use Rattle.lf_model.specs.Run.{effect_at_pc}
use Rattle.lf_model.specs.Start.{is_text_word}
use Rattle.lf_model.specs.State.{State}
use Rattle.lf_model.specs.declared.bus.Why.{Why}
use Rattle.lf_model.specs.declared.image.Range.{Range}
use Rattle.lf_model.specs.declared.setup.Setup.{Setup}
use Rattle.parity_cache.specs.CacheState.{IsCleanSet}

-- of these arrays, for an instruction at pc with this effect
abbrev pub Misses : ℕ → Effect → List Range → Arrays → Outcome → Type 0
Misses pc e text a (FetchMiss why) = IsFillCause why × (is_text_word text pc ≡ true) × IsCleanSet pc a.fetch_cache
Misses pc e text a (LoadMiss why) = IsFillCause why × ((x : Access) × (e.access ≡ Some x) × IsCleanSet x.addr a.data_cache)
Misses pc e text a Atomic = (x : Access) × (e.access ≡ Some x)
Misses pc e text a (Barrier why) = IsDrainCause why
Misses pc e text a NotTried = Unit {0}
Misses pc e text a NoText = Unit {0}
Misses pc e text a (BadRegister cell) = Unit {0}
Misses pc e text a OrdinaryTrap = Unit {0}
Misses pc e text a (LoadHit slot) = Unit {0}
Misses pc e text a Store = Unit {0}
Misses pc e text a Other = Unit {0}

module _ (setup : Setup) (core : ℕ) (s : State) where
  abbrev e : Effect
  e = effect_at_pc setup core s

  abbrev Leaves : Attempt → Type 0
  Leaves x = Misses s.ctl.pc e setup.image.text x.arrays x.outcome

  loads : (a : Arrays) (x : Access) (answer : LookUp) (cache : Cache) → e.access ≡ Some x → ((why : Why) → answer ≡ Miss why → IsFillCause why) → IsCleanSet x.addr cache
      → Leaves (load_attempt a (record { answer = answer; cache = cache }))
  loads a x (Hit slot) cache access causes clean = tt
  loads a x (Miss why) cache access causes clean = (causes why refl, (x, access, clean))

  accesses : (a : Arrays) (x : Access) (kind : AccessKind) → e.access ≡ Some x → Leaves (access_attempt x a kind)
  accesses a x AccessKind.Load access =
      let found : Looked = look x.addr x.len a.data_cache in
      loads a x found.answer found.cache access (causes_fill x.addr x.len a.data_cache) (clean_looked x.addr x.len a.data_cache)
  accesses a x AccessKind.Store access = tt
  accesses a x AccessKind.Atomic access = (x, access)

  barriers : (a : Arrays) (barrier : Option Why) → e.barrier ≡ barrier → Leaves (barrier_attempt a barrier)
  barriers a None is = tt
  barriers a (Some why) is = barrier_cause setup core s why is

  operates : (a : Arrays) (access : Option Access) → e.access ≡ access → Leaves (operation_attempt e a access)
  operates a None is = barriers a e.barrier refl
  operates a (Some x) is = accesses a x x.kind is

  traps : (a : Arrays) (trap : Option ℕ) → Leaves (trap_attempt e a trap)
  traps a None = operates a e.access refl
  traps a (Some tt_) = tt

  registers : (a : Arrays) (bad : Option ℕ) → Leaves (register_attempt e a bad)
  registers a None = traps a e.trap
  registers a (Some cell) = tt

  fetches : (a : Arrays) (answer : LookUp) → is_text_word setup.image.text s.ctl.pc ≡ true → ((why : Why) → answer ≡ Miss why → IsFillCause why) → IsCleanSet s.ctl.pc a.fetch_cache → Leaves (fetch_attempt s e a answer)
  fetches a (Miss why) text causes clean = (causes why refl, text, clean)
  fetches a (Hit slot) text causes clean =
      let read : CellsRead = read_cells (cells_of s.ctl.cwp e.reads) a.cells in
      registers (record a { cells = read.cells }) read.bad

  pub misses_so : (a : Arrays) → Leaves (attempt setup.image s e a)
  unfolding attempt
  misses_so a =
      let found : Looked = look s.ctl.pc 4 a.fetch_cache in
      elim (cases_Bool (is_text_word setup.image.text s.ctl.pc)) [
        | inl text ↦ rw text (fetches (record a { fetch_cache = found.cache }) found.answer text (causes_fill s.ctl.pc 4 a.fetch_cache) (clean_looked s.ctl.pc 4 a.fetch_cache))
        | inr no_text ↦ rw no_text tt
      ]
