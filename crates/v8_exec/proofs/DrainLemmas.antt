-- An instruction asks for a drain where a store waits, and for the turn of an atomic where none does.
use Rattle.std.proofs.Common.{◌≡◌, ◌∙◌, ℕ, ◌∷◌, [], Bool, cond, true, false, Option, Some, None, unwrap_or, refl, sym, ap}
use Rattle.std.proofs.lemmas.Bool.{false≢true}
use Rattle.lf_model.specs.Effect.{AccessKind, Access, Effect}
use Rattle.lf_model.specs.State.{State}
use Rattle.lf_model.specs.Step.{Parts, first_bad, stop_row, trap_row, miss_row, kind_row, access_row, barrier_row, first_row, came_to}
use Rattle.lf_model.specs.declared.bus.Why.{Why}
use Rattle.lf_model.specs.declared.bus.Why.TheVariants as whys
use Rattle.lf_model.specs.declared.step.Did.{Did}
use Rattle.lf_model.specs.declared.step.Did.TheVariants.{Retired, Need, Halt, Stop}
use Rattle.lf_model.specs.declared.step.Look.{Look}
use Rattle.lf_model.specs.declared.step.Look.TheVariants.{Hit, Miss}
use Rattle.lf_model.specs.declared.step.RegBad.{RegBad}
use Rattle.lf_model.specs.declared.step.Turn.TheVariants.{Load, Atomic, Drain}

abbrev is_drain : Did → Bool
is_drain (Need (Drain why)) = true
is_drain _ = false

abbrev is_atomic : Did → Bool
is_atomic (Need (Atomic addr len new rd)) = true
is_atomic _ = false

-- a row has an answer for which the test holds
abbrev row_is : (Did → Bool) → Option Did → Bool
row_is test None = false
row_is test (Some did) = test did

rows : (test : Did → Bool) (stop trap access barrier : Option Did) → test Retired ≡ false
    → row_is test stop ≡ false → row_is test trap ≡ false → row_is test access ≡ false → row_is test barrier ≡ false
    → test (unwrap_or (first_row (stop ∷ trap ∷ access ∷ barrier ∷ [])) Retired) ≡ false
rows test (Some did) trap access barrier retired s t a b = s
rows test None (Some did) access barrier retired s t a b = t
rows test None None (Some did) barrier retired s t a b = a
rows test None None None (Some did) retired s t a b = b
rows test None None None None retired s t a b = retired

-- ---- a drain

-- where no store waits, none drains
undrained : (waits : Bool) (why : Why) (did : Did) → waits ≡ false → is_drain did ≡ false → is_drain (cond waits (Need (Drain why)) did) ≡ false
undrained true why did none other = absurd (false≢true (sym none))
undrained false why did none other = other

module _ (parts : Parts) (none : parts.waiting ≡ false) (room : parts.full ≡ false) where
  stop_undrained : (bad : Option RegBad) → row_is is_drain (stop_row parts bad) ≡ false
  stop_undrained None = refl
  stop_undrained (Some bad) = undrained parts.waiting whys.End (Stop 0x20 bad.cell bad.syn) none refl

  trap_undrained : (et : Bool) (trap : Option ℕ) → row_is is_drain (trap_row parts et trap) ≡ false
  trap_undrained et None = refl
  trap_undrained true (Some tt_) = refl
  trap_undrained false (Some tt_) = undrained parts.waiting whys.End (Halt tt_) none refl

  miss_undrained : (x : Access) (look : Look) → row_is is_drain (miss_row parts x look) ≡ false
  miss_undrained x (Hit value way) = refl
  miss_undrained x (Miss why) = undrained parts.waiting whys.Miss (Need (Load x.addr x.len why)) none refl

  kind_undrained : (x : Access) (kind : AccessKind) → row_is is_drain (kind_row parts x kind) ≡ false
  kind_undrained x AccessKind.Load = miss_undrained x (parts.look x.addr x.len)
  kind_undrained x AccessKind.Store = rw room refl
  kind_undrained x AccessKind.Atomic = undrained parts.waiting whys.Atomic (Need (Atomic x.addr x.len x.put x.rd)) none refl

  access_undrained : (access : Option Access) → row_is is_drain (access_row parts access) ≡ false
  access_undrained None = refl
  access_undrained (Some x) = kind_undrained x x.kind

  barrier_undrained : (barrier : Option Why) → row_is is_drain (barrier_row parts barrier) ≡ false
  barrier_undrained None = refl
  barrier_undrained (Some why) = rw none refl

  came_undrained : (s : State) (e : Effect) → is_drain (came_to parts s e) ≡ false
  came_undrained s e =
      rows is_drain (stop_row parts (first_bad parts s.ctl.cwp e.reads)) (trap_row parts s.ctl.et e.trap) (access_row parts e.access) (barrier_row parts e.barrier) refl
      (stop_undrained (first_bad parts s.ctl.cwp e.reads)) (trap_undrained s.ctl.et e.trap) (access_undrained e.access) (barrier_undrained e.barrier)

drain_by : (parts : Parts) (s : State) (e : Effect) (why : Why) (waits full : Bool) → parts.waiting ≡ waits → parts.full ≡ full
    → (full ≡ true → waits ≡ true) → came_to parts s e ≡ Need (Drain why) → waits ≡ true
drain_by parts s e why true full waiting is_full filled came = refl
drain_by parts s e why false true waiting is_full filled came = filled refl
drain_by parts s e why false false waiting is_full filled came =
    absurd (false≢true (sym (came_undrained parts waiting is_full s e) ∙ ap is_drain came))

-- a store waits that is to drain; in a full store buffer one waits
pub drain_waits : (parts : Parts) (s : State) (e : Effect) (why : Why) → (parts.full ≡ true → parts.waiting ≡ true)
    → came_to parts s e ≡ Need (Drain why) → parts.waiting ≡ true
drain_waits parts s e why filled came = drain_by parts s e why parts.waiting parts.full refl refl filled came

-- ---- an atomic

-- where a store waits, it drains first
deferred : (waits : Bool) (why : Why) (did : Did) → waits ≡ true → is_atomic (cond waits (Need (Drain why)) did) ≡ false
deferred true why did some = refl
deferred false why did some = absurd (false≢true some)

module _ (parts : Parts) (some : parts.waiting ≡ true) where
  stop_deferred : (bad : Option RegBad) → row_is is_atomic (stop_row parts bad) ≡ false
  stop_deferred None = refl
  stop_deferred (Some bad) = deferred parts.waiting whys.End (Stop 0x20 bad.cell bad.syn) some

  trap_deferred : (et : Bool) (trap : Option ℕ) → row_is is_atomic (trap_row parts et trap) ≡ false
  trap_deferred et None = refl
  trap_deferred true (Some tt_) = refl
  trap_deferred false (Some tt_) = deferred parts.waiting whys.End (Halt tt_) some

  miss_deferred : (x : Access) (look : Look) → row_is is_atomic (miss_row parts x look) ≡ false
  miss_deferred x (Hit value way) = refl
  miss_deferred x (Miss why) = deferred parts.waiting whys.Miss (Need (Load x.addr x.len why)) some

  full_deferred : (full : Bool) → row_is is_atomic (cond full (Some (Need (Drain whys.Full))) None) ≡ false
  full_deferred true = refl
  full_deferred false = refl

  kind_deferred : (x : Access) (kind : AccessKind) → row_is is_atomic (kind_row parts x kind) ≡ false
  kind_deferred x AccessKind.Load = miss_deferred x (parts.look x.addr x.len)
  kind_deferred x AccessKind.Store = full_deferred parts.full
  kind_deferred x AccessKind.Atomic = deferred parts.waiting whys.Atomic (Need (Atomic x.addr x.len x.put x.rd)) some

  access_deferred : (access : Option Access) → row_is is_atomic (access_row parts access) ≡ false
  access_deferred None = refl
  access_deferred (Some x) = kind_deferred x x.kind

  barrier_deferred : (barrier : Option Why) → row_is is_atomic (barrier_row parts barrier) ≡ false
  barrier_deferred None = refl
  barrier_deferred (Some why) = rw some refl

  came_deferred : (s : State) (e : Effect) → is_atomic (came_to parts s e) ≡ false
  came_deferred s e =
      rows is_atomic (stop_row parts (first_bad parts s.ctl.cwp e.reads)) (trap_row parts s.ctl.et e.trap) (access_row parts e.access) (barrier_row parts e.barrier) refl
      (stop_deferred (first_bad parts s.ctl.cwp e.reads)) (trap_deferred s.ctl.et e.trap) (access_deferred e.access) (barrier_deferred e.barrier)

atomic_by : (parts : Parts) (s : State) (e : Effect) (addr len new rd : ℕ) (waits : Bool) → parts.waiting ≡ waits
    → came_to parts s e ≡ Need (Atomic addr len new rd) → waits ≡ false
atomic_by parts s e addr len new rd false waiting came = refl
atomic_by parts s e addr len new rd true waiting came = absurd (false≢true (sym (came_deferred parts waiting s e) ∙ ap is_atomic came))

-- no store waits as an atomic asks for its turn
pub atomic_alone : (parts : Parts) (s : State) (e : Effect) (addr len new rd : ℕ)
    → came_to parts s e ≡ Need (Atomic addr len new rd) → parts.waiting ≡ false
atomic_alone parts s e addr len new rd came = atomic_by parts s e addr len new rd parts.waiting refl came
