-- An instruction whose parts answer by the arrays of its core's course comes to the answer of what the course says that its step
-- needs.
use Rattle.std.proofs.Common.{◌≡◌, ◌∙◌, ℕ, Bool, cond, true, false, List, [], ◌∷◌, Option, Some, None, unwrap_or, refl, sym, ap}
use Rattle.std.specs.Option.{option_map}
use Rattle.lf_model.specs.Caches.Cache.{Cache}
use Rattle.lf_model.specs.Caches.Look.{LookUp, look}
use Rattle.lf_model.specs.Caches.Look.LookUp.{Hit as Hits, Miss as Misses}
use Rattle.lf_model.specs.Caches.Slot.{history_at}
use Rattle.lf_model.specs.Course.Arrays.{Arrays, cells_of, read_cells}
use Rattle.lf_model.specs.Course.Attempt.{load_outcome, trap_attempt, operation_attempt, access_attempt, barrier_attempt, register_attempt}
use Rattle.lf_model.specs.Course.Outcome.{Outcome, Need, drains, outcome_needs}
use Rattle.lf_model.specs.Course.Outcome.Need.{NoTurn, Turn, RegisterStop}
use Rattle.lf_model.specs.Effect.{AccessKind, Access, Effect}
use Rattle.lf_model.specs.Flips.{Moment, syndrome}
use Rattle.lf_model.specs.State.{State}
use Rattle.lf_model.specs.Step.{Parts, first_bad, stop_row, trap_row, miss_row, kind_row, access_row, barrier_row, first_row, came_to}
use Rattle.lf_model.specs.declared.bus.TurnKind.TheVariants as kinds
use Rattle.lf_model.specs.declared.bus.Why.{Why}
use Rattle.lf_model.specs.declared.bus.Why.TheVariants as whys
use Rattle.lf_model.specs.declared.step.Did.{Did}
use Rattle.lf_model.specs.declared.step.Did.TheVariants as answers
use Rattle.lf_model.specs.declared.step.Look.{Look}
use Rattle.lf_model.specs.declared.step.Look.TheVariants.{Hit, Miss}
use Rattle.lf_model.specs.declared.step.RegBad.{RegBad}
use Rattle.lf_model.specs.declared.step.Turn.TheVariants as turns
use Rattle.v8_exec.specs.CourseParts.{AgreesWith, AnswersBy, load_turn, atomic_turn, did_by}
use Rattle.v8_exec.proofs.CourseReads.{tried, cell_of, finds_bad, syndrome_found}
use Rattle.v8_exec.proofs.EffectShape.{IsApart}

-- what the step needs whose instruction comes to this
abbrev needs : Parts → State → Outcome → Need
needs parts s outcome = outcome_needs s.ctl.et parts.waiting parts.full outcome

-- the rows of an operation and a barrier
abbrev rows : Option Did → Option Did → Did
rows access barrier = unwrap_or (first_row (None ∷ None ∷ access ∷ barrier ∷ [])) answers.Retired

module _ (parts : Parts) (s : State) (e : Effect) (apart : IsApart s e) where
  -- a store that waits drains first
  drained : (waits : Bool) (why : Why) (did : Did) (cells : List (List Moment)) (need : Need) → did ≡ did_by s e cells need
      → cond waits (answers.Need (turns.Drain why)) did ≡ did_by s e cells (drains waits why need)
  drained true why did cells need is = refl
  drained false why did cells need is = is

  -- ---- without a trap

  barriers : (cells : List (List Moment)) (a : Arrays) (barrier : Option Why) → e.trap ≡ None
      → rows None (barrier_row parts barrier) ≡ did_by s e cells (needs parts s (barrier_attempt a barrier).outcome)
  barriers cells a None none = rw none refl
  barriers cells a (Some why) none = by_waiting parts.waiting
    where
      by_waiting : (b : Bool) → rows None (cond b (Some (answers.Need (turns.Drain why))) None) ≡ did_by s e cells (drains b why NoTurn)
      by_waiting true = refl
      by_waiting false = rw none refl

  looked : (cells : List (List Moment)) (x : Access) (cache : Cache) (found : LookUp) (answer : Look) → e.trap ≡ None → e.access ≡ Some x
      → AgreesWith cache found answer → rows (miss_row parts x answer) None ≡ did_by s e cells (needs parts s (load_outcome found))
  looked cells x cache (Hits slot) (Hit value way) none some agrees = rw none refl
  looked cells x cache (Hits slot) (Miss why) none some agrees = absurd agrees
  looked cells x cache (Misses cause) (Hit value way) none some agrees = absurd agrees
  looked cells x cache (Misses cause) (Miss why) none some agrees =
      rw agrees (drained parts.waiting whys.Miss (answers.Need (turns.Load x.addr x.len cause)) cells (Turn kinds.Load cause)
      (ap (λ (access : Option Access). answers.Need (load_turn cause access)) (sym some)))

  accesses : (cells : List (List Moment)) (a : Arrays) (x : Access) (kind : AccessKind) → e.trap ≡ None → e.access ≡ Some x
      → AgreesWith a.data_cache (look x.addr x.len a.data_cache).answer (parts.look x.addr x.len)
      → rows (kind_row parts x kind) None ≡ did_by s e cells (needs parts s (access_attempt x a kind).outcome)
  accesses cells a x AccessKind.Load none some agrees = looked cells x a.data_cache (look x.addr x.len a.data_cache).answer (parts.look x.addr x.len) none some agrees
  accesses cells a x AccessKind.Store none some agrees = by_full parts.full
    where
      by_full : (b : Bool) → rows (cond b (Some (answers.Need (turns.Drain whys.Full))) None) None ≡ did_by s e cells (drains b whys.Full NoTurn)
      by_full true = refl
      by_full false = rw none refl
  accesses cells a x AccessKind.Atomic none some agrees =
      drained parts.waiting whys.Atomic (answers.Need (turns.Atomic x.addr x.len x.put x.rd)) cells (Turn kinds.Atomic whys.None)
      (ap (λ (access : Option Access). answers.Need (atomic_turn access)) (sym some))

  operates : (cells : List (List Moment)) (a : Arrays) (access : Option Access) → e.trap ≡ None → e.access ≡ access
      → ((addr len : ℕ) → AgreesWith a.data_cache (look addr len a.data_cache).answer (parts.look addr len))
      → rows (access_row parts access) (barrier_row parts e.barrier) ≡ did_by s e cells (needs parts s (operation_attempt e a access).outcome)
  operates cells a None none is agrees = barriers cells a e.barrier none
  operates cells a (Some x) none is agrees = ap (λ (barrier : Option Why). rows (access_row parts (Some x)) (barrier_row parts barrier)) (apart.alone x is)
      ∙ accesses cells a x x.kind none is (agrees x.addr x.len)

  -- ---- with one

  taken : (cells : List (List Moment)) (et waits : Bool) (tt_ : ℕ) → s.ctl.et ≡ et → e.trap ≡ Some tt_
      → cond et answers.Retired (cond waits (answers.Need (turns.Drain whys.End)) (answers.Halt tt_)) ≡ did_by s e cells (cond et NoTurn (drains waits whys.End NoTurn))
  taken cells true waits tt_ enabled is = rw is (rw enabled refl)
  taken cells false true tt_ disabled is = refl
  taken cells false false tt_ disabled is = rw is (rw disabled refl)

  traps : (cells : List (List Moment)) (a : Arrays) (trap : Option ℕ) → e.trap ≡ trap
      → ((addr len : ℕ) → AgreesWith a.data_cache (look addr len a.data_cache).answer (parts.look addr len))
      → unwrap_or (first_row (None ∷ trap_row parts s.ctl.et trap ∷ access_row parts e.access ∷ barrier_row parts e.barrier ∷ [])) answers.Retired
      ≡ did_by s e cells (needs parts s (trap_attempt e a trap).outcome)
  traps cells a None is agrees = operates cells a e.access is refl agrees
  traps cells a (Some tt_) is agrees = taken cells s.ctl.et parts.waiting tt_ refl is

  -- ---- with a bad register

  registers : (cells : List (List Moment)) (a : Arrays) (found : Option RegBad) (bad : Option ℕ) → bad ≡ option_map cell_of found
      → ((here : RegBad) → found ≡ Some here → syndrome (history_at here.cell cells) ≡ here.syn)
      → ((addr len : ℕ) → AgreesWith a.data_cache (look addr len a.data_cache).answer (parts.look addr len))
      → unwrap_or (first_row (stop_row parts found ∷ trap_row parts s.ctl.et e.trap ∷ access_row parts e.access ∷ barrier_row parts e.barrier ∷ [])) answers.Retired
      ≡ did_by s e cells (needs parts s (register_attempt e a bad).outcome)
  registers cells a None bad is named agrees = rw is (traps cells a e.trap refl agrees)
  registers cells a (Some here) bad is named agrees =
      rw is (drained parts.waiting whys.End (answers.Stop 0x20 here.cell here.syn) cells (RegisterStop here.cell) (sym (ap (λ (syn : ℕ). answers.Stop 0x20 here.cell syn) (named here refl))))

  -- ---- the whole

  barrier_cells : (a : Arrays) (barrier : Option Why) → (barrier_attempt a barrier).arrays.cells ≡ a.cells
  barrier_cells a None = refl
  barrier_cells a (Some why) = refl

  kind_cells : (a : Arrays) (x : Access) (kind : AccessKind) → (access_attempt x a kind).arrays.cells ≡ a.cells
  kind_cells a x AccessKind.Load = refl
  kind_cells a x AccessKind.Store = refl
  kind_cells a x AccessKind.Atomic = refl

  operation_cells : (a : Arrays) (access : Option Access) → (operation_attempt e a access).arrays.cells ≡ a.cells
  operation_cells a None = barrier_cells a e.barrier
  operation_cells a (Some x) = kind_cells a x x.kind

  trap_cells : (a : Arrays) (trap : Option ℕ) → (trap_attempt e a trap).arrays.cells ≡ a.cells
  trap_cells a None = operation_cells a e.access
  trap_cells a (Some tt_) = refl

  -- after its reads an instruction that is tried touches no cell
  register_cells : (a : Arrays) (bad : Option ℕ) → (register_attempt e a bad).arrays.cells ≡ a.cells
  register_cells a None = trap_cells a e.trap
  register_cells a (Some cell) = refl

  -- the answer of the instruction is that of what its step needs
  pub answered : (a : Arrays) → AnswersBy a parts
      → came_to parts s e ≡ did_by s e (tried s e a).arrays.cells (outcome_needs s.ctl.et parts.waiting parts.full (tried s e a).outcome)
  answered a says =
      let read = read_cells (cells_of s.ctl.cwp e.reads) a.cells in
      let b : Arrays = record a { cells = read.cells } in
      registers read.cells b (first_bad parts s.ctl.cwp e.reads) read.bad (finds_bad parts s.ctl.cwp e.reads a.cells says.bad).bad
      (λ here is. syndrome_found parts s.ctl.cwp e.reads a.cells here says.bad is) says.look_up
      ∙ ap (λ (cells : List (List Moment)). did_by s e cells (needs parts s (tried s e a).outcome)) (sym (register_cells b read.bad))
