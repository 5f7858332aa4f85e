-- What an instruction comes to whose registers read well, and whose loads are answered by the next operation of a trace.
use Rattle.std.proofs.Common.{◌≡◌, ◌∙◌, ◌==◌, ℕ, zero, suc, Bool, cond, true, false, List, [], ◌∷◌, Option, Some, None, refl, sym, ap, inl, inr, slice_index_or}
use Rattle.std.specs.Prelude.{unwrap_or}
use Rattle.std.proofs.lemmas.Bool.{cases_Bool}
use Rattle.lf_model.specs.Effect.{AccessKind, Access, Effect}
use Rattle.lf_model.specs.State.{State, cell}
use Rattle.lf_model.specs.Step.{bad_register, bad_by, first_bad, trap_row, access_row, barrier_row, first_row, came_to}
use Rattle.lf_model.specs.Traps.{fetch_trap}
use Rattle.lf_model.specs.declared.bus.Why.{Why}
use Rattle.lf_model.specs.declared.bus.Why.TheVariants.{Absent}
use Rattle.lf_model.specs.declared.step.Did.{Did}
use Rattle.lf_model.specs.declared.step.Did.TheVariants.{Retired, Need, Halt}
use Rattle.lf_model.specs.declared.step.Turn.TheVariants.{Load, Atomic}
use Rattle.tso_thread.specs.ReplayState.{Answering, is_load, read_next, replay_answers}

-- no cell is bad
none_at : (k : ℕ) (d : Option ℕ) → slice_index_or [] k d ≡ d
none_at zero d = refl
none_at (suc k) d = refl

none_bad : (s : Answering) (window n : ℕ) → bad_register (replay_answers s) window n ≡ None
none_bad s window n = elim (cases_Bool (n == 0)) [
  | inl is ↦ rw is refl
  | inr not ↦ rw not (ap (λ (syn : Option ℕ). bad_by syn (cell window n)) (none_at (cell window n) None))
]

first_none : (s : Answering) (window : ℕ) (ns : List ℕ) → first_bad (replay_answers s) window ns ≡ None
first_none s window [] = refl
first_none s window (n ∷ ns) = rw (none_bad s window n) (first_none s window ns)

no_barrier : (s : Answering) (why : Option Why) → barrier_row (replay_answers s) why ≡ None
no_barrier s None = refl
no_barrier s (Some why) = refl

-- what it comes to, by its trap and its operation
pub data Case (s : Answering) (st : State) (e : Effect) (did : Did) : Type 0 where
  Traps : (tt_ : ℕ) → e.trap ≡ Some tt_ → did ≡ cond st.ctl.et Retired (Halt tt_) → Case s st e did
  Plain : e.access ≡ None → did ≡ Retired → Case s st e did
  Loads : (a : Access) (got : ℕ) → e.access ≡ Some a → a.kind ≡ AccessKind.Load → read_next is_load s a.addr a.len ≡ Some got → did ≡ Retired → Case s st e did
  Misses : (a : Access) → e.access ≡ Some a → a.kind ≡ AccessKind.Load → read_next is_load s a.addr a.len ≡ None → did ≡ Need (Load a.addr a.len Absent) → Case s st e did
  Stores : (a : Access) → e.access ≡ Some a → a.kind ≡ AccessKind.Store → did ≡ Retired → Case s st e did
  Atomics : (a : Access) → e.access ≡ Some a → a.kind ≡ AccessKind.Atomic → did ≡ Need (Atomic a.addr a.len a.put a.rd) → Case s st e did

module _ (s : Answering) (st : State) (e : Effect) where
  came : came_to (replay_answers s) st e ≡ unwrap_or (first_row (trap_row (replay_answers s) st.ctl.et e.trap ∷ access_row (replay_answers s) e.access ∷ None ∷ [])) Retired
  came = rw (first_none s st.ctl.cwp e.reads, no_barrier s e.barrier) refl

  by_read : (a : Access) (read : Option ℕ) → e.trap ≡ None → e.access ≡ Some a → a.kind ≡ AccessKind.Load → read_next is_load s a.addr a.len ≡ read → Case s st e (came_to (replay_answers s) st e)
  by_read a None no_trap some kind is = Misses a some kind is (came ∙ rw (no_trap, some, kind, is) refl)
  by_read a (Some got) no_trap some kind is = Loads a got some kind is (came ∙ rw (no_trap, some, kind, is) refl)

  by_kind : (a : Access) (kind : AccessKind) → e.trap ≡ None → e.access ≡ Some a → a.kind ≡ kind → Case s st e (came_to (replay_answers s) st e)
  by_kind a AccessKind.Load no_trap some kind = by_read a (read_next is_load s a.addr a.len) no_trap some kind refl
  by_kind a AccessKind.Store no_trap some kind = Stores a some kind (came ∙ rw (no_trap, some, kind) refl)
  by_kind a AccessKind.Atomic no_trap some kind = Atomics a some kind (came ∙ rw (no_trap, some, kind) refl)

  by_access : (access : Option Access) → e.trap ≡ None → e.access ≡ access → Case s st e (came_to (replay_answers s) st e)
  by_access None no_trap none = Plain none (came ∙ rw (no_trap, none) refl)
  by_access (Some a) no_trap some = by_kind a a.kind no_trap some refl

  by_et : (tt_ : ℕ) (et : Bool) → st.ctl.et ≡ et → e.trap ≡ Some tt_ → came_to (replay_answers s) st e ≡ cond et Retired (Halt tt_)
  by_et tt_ true enabled is = came ∙ rw (is, enabled) refl
  by_et tt_ false disabled is = came ∙ rw (is, disabled) refl

  by_trap : (trap : Option ℕ) → e.trap ≡ trap → Case s st e (came_to (replay_answers s) st e)
  by_trap None is = by_access e.access is refl
  by_trap (Some tt_) is = Traps tt_ is (by_et tt_ st.ctl.et refl is)

  pub case_of : Case s st e (came_to (replay_answers s) st e)
  case_of = by_trap e.trap refl

-- the trap of a PC that is no text word asks for no atomic
pub trap_no_atomic : (s : Answering) (st : State) (addr len put rd : ℕ) → came_to (replay_answers s) st (fetch_trap st) ≡ Need (Atomic addr len put rd) → ⊥
trap_no_atomic s st addr len put rd is = by st.ctl.et refl
  where
    by : (et : Bool) → st.ctl.et ≡ et → ⊥
    by true enabled = let e : Retired ≡ Need (Atomic addr len put rd) = sym (by_et s st (fetch_trap st) 0x01 true enabled refl) ∙ is in cc
    by false disabled = let e : Halt 0x01 ≡ Need (Atomic addr len put rd) = sym (by_et s st (fetch_trap st) 0x01 false disabled refl) ∙ is in cc
