-- What an instruction comes to on a core that refuses nothing, by its kind.
use Rattle.std.proofs.Common.{◌≡◌, ◌∙◌, ◌==◌, ℕ, zero, suc, Bool, cond, true, false, List, [], ◌∷◌, Option, Some, None, refl, ap, inl, inr, slice_index_or}
use Rattle.std.specs.Prelude.{unwrap_or}
use Rattle.std.proofs.lemmas.Bool.{cases_Bool}
use Rattle.lf_model.specs.Effect.{AccessKind, Access, Effect}
use Rattle.lf_model.specs.State.{State, cell}
use Rattle.lf_model.specs.Step.{bad_register, bad_by, first_bad, trap_row, access_row, barrier_row, first_row, came_to}
use Rattle.lf_model.specs.declared.bus.Why.{Why}
use Rattle.lf_model.specs.declared.bus.Why.TheVariants as whys
use Rattle.lf_model.specs.declared.step.Did.{Did}
use Rattle.lf_model.specs.declared.step.Did.TheVariants.{Retired, Need, Halt}
use Rattle.lf_model.specs.declared.step.Turn.TheVariants.{Atomic, Drain}
use Rattle.replay_effects.specs.Noted.{nothing_noted, trial_answers}
use Rattle.v8_exec.proofs.EffectShape.{IsApart}

pub data Kind (e : Effect) : Type 0 where
  Traps : (tt_ : ℕ) → e.trap ≡ Some tt_ → Kind e
  Loads : (x : Access) → e.trap ≡ None → e.access ≡ Some x → x.kind ≡ AccessKind.Load → Kind e
  Stores : (x : Access) → e.trap ≡ None → e.access ≡ Some x → x.kind ≡ AccessKind.Store → Kind e
  Atomics : (x : Access) → e.trap ≡ None → e.access ≡ Some x → x.kind ≡ AccessKind.Atomic → Kind e
  Barriers : (why : Why) → e.trap ≡ None → e.access ≡ None → e.barrier ≡ Some why → Kind e
  Plain : e.trap ≡ None → e.access ≡ None → e.barrier ≡ None → Kind e

module _ (e : Effect) where
  by_kind : (x : Access) (kind : AccessKind) → e.trap ≡ None → e.access ≡ Some x → x.kind ≡ kind → Kind e
  by_kind x AccessKind.Load untrapped some is = Loads x untrapped some is
  by_kind x AccessKind.Store untrapped some is = Stores x untrapped some is
  by_kind x AccessKind.Atomic untrapped some is = Atomics x untrapped some is

  by_barrier : (barrier : Option Why) → e.trap ≡ None → e.access ≡ None → e.barrier ≡ barrier → Kind e
  by_barrier None untrapped none is = Plain untrapped none is
  by_barrier (Some why) untrapped none is = Barriers why untrapped none is

  by_access : (access : Option Access) → e.trap ≡ None → e.access ≡ access → Kind e
  by_access None untrapped is = by_barrier e.barrier untrapped is refl
  by_access (Some x) untrapped is = by_kind x x.kind untrapped is refl

  by_trap : (trap : Option ℕ) → e.trap ≡ trap → Kind e
  by_trap None is = by_access e.access is refl
  by_trap (Some tt_) is = Traps tt_ is

  pub kind_of : Kind e
  kind_of = by_trap e.trap refl

-- what it comes to: by whether traps are enabled, and whether a store waits
abbrev pub came_by : {e : Effect} → Kind e → Bool → Bool → Did
came_by (Traps tt_ is) et waiting = cond et Retired (cond waiting (Need (Drain whys.End)) (Halt tt_))
came_by (Loads x untrapped some is) et waiting = Retired
came_by (Stores x untrapped some is) et waiting = Retired
came_by (Atomics x untrapped some is) et waiting = cond waiting (Need (Drain whys.Atomic)) (Need (Atomic x.addr x.len x.put x.rd))
came_by (Barriers why untrapped none is) et waiting = cond waiting (Need (Drain why)) Retired
came_by (Plain untrapped none bare) et waiting = Retired

-- ---- no cell is bad

none_at : (k : ℕ) (d : Option ℕ) → slice_index_or [] k d ≡ d
none_at zero d = refl
none_at (suc k) d = refl

module _ (got : ℕ) (waiting : Bool) where
  none_bad : (window n : ℕ) → bad_register (trial_answers (nothing_noted got waiting)) window n ≡ None
  none_bad window n = elim (cases_Bool (n == 0)) [
    | inl is ↦ rw is refl
    | inr not ↦ rw not (ap (λ (syn : Option ℕ). bad_by syn (cell window n)) (none_at (cell window n) None))
  ]

  pub first_none : (window : ℕ) (ns : List ℕ) → first_bad (trial_answers (nothing_noted got waiting)) window ns ≡ None
  first_none window [] = refl
  first_none window (n ∷ ns) = rw (none_bad window n) (first_none window ns)

  module _ (s : State) (e : Effect) (apart : IsApart s e) where
    -- without a bad register
    came_after : came_to (trial_answers (nothing_noted got waiting)) s e
        ≡ unwrap_or (first_row (trap_row (trial_answers (nothing_noted got waiting)) s.ctl.et e.trap
        ∷ access_row (trial_answers (nothing_noted got waiting)) e.access ∷ barrier_row (trial_answers (nothing_noted got waiting)) e.barrier ∷ [])) Retired
    came_after = rw (first_none s.ctl.cwp e.reads) refl

    trapped : (et : Bool) (tt_ : ℕ) → s.ctl.et ≡ et → e.trap ≡ Some tt_
        → came_to (trial_answers (nothing_noted got waiting)) s e ≡ cond s.ctl.et Retired (cond waiting (Need (Drain whys.End)) (Halt tt_))
    trapped true tt_ on is = came_after ∙ rw (is, on) refl
    trapped false tt_ off is = came_after ∙ rw (is, off) refl

    barred : (w : Bool) (why : Why) → waiting ≡ w → e.trap ≡ None → e.access ≡ None → e.barrier ≡ Some why
        → came_to (trial_answers (nothing_noted got waiting)) s e ≡ cond waiting (Need (Drain why)) Retired
    barred true why waits untrapped none is = came_after ∙ rw (untrapped, none, is, waits) refl
    barred false why waits untrapped none is = came_after ∙ rw (untrapped, none, is, waits) refl

    exchanged : (w : Bool) (x : Access) → waiting ≡ w → e.trap ≡ None → e.access ≡ Some x → x.kind ≡ AccessKind.Atomic
        → came_to (trial_answers (nothing_noted got waiting)) s e ≡ cond waiting (Need (Drain whys.Atomic)) (Need (Atomic x.addr x.len x.put x.rd))
    exchanged true x waits untrapped some is = came_after ∙ rw (untrapped, some, is, waits) refl
    exchanged false x waits untrapped some is = came_after ∙ rw (untrapped, some, is, waits) refl

    pub came : (kind : Kind e) → came_to (trial_answers (nothing_noted got waiting)) s e ≡ came_by kind s.ctl.et waiting
    came (Traps tt_ is) = trapped s.ctl.et tt_ refl is
    came (Loads x untrapped some is) = came_after ∙ rw (untrapped, some, is, apart.alone x some) refl
    came (Stores x untrapped some is) = came_after ∙ rw (untrapped, some, is, apart.alone x some) refl
    came (Atomics x untrapped some is) = exchanged waiting x refl untrapped some is
    came (Barriers why untrapped none is) = barred waiting why refl untrapped none is
    came (Plain untrapped none bare) = came_after ∙ rw (untrapped, none, bare) refl
