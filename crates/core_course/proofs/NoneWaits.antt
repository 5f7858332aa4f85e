-- No store waits as a step without a turn ends a core: stores drain before it enters error mode, and before a register cell stops it.
use Rattle.std.proofs.Common.{◌<◌, ◌-◌, ◌≡◌, ◌+◌, ℕ, Bool, true, false, nat_le, Option, Some, None, refl, arith, inl, inr}
use Rattle.std.proofs.lemmas.Bool.{cases_Bool, ltb-false, leb-false}
use Rattle.lf_model.specs.Caches.Look.{LookUp, look}
use Rattle.lf_model.specs.Caches.Look.LookUp.{Hit, Miss}
use Rattle.lf_model.specs.Course.Arrays.{Arrays, CellsRead, cells_of, read_cells}
use Rattle.lf_model.specs.Course.Attempt.{register_attempt, fetch_attempt, attempt}
use Rattle.lf_model.specs.Course.Core.{Ground}
use Rattle.lf_model.specs.Course.Outcome.{Outcome, step_needs}
use Rattle.lf_model.specs.Course.Outcome.Need.{NoTurn, RegisterStop}
use Rattle.lf_model.specs.Course.Outcome.Outcome.{NotTried, NoText, FetchMiss, BadRegister, OrdinaryTrap, LoadMiss, LoadHit, Store, Atomic, Barrier, Other}
use Rattle.lf_model.specs.Course.Progress.{Progress, store_waits, buffer_full, next_needs}
use Rattle.lf_model.specs.Effect.{Effect}
use Rattle.lf_model.specs.Start.{is_text_word}
use Rattle.lf_model.specs.State.{State}
use Rattle.lf_model.specs.declared.image.Image.{Image}

-- ---- what a step needs while a store waits

-- no stop by a register cell
stop_by : (over et full : Bool) (outcome : Outcome) (cell : ℕ) → step_needs over et true full outcome ≡ RegisterStop cell → ⊥
stop_by true et full outcome cell h = absurd (cc)
stop_by false et full NotTried cell h = absurd (cc)
stop_by false true full NoText cell h = absurd (cc)
stop_by false false full NoText cell h = absurd (cc)
stop_by false et full (FetchMiss why) cell h = absurd (cc)
stop_by false et full (BadRegister c) cell h = absurd (cc)
stop_by false true full OrdinaryTrap cell h = absurd (cc)
stop_by false false full OrdinaryTrap cell h = absurd (cc)
stop_by false et full (LoadMiss why) cell h = absurd (cc)
stop_by false et full (LoadHit slot) cell h = absurd (cc)
stop_by false et true Store cell h = absurd (cc)
stop_by false et false Store cell h = absurd (cc)
stop_by false et full Atomic cell h = absurd (cc)
stop_by false et full (Barrier why) cell h = absurd (cc)
stop_by false et full Other cell h = absurd (cc)

-- an instruction that takes a trap: its outcome is none of the others
abbrev IsTrapped : Outcome → Type 0
IsTrapped NotTried = ⊥
IsTrapped NoText = Unit {0}
IsTrapped (FetchMiss why) = Unit {0}
IsTrapped (BadRegister cell) = Unit {0}
IsTrapped OrdinaryTrap = Unit {0}
IsTrapped (LoadMiss why) = ⊥
IsTrapped (LoadHit slot) = ⊥
IsTrapped Store = ⊥
IsTrapped Atomic = ⊥
IsTrapped (Barrier why) = ⊥
IsTrapped Other = ⊥

-- nor a trap that needs no turn, where traps are disabled
trap_by : (over full : Bool) (outcome : Outcome) → IsTrapped outcome → step_needs over false true full outcome ≡ NoTurn → ⊥
trap_by true full outcome is h = absurd (cc)
trap_by false full NotTried is h = is
trap_by false full NoText is h = absurd (cc)
trap_by false full (FetchMiss why) is h = absurd (cc)
trap_by false full (BadRegister cell) is h = absurd (cc)
trap_by false full OrdinaryTrap is h = absurd (cc)
trap_by false full (LoadMiss why) is h = is
trap_by false full (LoadHit slot) is h = is
trap_by false full Store is h = is
trap_by false full Atomic is h = is
trap_by false full (Barrier why) is h = is
trap_by false full Other is h = is

trap_disabled : (over et waits full : Bool) (outcome : Outcome) → et ≡ false → waits ≡ true → IsTrapped outcome → step_needs over et waits full outcome ≡ NoTurn → ⊥
trap_disabled over et waits full outcome disabled some is h = trap_by over full outcome is (rw (disabled, some) at h)

-- ---- the instruction takes a trap

register_trapped : (e : Effect) (a : Arrays) (bad : Option ℕ) (tt_ : ℕ) → e.trap ≡ Some tt_ → IsTrapped (register_attempt e a bad).outcome
register_trapped e a None tt_ is = rw is tt
register_trapped e a (Some cell) tt_ is = tt

fetch_trapped : (s : State) (e : Effect) (a : Arrays) (answer : LookUp) (tt_ : ℕ) → e.trap ≡ Some tt_ → IsTrapped (fetch_attempt s e a answer).outcome
fetch_trapped s e a (Miss why) tt_ is = tt
fetch_trapped s e a (Hit slot) tt_ is = let r : CellsRead = read_cells (cells_of s.ctl.cwp e.reads) a.cells in register_trapped e (record a { cells = r.cells }) r.bad tt_ is

trapped : (image : Image) (s : State) (e : Effect) (a : Arrays) (tt_ : ℕ) → e.trap ≡ Some tt_ → IsTrapped (attempt image s e a).outcome
unfolding attempt
trapped image s e a tt_ is = elim (cases_Bool (is_text_word image.text s.ctl.pc)) [
  | inl text ↦ rw text (fetch_trapped s e (record a { fetch_cache = (look s.ctl.pc 4 a.fetch_cache).cache }) (look s.ctl.pc 4 a.fetch_cache).answer tt_ is)
  | inr no_text ↦ rw no_text tt
]

-- ---- the core

module _ (g : Ground) (k : Progress) (waiting : ℕ) (waits : k.drained + waiting ≡ k.stored) where
  none_by : (some : Bool) → store_waits k ≡ some → (some ≡ true → ⊥) → waiting ≡ 0
  none_by true is none = absurd (none refl)
  none_by false is none = omega (arith, waits, ltb-false k.drained k.stored is)

  pub none_at_stop : (outcome : Outcome) (cell : ℕ) → next_needs g k outcome ≡ RegisterStop cell → waiting ≡ 0
  none_at_stop outcome cell h = none_by (store_waits k) refl (λ some. stop_by (nat_le g.setup.config.window k.quiet) k.run.state.ctl.et (buffer_full g k) outcome cell (rw some at h))

  pub none_at_halt : (e : Effect) (a : Arrays) (tt_ : ℕ) → next_needs g k (attempt g.setup.image k.run.state e a).outcome ≡ NoTurn → e.trap ≡ Some tt_ → k.run.state.ctl.et ≡ false → waiting ≡ 0
  none_at_halt e a tt_ h is disabled =
      none_by (store_waits k) refl (λ some. trap_disabled (nat_le g.setup.config.window k.quiet) k.run.state.ctl.et (store_waits k) (buffer_full g k)
      (attempt g.setup.image k.run.state e a).outcome disabled some (trapped g.setup.image k.run.state e a tt_ is) h)
