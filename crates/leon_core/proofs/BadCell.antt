-- A register cell by which a core stops is one of its file.
use Rattle.std.proofs.Common.{◌≡◌, ◌∙◌, ◌<◌, ℕ, zero, suc, nat_lt, nat_le, Bool, true, false, List, [], ◌∷◌, length, Option, Some, None, if◌then◌else◌, refl, sym, subst, arith, inl, inr}
use Rattle.std.proofs.lemmas.Bool.{cases_Bool}
use Rattle.std.proofs.lemmas.List.{length-set}
use Rattle.core_parts.specs.CoreValue.{CoreValue}
use Rattle.core_parts.specs.PortState.{arrays_in}
use Rattle.core_steps.proofs.Stopping.{NamesCell, stop_need, named_by}
use Rattle.core_steps.specs.Tries.{state_here, effect_here, window_over, try_here, need_here, Tries}
use Rattle.lf_model.specs.Caches.Look.{LookUp, look}
use Rattle.lf_model.specs.Caches.Look.LookUp.{Hit, Miss}
use Rattle.lf_model.specs.Caches.Slot.{history_at, befalls}
use Rattle.lf_model.specs.Course.Arrays.{Arrays, CellsRead, cells_of, read_back, read_then, read_cells}
use Rattle.lf_model.specs.Course.Attempt.{load_outcome, access_attempt, barrier_attempt, operation_attempt, trap_attempt, register_attempt, fetch_attempt, comes_to, attempt}
use Rattle.lf_model.specs.Course.Outcome.{Outcome}
use Rattle.lf_model.specs.Course.Outcome.Outcome.{NotTried, NoText, FetchMiss, BadRegister, OrdinaryTrap, LoadMiss, LoadHit, Store, Atomic, Barrier, Other}
use Rattle.lf_model.specs.Effect.{AccessKind, Access, Effect}
use Rattle.lf_model.specs.Flips.{Moment, is_bad_word}
use Rattle.lf_model.specs.Start.{is_text_word}
use Rattle.lf_model.specs.State.{State}
use Rattle.lf_model.specs.declared.bus.Why.{Why}
use Rattle.lf_model.specs.declared.image.Image.{Image}
use Rattle.lf_model.specs.declared.step.Did.TheVariants.{Stop}

-- ---- cells that are read

none_bad : is_bad_word [] ≡ false
none_bad = refl

in_file : (c : ℕ) (cells : List (List Moment)) → is_bad_word (history_at c cells) ≡ true → c < length cells
in_file c [] is = let clash : false ≡ true = sym none_bad ∙ is in absurd cc
in_file zero (h ∷ cells) is = omega arith
in_file (suc c) (h ∷ cells) is = let lt = in_file c cells is in omega (arith, lt)

bad_in : (cs : List ℕ) (cells : List (List Moment)) (c : ℕ) → (read_cells cs cells).bad ≡ Some c → c < length cells
bad_in [] cells c is = absurd cc
bad_in (first ∷ cs) cells c is = by (is_bad_word (history_at first cells)) refl is (bad_in cs (befalls read_back first cells) c)
  where
    by : (bad : Bool) → is_bad_word (history_at first cells) ≡ bad → (read_then first bad (befalls read_back first cells) (read_cells cs (befalls read_back first cells))).bad ≡ Some c
        → ((read_cells cs (befalls read_back first cells)).bad ≡ Some c → c < length (befalls read_back first cells)) → c < length cells
    by true bad it later = let same : first ≡ c = cc in subst (λ n. n < length cells) same (in_file first cells bad)
    by false bad it later = subst (λ n. c < n) (length-set cells first (read_back (history_at first cells))) (later it)

-- ---- what the instruction comes to

-- it names no cell but one of so many
abbrev NamesIn : ℕ → Outcome → Type 0
NamesIn n (BadRegister cell) = cell < n
NamesIn n NotTried = Unit {0}
NamesIn n NoText = Unit {0}
NamesIn n (FetchMiss why) = Unit {0}
NamesIn n OrdinaryTrap = Unit {0}
NamesIn n (LoadMiss why) = Unit {0}
NamesIn n (LoadHit slot) = Unit {0}
NamesIn n Store = Unit {0}
NamesIn n Atomic = Unit {0}
NamesIn n (Barrier why) = Unit {0}
NamesIn n Other = Unit {0}

load_names : (n : ℕ) (answer : LookUp) → NamesIn n (load_outcome answer)
load_names n (Hit slot) = tt
load_names n (Miss why) = tt

access_names : (n : ℕ) (x : Access) (a : Arrays) (kind : AccessKind) → NamesIn n (access_attempt x a kind).outcome
access_names n x a AccessKind.Load = load_names n (look x.addr x.len a.data_cache).answer
access_names n x a AccessKind.Store = tt
access_names n x a AccessKind.Atomic = tt

barrier_names : (n : ℕ) (a : Arrays) (barrier : Option Why) → NamesIn n (barrier_attempt a barrier).outcome
barrier_names n a None = tt
barrier_names n a (Some why) = tt

operation_names : (n : ℕ) (e : Effect) (a : Arrays) (access : Option Access) → NamesIn n (operation_attempt e a access).outcome
operation_names n e a None = barrier_names n a e.barrier
operation_names n e a (Some x) = access_names n x a x.kind

trap_names : (n : ℕ) (e : Effect) (a : Arrays) (trap : Option ℕ) → NamesIn n (trap_attempt e a trap).outcome
trap_names n e a None = operation_names n e a e.access
trap_names n e a (Some tt_) = tt

register_names : (n : ℕ) (e : Effect) (a : Arrays) (bad : Option ℕ) → ((c : ℕ) → bad ≡ Some c → c < n) → NamesIn n (register_attempt e a bad).outcome
register_names n e a None within = trap_names n e a e.trap
register_names n e a (Some cell) within = within cell refl

fetch_names : (s : State) (e : Effect) (a : Arrays) (answer : LookUp) → NamesIn (length a.cells) (fetch_attempt s e a answer).outcome
fetch_names s e a (Miss why) = tt
fetch_names s e a (Hit slot) =
    let r : CellsRead = read_cells (cells_of s.ctl.cwp e.reads) a.cells in
    register_names (length a.cells) e (record a { cells = r.cells }) r.bad (λ c is. bad_in (cells_of s.ctl.cwp e.reads) a.cells c is)

attempt_names : (image : Image) (s : State) (e : Effect) (a : Arrays) → NamesIn (length a.cells) (attempt image s e a).outcome
unfolding attempt
attempt_names image s e a = elim (cases_Bool (is_text_word image.text s.ctl.pc)) [
  | inl text ↦ rw text (fetch_names s e (record a { fetch_cache = (look s.ctl.pc 4 a.fetch_cache).cache }) (look s.ctl.pc 4 a.fetch_cache).answer)
  | inr no_text ↦ rw no_text tt
]

-- ---- the stop

module _ (old new : CoreValue) (tt_ cell syn : ℕ) (t : Tries (Stop tt_ cell syn) old new) where
  try_names : (over : Bool) → NamesIn (length old.ports.cells) (if over then comes_to NotTried (arrays_in old.ports) else attempt old.setup.image (state_here old) (effect_here old) (arrays_in old.ports)).outcome
  try_names true = tt
  try_names false = attempt_names old.setup.image (state_here old) (effect_here old) (arrays_in old.ports)

  names : NamesCell (window_over old) (try_here old).outcome cell
  names =
      let waits = nat_lt 0 (length old.ports.waiting) in
      let full = nat_le old.ports.depth (length old.ports.waiting) in
      named_by (window_over old) old.arch.ctl.et waits full (try_here old).outcome cell
      (stop_need (state_here old) (effect_here old) (try_here old).arrays.cells tt_ cell syn (need_here old (try_here old).outcome) t.answer).need_is

  pub stops_in_file : cell < length old.ports.cells
  stops_in_file = subst (NamesIn (length old.ports.cells)) names.out_is (try_names (window_over old))
