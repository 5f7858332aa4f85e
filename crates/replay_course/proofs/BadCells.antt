-- The bad register cell that an attempt comes to is one that its instruction reads.
use Rattle.std.proofs.Common.{◌≡◌, ◌<◌, ◌∙◌, ℕ, Bool, true, false, cond, List, [], ◌∷◌, Option, Some, None, IfSome, subst, sym, ap, refl}
use Rattle.std.specs.Prelude.{All}
use Rattle.std.proofs.lemmas.List.Elements.{All-head, All-tail}
use Rattle.lf_model.specs.Caches.Look.{LookUp, look}
use Rattle.lf_model.specs.Caches.Look.LookUp.{Hit, Miss}
use Rattle.lf_model.specs.Caches.Slot.{history_at, befalls}
use Rattle.lf_model.specs.Course.Arrays.{Arrays, CellsRead, register_cells, cells_of, read_back, read_then, read_cells}
use Rattle.lf_model.specs.Course.Attempt.{Attempt, comes_to, load_outcome, access_attempt, barrier_attempt, operation_attempt, trap_attempt, register_attempt, fetch_attempt, looked_attempt, attempt}
use Rattle.lf_model.specs.Course.Outcome.{Outcome}
use Rattle.lf_model.specs.Effect.{AccessKind, Access, Effect}
use Rattle.lf_model.specs.Flips.{Moment, is_bad_word}
use Rattle.lf_model.specs.Start.{is_text_word}
use Rattle.lf_model.specs.State.{State}
use Rattle.lf_model.specs.declared.bus.Why.{Why}
use Rattle.lf_model.specs.declared.image.Image.{Image}
use Rattle.replay_course.specs.Outcomes.{bad_cell, cell_of_outcome}
use Rattle.replay_effects.specs.Attempts.{outcome_of}
use Rattle.replay_effects.specs.declared.outcome.Outcome.{Outcome as Shown}
use Rattle.replay_effects.specs.declared.outcome.Outcome.TheVariants as shown

abbrev IsLow : ℕ → Type 0
IsLow cell = cell < register_cells

abbrev Comes : Outcome → Type 0
Comes outcome = IfSome (cell_of_outcome outcome) IsLow

read_by : (c : ℕ) (bad : Bool) (cells : List (List Moment)) (later : CellsRead) → IsLow c → IfSome later.bad IsLow → IfSome (read_then c bad cells later).bad IsLow
read_by c true cells later low rest = low
read_by c false cells later low rest = rest

reads : (cs : List ℕ) (cells : List (List Moment)) → All IsLow cs → IfSome (read_cells cs cells).bad IsLow
reads [] cells low = tt
reads (c ∷ cs) cells low = read_by c (is_bad_word (history_at c cells)) (befalls read_back c cells) (read_cells cs (befalls read_back c cells))
    (All-head IsLow c cs low) (reads cs (befalls read_back c cells) (All-tail IsLow c cs low))

loads : (answer : LookUp) → Comes (load_outcome answer)
loads (Hit slot) = tt
loads (Miss why) = tt

accesses : (x : Access) (a : Arrays) (kind : AccessKind) → Comes (access_attempt x a kind).outcome
accesses x a AccessKind.Load = loads (look x.addr x.len a.data_cache).answer
accesses x a AccessKind.Store = tt
accesses x a AccessKind.Atomic = tt

barriers : (a : Arrays) (barrier : Option Why) → Comes (barrier_attempt a barrier).outcome
barriers a None = tt
barriers a (Some why) = tt

operates : (e : Effect) (a : Arrays) (access : Option Access) → Comes (operation_attempt e a access).outcome
operates e a None = barriers a e.barrier
operates e a (Some x) = accesses x a x.kind

traps : (e : Effect) (a : Arrays) (trap : Option ℕ) → Comes (trap_attempt e a trap).outcome
traps e a None = operates e a e.access
traps e a (Some tt_) = tt

registers : (e : Effect) (a : Arrays) (bad : Option ℕ) → IfSome bad IsLow → Comes (register_attempt e a bad).outcome
registers e a None low = traps e a e.trap
registers e a (Some cell) low = low

fetches : (s : State) (e : Effect) (a : Arrays) (answer : LookUp) → All IsLow (cells_of s.ctl.cwp e.reads) → Comes (fetch_attempt s e a answer).outcome
fetches s e a (Hit slot) low =
    let read = read_cells (cells_of s.ctl.cwp e.reads) a.cells in
    registers e (record a { cells = read.cells }) read.bad (reads (cells_of s.ctl.cwp e.reads) a.cells low)
fetches s e a (Miss why) low = tt

by_text : (b : Bool) (x : Attempt) (a : Arrays) → Comes x.outcome → Comes (cond b x (comes_to Outcome.NoText a)).outcome
by_text true x a comes = comes
by_text false x a comes = tt

attempts : (image : Image) (s : State) (e : Effect) (a : Arrays) → All IsLow (cells_of s.ctl.cwp e.reads) → Comes (attempt image s e a).outcome
unfolding attempt
attempts image s e a low =
    let looked = look s.ctl.pc 4 a.fetch_cache in
    by_text (is_text_word image.text s.ctl.pc) (looked_attempt s e a looked) a (fetches s e (record a { fetch_cache = looked.cache }) looked.answer low)

same_cell : (outcome : Shown) → cell_of_outcome (outcome_of outcome) ≡ bad_cell outcome
same_cell shown.NoText = refl
same_cell (shown.FetchMiss why) = refl
same_cell (shown.BadRegister cell) = refl
same_cell shown.OrdinaryTrap = refl
same_cell (shown.LoadMiss why) = refl
same_cell (shown.LoadHit slot) = refl
same_cell shown.Store = refl
same_cell shown.Atomic = refl
same_cell (shown.Barrier why) = refl
same_cell shown.Other = refl

pub bad_low : (image : Image) (s : State) (e : Effect) (a b : Arrays) (outcome : Shown) → comes_to (outcome_of outcome) b ≡ attempt image s e a
    → All IsLow (cells_of s.ctl.cwp e.reads) → IfSome (bad_cell outcome) IsLow
bad_low image s e a b outcome comes low =
    subst (λ (cell : Option ℕ). IfSome cell IsLow)
    (ap (λ (x : Attempt). cell_of_outcome x.outcome) (sym comes) ∙ same_cell outcome)
    (attempts image s e a low)
