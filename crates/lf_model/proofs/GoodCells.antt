-- A core of whose register cells none ever has two turned bits, and whose transfers met no bad word, meets no error trap.
use Rattle.std.proofs.Common.{◌≡◌, ◌∙◌, ◌==◌, ◌||◌, ℕ, zero, suc, Bool, true, false, List, [], ◌∷◌, refl, ap, sym, Option, Some, None, if◌then◌else◌}
use Rattle.std.proofs.lemmas.Bool.{or_parts, false≢true}
use Rattle.std.specs.List.{list_any}
use Rattle.std.specs.Prelude.{slice_set}
use Rattle.lf_model.specs.Caches.Cache.{Cache}
use Rattle.lf_model.specs.Caches.Look.{LookUp, Looked, look}
use Rattle.lf_model.specs.Caches.Look.LookUp.{Hit, Miss}
use Rattle.lf_model.specs.Caches.Slot.{history_at, befalls, befalls_each}
use Rattle.lf_model.specs.Course.Arrays.{Arrays, CellsRead, with_cache, struck_by, struck_tag, struck_line, strike, begun, cells_of, read_back, read_then, read_cells}
use Rattle.lf_model.specs.Course.Attempt.{Attempt, comes_to, load_attempt, access_attempt, barrier_attempt, operation_attempt, trap_attempt, register_attempt, fetch_attempt, looked_attempt, attempt}
use Rattle.lf_model.specs.Course.Outcome.{Outcome}
use Rattle.lf_model.specs.Course.Outcome.Outcome.{NotTried, NoText, FetchMiss, BadRegister, OrdinaryTrap, LoadMiss, LoadHit, Store, Atomic, Barrier, Other}
use Rattle.lf_model.specs.Effect.{AccessKind, Access, Effect}
use Rattle.lf_model.specs.Flips.{Moment, is_bad_word, is_fixed_word}
use Rattle.lf_model.specs.Flips.How.{ByReadBack}
use Rattle.lf_model.specs.Flips.Moment.{Struck, Written}
use Rattle.lf_model.specs.Promise.NeverStops.{was_bad}
use Rattle.lf_model.specs.Start.{is_text_word}
use Rattle.lf_model.specs.State.{State}
use Rattle.lf_model.specs.declared.bus.Why.{Why}
use Rattle.lf_model.specs.declared.flip.Flip.{Flip}
use Rattle.lf_model.specs.declared.flip.Flip.TheVariants.{Mem, Reg, Tag, Line}
use Rattle.lf_model.specs.declared.image.Image.{Image}

-- ---- histories

pub bad_was_bad : (h : List Moment) → is_bad_word h ≡ true → was_bad h ≡ true
bad_was_bad [] is = absurd (false≢true is)
bad_was_bad (moment ∷ h) is = ap (λ (b : Bool). b || was_bad h) is

-- what happens to a unit goes on with its history
pub Extends : (List Moment → List Moment) → Type 0
Extends happen = (h : List Moment) → was_bad (happen h) ≡ false → was_bad h ≡ false

pub adds : (moment : Moment) → Extends (λ h. moment ∷ h)
unfolding Extends
adds moment h good = (or_parts (is_bad_word (moment ∷ h)) (was_bad h) good).1

may_add : (b : Bool) (moment : Moment) (h : List Moment) → was_bad (if b then moment ∷ h else h) ≡ false → was_bad h ≡ false
may_add true moment h good = (or_parts (is_bad_word (moment ∷ h)) (was_bad h) good).1
may_add false moment h good = good

reads_back : Extends read_back
unfolding Extends
reads_back h good = may_add (is_fixed_word h) (Written ByReadBack) h good

-- ---- cells

-- none of these cells ever was bad
unfoldable pub Good : List (List Moment) → Type 0
Good cells = list_any was_bad cells ≡ false

pub good_at : (cells : List (List Moment)) (i : ℕ) → Good cells → was_bad (history_at i cells) ≡ false
unfolding Good
good_at [] i good = refl
good_at (h ∷ cells) zero good = (or_parts (was_bad h) _ good).0
good_at (h ∷ cells) (suc i) good = good_at cells i (or_parts (was_bad h) _ good).1

good_set : (cells : List (List Moment)) (i : ℕ) (h : List Moment) → (was_bad h ≡ false → was_bad (history_at i cells) ≡ false)
    → Good (slice_set cells i h) → Good cells
unfolding Good
good_set [] i h goes good = refl
good_set (c ∷ cells) zero h goes good = let parts = or_parts (was_bad h) _ good in rw (goes parts.0, parts.1) refl
good_set (c ∷ cells) (suc i) h goes good = let parts = or_parts (was_bad c) _ good in rw (parts.0, good_set cells i h goes parts.1) refl

pub good_befalls : (happen : List Moment → List Moment) → Extends happen → (i : ℕ) (cells : List (List Moment)) → Good (befalls happen i cells) → Good cells
unfolding Extends
good_befalls happen goes i cells good = good_set cells i (happen (history_at i cells)) (goes (history_at i cells)) good

pub good_befalls_each : (happen : List Moment → List Moment) → Extends happen → (units : List ℕ) (cells : List (List Moment))
    → Good (befalls_each happen units cells) → Good cells
good_befalls_each happen goes [] cells good = good
good_befalls_each happen goes (i ∷ units) cells good =
    good_befalls happen goes i cells (good_befalls_each happen goes units (befalls happen i cells) good)

-- ---- flips strike as a step begins

good_cache : (change : Cache → Cache) (fetch : Bool) (a : Arrays) → Good (with_cache change fetch a).cells → Good a.cells
good_cache change true a good = good
good_cache change false a good = good

-- one of two arrays, of which the first goes on with the second
pub good_if : (b : Bool) (x a : Arrays) → (Good x.cells → Good a.cells) → Good (if b then x else a).cells → Good a.cells
good_if true x a goes good = goes good
good_if false x a goes good = good

good_strike : (step number : ℕ) (a : Arrays) (flip : Flip) → Good (strike step number a flip).cells → Good a.cells
good_strike step number a (Mem turn addr bit) good = good
good_strike step number a (Reg core at cell bit) good =
    good_if (at == step) (record a { cells = befalls (struck_by number bit) cell a.cells }) a (good_befalls (struck_by number bit) (adds (Struck number bit)) cell a.cells) good
good_strike step number a (Tag core at fetch way set byte bit) good =
    good_if (at == step) (with_cache (struck_tag number bit way set byte) fetch a) a (good_cache (struck_tag number bit way set byte) fetch a) good
good_strike step number a (Line core at fetch way set byte bit) good =
    good_if (at == step) (with_cache (struck_line number bit way set byte) fetch a) a (good_cache (struck_line number bit way set byte) fetch a) good

pub good_begun : (flips : List (ℕ × Flip)) (step : ℕ) (a : Arrays) → Good (begun flips step a).cells → Good a.cells
good_begun [] step a good = good
good_begun (flip ∷ flips) step a good = good_strike step flip.0 a flip.1 (good_begun flips step (strike step flip.0 a flip.1) good)

-- ---- registers are read

-- no cell that was read is bad, and none was before
pub record ReadWell (before : List (List Moment)) (read : CellsRead) : Type 0 where
  pub none_bad : read.bad ≡ None
  pub good : Good before

read_on : (c : ℕ) (b : Bool) (cells : List (List Moment)) → is_bad_word (history_at c cells) ≡ b → (later : CellsRead)
    → (Good later.cells → ReadWell (befalls read_back c cells) later)
    → Good (read_then c b (befalls read_back c cells) later).cells → ReadWell cells (read_then c b (befalls read_back c cells) later)
read_on c true cells is later goes good =
    let before = good_befalls read_back reads_back c cells good in
    absurd (false≢true (sym (good_at cells c before) ∙ bad_was_bad (history_at c cells) is))
read_on c false cells is later goes good =
    let well = goes good in
    record { none_bad = well.none_bad; good = good_befalls read_back reads_back c cells well.good }

good_read : (cs : List ℕ) (cells : List (List Moment)) → Good (read_cells cs cells).cells → ReadWell cells (read_cells cs cells)
good_read [] cells good = record { none_bad = refl; good = good }
good_read (c ∷ cs) cells good =
    read_on c (is_bad_word (history_at c cells)) cells refl (read_cells cs (befalls read_back c cells)) (good_read cs (befalls read_back c cells)) good

-- ---- the instruction is tried

abbrev pub is_bad_register : Outcome → Bool
is_bad_register NotTried = false
is_bad_register NoText = false
is_bad_register (FetchMiss why) = false
is_bad_register (BadRegister cell) = true
is_bad_register OrdinaryTrap = false
is_bad_register (LoadMiss why) = false
is_bad_register (LoadHit slot) = false
is_bad_register Store = false
is_bad_register Atomic = false
is_bad_register (Barrier why) = false
is_bad_register Other = false

-- an attempt from these arrays, of whose cells none ever was bad, came to no bad register
pub record TriedWell (a : Arrays) (x : Attempt) : Type 0 where
  pub fine : is_bad_register x.outcome ≡ false
  pub good : Good a.cells

well_load : (a : Arrays) (cache : Cache) (answer : LookUp) → Good a.cells → TriedWell a (load_attempt a (record { answer = answer; cache = cache }))
well_load a cache (Hit slot) good = record { fine = refl; good = good }
well_load a cache (Miss why) good = record { fine = refl; good = good }

well_access : (x : Access) (a : Arrays) (kind : AccessKind) → Good (access_attempt x a kind).arrays.cells → TriedWell a (access_attempt x a kind)
well_access x a AccessKind.Load good = well_load a (look x.addr x.len a.data_cache).cache (look x.addr x.len a.data_cache).answer good
well_access x a AccessKind.Store good = record { fine = refl; good = good }
well_access x a AccessKind.Atomic good = record { fine = refl; good = good }

well_barrier : (a : Arrays) (barrier : Option Why) → Good (barrier_attempt a barrier).arrays.cells → TriedWell a (barrier_attempt a barrier)
well_barrier a None good = record { fine = refl; good = good }
well_barrier a (Some why) good = record { fine = refl; good = good }

well_operation : (e : Effect) (a : Arrays) (access : Option Access) → Good (operation_attempt e a access).arrays.cells → TriedWell a (operation_attempt e a access)
well_operation e a None good = well_barrier a e.barrier good
well_operation e a (Some x) good = well_access x a x.kind good

well_trap : (e : Effect) (a : Arrays) (trap : Option ℕ) → Good (trap_attempt e a trap).arrays.cells → TriedWell a (trap_attempt e a trap)
well_trap e a None good = well_operation e a e.access good
well_trap e a (Some tt_) good = record { fine = refl; good = good }

-- with the cells as they were before the registers were read
well_read : (e : Effect) (a : Arrays) (read : CellsRead) → (Good read.cells → ReadWell a.cells read)
    → (bad : Option ℕ) → read.bad ≡ bad → Good (register_attempt e (record a { cells = read.cells }) bad).arrays.cells
    → TriedWell a (register_attempt e (record a { cells = read.cells }) bad)
well_read e a read goes None is good =
    let tried = well_trap e (record a { cells = read.cells }) e.trap good in
    record { fine = tried.fine; good = (goes tried.good).good }
well_read e a read goes (Some cell) is good = absurd (none_is_some (sym (goes good).none_bad ∙ is))
  where
    none_is_some : None ≡ Some cell → ⊥
    none_is_some e = cc

well_fetch : (s : State) (e : Effect) (a : Arrays) (answer : LookUp) → Good (fetch_attempt s e a answer).arrays.cells → TriedWell a (fetch_attempt s e a answer)
well_fetch s e a (Miss why) good = record { fine = refl; good = good }
well_fetch s e a (Hit slot) good =
    let read = read_cells (cells_of s.ctl.cwp e.reads) a.cells in
    well_read e a read (good_read (cells_of s.ctl.cwp e.reads) a.cells) read.bad refl good

well_text : (s : State) (e : Effect) (a : Arrays) (b : Bool) (looked : Looked) → Good (if b then looked_attempt s e a looked else comes_to NoText a).arrays.cells
    → TriedWell a (if b then looked_attempt s e a looked else comes_to NoText a)
well_text s e a true looked good = let tried = well_fetch s e (record a { fetch_cache = looked.cache }) looked.answer good in
    record { fine = tried.fine; good = tried.good }
well_text s e a false looked good = record { fine = refl; good = good }

pub tried_well : (image : Image) (s : State) (e : Effect) (a : Arrays) → Good (attempt image s e a).arrays.cells → TriedWell a (attempt image s e a)
unfolding attempt
tried_well image s e a good = well_text s e a (is_text_word image.text s.ctl.pc) (look s.ctl.pc 4 a.fetch_cache) good
