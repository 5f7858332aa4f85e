-- Where no flip of a script strikes a register cell, no cell of a core ever has a flipped bit, whatever the transfers are.
use Rattle.std.proofs.Common.{ℕ, zero, suc, ◌≡◌, ◌+◌, ◌-◌, ◌==◌, List, [], ◌∷◌, Bool, true, false, not, Option, Some, None, length, map, fold, filter, refl, arith}
use Rattle.std.specs.Prelude.{if◌then◌else◌, replicate, slice_set, zip}
use Rattle.std.specs.List.{list_any, enumerate_from, range_with_len, AllByRecursion as Each}
use Rattle.std.proofs.lemmas.List.Elements.{recursion_from_All}
use Rattle.lf_model.specs.Bus.Replay.{Core, core_start, core_after, core_finished, Replay, replay_start, made_turn, replay_turn, replay}
use Rattle.lf_model.specs.Bus.Words.{words_begun}
use Rattle.lf_model.specs.Caches.Cache.{Cache}
use Rattle.lf_model.specs.Caches.Change.{snooped}
use Rattle.lf_model.specs.Caches.Look.{LookUp, Looked, look}
use Rattle.lf_model.specs.Caches.Look.LookUp.{Hit, Miss}
use Rattle.lf_model.specs.Caches.Slot.{history_at, befalls, befalls_each, written}
use Rattle.lf_model.specs.Course.Arrays.{Arrays, CellsRead, with_cache, struck_tag, struck_line, strike, begun, cells_of, read_back, read_then, read_cells, write_cells}
use Rattle.lf_model.specs.Course.Attempt.{comes_to, load_attempt, access_attempt, barrier_attempt, operation_attempt, trap_attempt, register_attempt, fetch_attempt, looked_attempt, attempt}
use Rattle.lf_model.specs.Course.Core.{Ground, strikes_core}
use Rattle.lf_model.specs.Course.Course.{up_to, observe, others_turn}
use Rattle.lf_model.specs.Course.LocalStep.{store_by, flush_by, retired_arrays, named_cell, is_last_stop, local_step, local_steps}
use Rattle.lf_model.specs.Course.Outcome.{Outcome}
use Rattle.lf_model.specs.Course.Outcome.Outcome.{NotTried, NoText, FetchMiss, BadRegister, OrdinaryTrap, LoadMiss, LoadHit, Store, Atomic, Barrier, Other}
use Rattle.lf_model.specs.Course.Progress.{Progress}
use Rattle.lf_model.specs.Course.Syndromes.{has_address, enters_log}
use Rattle.lf_model.specs.Course.Turn.{is_past_steps, leaves_instruction, arrays_before}
use Rattle.lf_model.specs.Course.Turned.{transferred, own_turn}
use Rattle.lf_model.specs.Effect.{AccessKind, Access, Effect}
use Rattle.lf_model.specs.Flips.{Moment, is_bad_word, is_fixed_word}
use Rattle.lf_model.specs.Flips.How.{ByReadBack}
use Rattle.lf_model.specs.Flips.Moment.{Written, Named}
use Rattle.lf_model.specs.Ledger.Account.{ground_in, grounds_in, replay_of}
use Rattle.lf_model.specs.Names.{same_why}
use Rattle.lf_model.specs.NumberedFlips.{numbered_flips}
use Rattle.lf_model.specs.Promise.NeverStops.{was_bad, a_cell_was_bad, NeverTwoTurned}
use Rattle.lf_model.specs.Run.{effect_at_pc}
use Rattle.lf_model.specs.Start.{is_text_word}
use Rattle.lf_model.specs.State.{State}
use Rattle.lf_model.specs.declared.bus.Transfer.{Transfer}
use Rattle.lf_model.specs.declared.bus.TurnKind.{TurnKind}
use Rattle.lf_model.specs.declared.bus.TurnKind.TheVariants as turns
use Rattle.lf_model.specs.declared.bus.Why.{Why}
use Rattle.lf_model.specs.declared.bus.Why.TheVariants.{Flush}
use Rattle.lf_model.specs.declared.flip.Flip.{Flip}
use Rattle.lf_model.specs.declared.flip.Flip.TheVariants.{Mem, Reg, Tag, Line}
use Rattle.lf_model.specs.declared.image.Image.{Image}
use Rattle.lf_model.specs.declared.setup.Setup.{Setup}
use Rattle.lf_model.specs.declared.trace.CoreResult.{CoreResult}
use Rattle.lf_model.specs.declared.trace.Trace.{Trace}
use Rattle.work_gen.specs.Drill.{StrikesNoCell, IsCorrectable}
use Rattle.work_gen.proofs.NeverBad.{strikes, never_bad, each_map, words_never_bad}

-- ---- cells that no flip struck

unfoldable Unstruck : List (List Moment) → Type 0
Unstruck cells = Each (λ h. strikes h ≡ 0) cells

unstruck_at : (cells : List (List Moment)) (i : ℕ) → Unstruck cells → strikes (history_at i cells) ≡ 0
unfolding Unstruck
unstruck_at [] i good = refl
unstruck_at (h ∷ cells) zero good = good.0
unstruck_at (h ∷ cells) (suc i) good = unstruck_at cells i good.1

unstruck_set : (cells : List (List Moment)) (i : ℕ) (h : List Moment) → strikes h ≡ 0 → Unstruck cells → Unstruck (slice_set cells i h)
unfolding Unstruck
unstruck_set [] i h is good = tt
unstruck_set (c ∷ cells) zero h is good = (is, good.1)
unstruck_set (c ∷ cells) (suc i) h is good = (good.0, unstruck_set cells i h is good.1)

-- what happens to a unit is no flip
abbrev NoFlip : (List Moment → List Moment) → Type 0
NoFlip happen = (h : List Moment) → strikes h ≡ 0 → strikes (happen h) ≡ 0

befallen : (happen : List Moment → List Moment) → NoFlip happen → (i : ℕ) (cells : List (List Moment)) → Unstruck cells → Unstruck (befalls happen i cells)
befallen happen goes i cells good = unstruck_set cells i (happen (history_at i cells)) (goes (history_at i cells) (unstruck_at cells i good)) good

each_befallen : (happen : List Moment → List Moment) → NoFlip happen → (units : List ℕ) (cells : List (List Moment)) → Unstruck cells
    → Unstruck (befalls_each happen units cells)
each_befallen happen goes [] cells good = good
each_befallen happen goes (i ∷ units) cells good = each_befallen happen goes units (befalls happen i cells) (befallen happen goes i cells good)

back_read : NoFlip read_back
back_read h is = may_add (is_fixed_word h)
  where
    may_add : (b : Bool) → strikes (if b then Written ByReadBack ∷ h else h) ≡ 0
    may_add true = is
    may_add false = is

-- ---- flips strike as a step begins

with_cache_unstruck : (change : Cache → Cache) (fetch : Bool) (a : Arrays) → Unstruck a.cells → Unstruck (with_cache change fetch a).cells
with_cache_unstruck change true a good = good
with_cache_unstruck change false a good = good

either : (b : Bool) (x y : Arrays) → Unstruck x.cells → Unstruck y.cells → Unstruck (if b then x else y).cells
either true x y first second = first
either false x y first second = second

-- the flips of a core, each with its number, strike no cell
abbrev NoCells : List (ℕ × Flip) → Type 0
NoCells flips = Each (λ (flip : ℕ × Flip). StrikesNoCell flip.1) flips

one_strikes : (step number : ℕ) (a : Arrays) (flip : Flip) → StrikesNoCell flip → Unstruck a.cells → Unstruck (strike step number a flip).cells
one_strikes step number a (Mem turn addr bit) none good = good
one_strikes step number a (Reg core at cell bit) none good = absurd none
one_strikes step number a (Tag core at fetch way set byte bit) none good =
    either (at == step) (with_cache (struck_tag number bit way set byte) fetch a) a (with_cache_unstruck (struck_tag number bit way set byte) fetch a good) good
one_strikes step number a (Line core at fetch way set byte bit) none good =
    either (at == step) (with_cache (struck_line number bit way set byte) fetch a) a (with_cache_unstruck (struck_line number bit way set byte) fetch a good) good

begins : (flips : List (ℕ × Flip)) → NoCells flips → (step : ℕ) (a : Arrays) → Unstruck a.cells → Unstruck (begun flips step a).cells
begins [] none step a good = good
begins (flip ∷ flips) none step a good = begins flips none.1 step (strike step flip.0 a flip.1) (one_strikes step flip.0 a flip.1 none.0 good)

-- ---- the instruction is tried

read_on : (c : ℕ) (b : Bool) (cells : List (List Moment)) (later : CellsRead) → Unstruck cells → Unstruck later.cells → Unstruck (read_then c b cells later).cells
read_on c true cells later good more = good
read_on c false cells later good more = more

are_read : (cs : List ℕ) (cells : List (List Moment)) → Unstruck cells → Unstruck (read_cells cs cells).cells
are_read [] cells good = good
are_read (c ∷ cs) cells good =
    let now = befallen read_back back_read c cells good in
    read_on c (is_bad_word (history_at c cells)) (befalls read_back c cells) (read_cells cs (befalls read_back c cells)) now (are_read cs (befalls read_back c cells) now)

tried_load : (a : Arrays) (looked : Looked) → Unstruck a.cells → Unstruck (load_attempt a looked).arrays.cells
tried_load a looked good = good

tried_access : (x : Access) (a : Arrays) (kind : AccessKind) → Unstruck a.cells → Unstruck (access_attempt x a kind).arrays.cells
tried_access x a AccessKind.Load good = good
tried_access x a AccessKind.Store good = good
tried_access x a AccessKind.Atomic good = good

tried_barrier : (a : Arrays) (barrier : Option Why) → Unstruck a.cells → Unstruck (barrier_attempt a barrier).arrays.cells
tried_barrier a None good = good
tried_barrier a (Some why) good = good

tried_operation : (e : Effect) (a : Arrays) (access : Option Access) → Unstruck a.cells → Unstruck (operation_attempt e a access).arrays.cells
tried_operation e a None good = tried_barrier a e.barrier good
tried_operation e a (Some x) good = tried_access x a x.kind good

tried_trap : (e : Effect) (a : Arrays) (trap : Option ℕ) → Unstruck a.cells → Unstruck (trap_attempt e a trap).arrays.cells
tried_trap e a None good = tried_operation e a e.access good
tried_trap e a (Some tt_) good = good

tried_registers : (e : Effect) (a : Arrays) (bad : Option ℕ) → Unstruck a.cells → Unstruck (register_attempt e a bad).arrays.cells
tried_registers e a None good = tried_trap e a e.trap good
tried_registers e a (Some cell) good = good

tried_fetch : (s : State) (e : Effect) (a : Arrays) (answer : LookUp) → Unstruck a.cells → Unstruck (fetch_attempt s e a answer).arrays.cells
tried_fetch s e a (Miss why) good = good
tried_fetch s e a (Hit slot) good =
    let read = read_cells (cells_of s.ctl.cwp e.reads) a.cells in
    tried_registers e (record a { cells = read.cells }) read.bad (are_read (cells_of s.ctl.cwp e.reads) a.cells good)

tried_text : (s : State) (e : Effect) (a : Arrays) (looked : Looked) (b : Bool) → Unstruck a.cells
    → Unstruck (if b then looked_attempt s e a looked else comes_to NoText a).arrays.cells
tried_text s e a looked true good = tried_fetch s e (record a { fetch_cache = looked.cache }) looked.answer good
tried_text s e a looked false good = good

tried : (image : Image) (s : State) (e : Effect) (a : Arrays) → Unstruck a.cells → Unstruck (attempt image s e a).arrays.cells
unfolding attempt
tried image s e a good = tried_text s e a (look s.ctl.pc 4 a.fetch_cache) (is_text_word image.text s.ctl.pc) good

-- ---- an instruction retires, or an error trap names a cell

are_written : (cs : List ℕ) (a : Arrays) → Unstruck a.cells → Unstruck (write_cells cs a).cells
are_written cs a good = each_befallen written (λ h is. is) cs a.cells good

stored : (access : Option Access) (a : Arrays) → Unstruck a.cells → Unstruck (store_by access a).cells
stored None a good = good
stored (Some x) a good = either _ _ a good good

is_flushed : (barrier : Option Why) (a : Arrays) → Unstruck a.cells → Unstruck (flush_by barrier a).cells
is_flushed None a good = good
is_flushed (Some why) a good = either (same_why why Flush) (flush_by (Some Flush) a) a good good

retires : (e : Effect) (a : Arrays) → Unstruck a.cells → Unstruck (retired_arrays e a).cells
retires e a good = are_written e.writes (flush_by e.barrier (store_by e.access a)) (is_flushed e.barrier (store_by e.access a) (stored e.access a good))

is_named : (outcome : Outcome) (a : Arrays) → Unstruck a.cells → Unstruck (named_cell outcome a).cells
is_named (BadRegister cell) a good = befallen (λ h. Named ∷ h) (λ h is. is) cell a.cells good
is_named NotTried a good = good
is_named NoText a good = good
is_named (FetchMiss why) a good = good
is_named OrdinaryTrap a good = good
is_named (LoadMiss why) a good = good
is_named (LoadHit slot) a good = good
is_named Store a good = good
is_named Atomic a good = good
is_named (Barrier why) a good = good
is_named Other a good = good

-- ---- the course of a core

module _ (g : Ground) (none : NoCells g.flips) where
  steps_on : (k : Progress) → Unstruck k.arrays.cells → Unstruck (local_step g k).arrays.cells
  unfolding local_step
  steps_on k good =
      let e = effect_at_pc g.setup g.core k.run.state in
      let x = attempt g.setup.image k.run.state e (begun g.flips k.steps k.arrays) in
      let now = tried g.setup.image k.run.state e (begun g.flips k.steps k.arrays) (begins g.flips none k.steps k.arrays good) in
      either (not (is_last_stop g k.steps)) (retired_arrays e x.arrays) (named_cell x.outcome x.arrays) (retires e x.arrays now) (is_named x.outcome x.arrays now)

  all_steps_on : (n : ℕ) (k : Progress) → Unstruck k.arrays.cells → Unstruck (local_steps g n k).arrays.cells
  all_steps_on zero k good = good
  all_steps_on (suc n) k good = all_steps_on n (local_step g k) (steps_on k good)

  before_turn : (past leaves : Bool) (k : Progress) (e : Effect) → Unstruck k.arrays.cells
      → Unstruck (if past then comes_to NotTried k.arrays else if leaves then comes_to NotTried (begun g.flips k.steps k.arrays)
      else attempt g.setup.image k.run.state e (begun g.flips k.steps k.arrays)).arrays.cells
  before_turn true leaves k e good = good
  before_turn false true k e good = begins g.flips none k.steps k.arrays good
  before_turn false false k e good = tried g.setup.image k.run.state e (begun g.flips k.steps k.arrays) (begins g.flips none k.steps k.arrays good)

  is_exchanged : (e : Effect) (t : Transfer) (a : Arrays) (b : Bool) → Unstruck a.cells
      → Unstruck (if b then write_cells e.writes (record a { data_cache = snooped a.data_cache t.addr }) else a).cells
  is_exchanged e t a true good = are_written e.writes (record a { data_cache = snooped a.data_cache t.addr }) good
  is_exchanged e t a false good = good

  is_transferred : (e : Effect) (t : Transfer) (a : Arrays) (kind : TurnKind) → Unstruck a.cells → Unstruck (transferred g.setup.image e t a kind).cells
  is_transferred e t a turns.Fetch good = good
  is_transferred e t a turns.Load good = good
  is_transferred e t a turns.Store good = good
  is_transferred e t a turns.Atomic good = is_exchanged e t a (enters_log t) good
  is_transferred e t a turns.Snoop good = good
  is_transferred e t a turns.Look good = good
  is_transferred e t a turns.Fix good = good

  turns_on : (t : Transfer) (k : Progress) → Unstruck k.arrays.cells → Unstruck (own_turn g t k).arrays.cells
  unfolding own_turn
  turns_on t k good =
      let e = effect_at_pc g.setup g.core k.run.state in
      let a = arrays_before g t.why e k in
      let now = before_turn (is_past_steps g k) (leaves_instruction t.why) k e good in
      either (has_address t) (transferred g.setup.image e t a t.kind) a (is_transferred e t a t.kind now) now

  observes_on : (t : Transfer) (k : Progress) (b : Bool) → Unstruck k.arrays.cells → Unstruck (if b then own_turn g t (up_to g t k) else others_turn t k).arrays.cells
  observes_on t k true good = turns_on t (up_to g t k) (all_steps_on (t.step - k.steps) k good)
  observes_on t k false good = good

  observed : (t : Transfer) (k : Progress) → Unstruck k.arrays.cells → Unstruck (observe g k t).arrays.cells
  unfolding observe
  observed t k good = observes_on t k (g.core == t.master) good

-- ---- all cores

record IsUnstruck (c : Core) : Type 0 where
  none : NoCells c.on.flips
  good : Unstruck c.progress.arrays.cells

reset_cells : (n : ℕ) → Unstruck (replicate n [])
unfolding Unstruck
reset_cells zero = tt
reset_cells (suc n) = (refl, reset_cells n)

starts : (g : Ground) → NoCells g.flips → IsUnstruck (core_start g)
starts g none = record { none = none; good = reset_cells 136 }

turn_leaves : (setup : Setup) (r : Replay) (t : Transfer) → Each IsUnstruck r.cores → Each IsUnstruck (replay_turn setup r t).cores
unfolding replay_turn
turn_leaves setup r t all =
    let made = made_turn setup r (words_begun setup.flips r.turns r.words) t in
    each_map IsUnstruck IsUnstruck (core_after made.transfer)
    (λ c h. record { none = h.none; good = observed c.on h.none made.transfer c.progress h.good }) r.cores all

turns_leave : (setup : Setup) (ts : List Transfer) (r : Replay) → Each IsUnstruck r.cores → Each IsUnstruck (fold (replay_turn setup) r ts).cores
turns_leave setup [] r all = all
turns_leave setup (t ∷ ts) r all = turns_leave setup ts (replay_turn setup r t) (turn_leaves setup r t all)

finish_leaves : (cores : List Core) → Each IsUnstruck cores → Each IsUnstruck (map core_finished cores)
finish_leaves cores all =
    each_map IsUnstruck IsUnstruck core_finished
    (λ c h. record { none = h.none; good = all_steps_on c.on h.none (c.on.steps - c.progress.steps) c.progress h.good }) cores all

cells_fine : (cells : List (List Moment)) → Unstruck cells → list_any was_bad cells ≡ false
unfolding Unstruck
cells_fine [] good = refl
cells_fine (h ∷ cells) good = rw (never_bad h (let none = good.0 in omega (arith, none)), cells_fine cells good.1) refl

all_fine : (cores : List Core) → Each IsUnstruck cores → list_any a_cell_was_bad cores ≡ false
all_fine [] all = refl
all_fine (c ∷ cores) all = rw (cells_fine c.progress.arrays.cells all.0.good, all_fine cores all.1) refl

-- ---- the script

filtered : {X : Type 0} (P : X → Type 0) (p : X → Bool) (xs : List X) → Each P xs → Each P (filter p xs)
filtered P p [] all = tt
filtered P p (x ∷ xs) all = kept (p x) (filtered P p xs all.1)
  where
    kept : (b : Bool) → Each P (filter p xs) → Each P (if b then x ∷ filter p xs else filter p xs)
    kept true rest = (all.0, rest)
    kept false rest = rest

numbered : (n : ℕ) (script : List Flip) → Each StrikesNoCell script → NoCells (zip (range_with_len n (length script)) script)
numbered n [] none = tt
numbered n (flip ∷ script) none = (none.0, numbered (n + 1) script none.1)

module _ (setup : Setup) (trace : Trace) (none : Each StrikesNoCell setup.flips) where
  grounds_start : (i : ℕ) (cores : List CoreResult)
      → Each IsUnstruck (map core_start (map (λ (x : ℕ × CoreResult). ground_in setup trace x.0 x.1) (enumerate_from i cores)))
  grounds_start i [] = tt
  grounds_start i (r ∷ cores) = (
    starts (ground_in setup trace i r)
        (filtered (λ (flip : ℕ × Flip). StrikesNoCell flip.1) (λ flip. strikes_core i flip.1) (numbered_flips setup.flips) (numbered 0 setup.flips none)),
    grounds_start (i + 1) cores,
  )

  -- no cell ever is bad in the run of all masters over whatever transfers
  pub cells_never_bad : list_any a_cell_was_bad (replay_of setup trace).cores ≡ false
  unfolding replay
  cells_never_bad =
      let first = replay_start setup (grounds_in setup trace) in
      let last = fold (replay_turn setup) first trace.transfers in
      all_fine (map core_finished last.cores)
      (finish_leaves last.cores (turns_leave setup trace.transfers first (grounds_start 0 trace.cores)))

-- no word and no cell ever has two flipped bits, whatever a trace reports
pub never_two_flipped : (setup : Setup) → IsCorrectable setup.flips → (trace : Trace) → NeverTwoTurned setup trace
never_two_flipped setup correctable trace = record {
  words = words_never_bad setup trace correctable.words;
  cells = cells_never_bad setup trace (recursion_from_All StrikesNoCell setup.flips correctable.cells);
}
