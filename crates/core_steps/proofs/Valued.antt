-- A try over all that an instruction works on, as the users of the core see it: the ports after the touches, and the operation that
-- retires.
use Rattle.std.proofs.Common.{◌≡◌, ◌∙◌, ◌++◌, ℕ, Bool, true, false, List, [], ◌∷◌, Option, Some, None, fold, if◌then◌else◌, refl, sym, ap}
use Rattle.std.proofs.lemmas.List.Sums.{fold-append}
use Rattle.core_laws.specs.StepTouches.{access_looks, operation_looks, trap_looks, register_looks, cell_touches, fetched_touches, attempt_touches}
use Rattle.core_parts.proofs.Touching.{answers_read}
use Rattle.core_parts.specs.PortState.{PortState, arrays_in, touch, answers}
use Rattle.core_parts.specs.RecordState.{RecordState}
use Rattle.core_parts.specs.Work.{WorkState, load_made, store_made, work_touch, work_answers}
use Rattle.lf_model.specs.Caches.Look.{LookUp, look}
use Rattle.lf_model.specs.Caches.Look.LookUp.{Hit, Miss}
use Rattle.lf_model.specs.Caches.Slot.{history_at, befalls}
use Rattle.lf_model.specs.Course.Arrays.{Arrays, cells_of, read_cells, read_back}
use Rattle.lf_model.specs.Course.Attempt.{load_outcome, access_attempt, barrier_attempt, operation_attempt, trap_attempt, register_attempt, fetch_attempt, attempt}
use Rattle.lf_model.specs.Course.Core.{is_store_kind}
use Rattle.lf_model.specs.Course.Outcome.{Outcome, outcome_needs}
use Rattle.lf_model.specs.Course.Outcome.Need.{NoTurn}
use Rattle.lf_model.specs.Course.Outcome.Outcome.{NotTried, NoText, FetchMiss, BadRegister, OrdinaryTrap, LoadMiss, LoadHit, Store, Atomic, Barrier, Other}
use Rattle.lf_model.specs.Course.Touches.{unless_bad, read_touches, access_touches, barrier_touches, write_touches, retire_touches}
use Rattle.lf_model.specs.Effect.{AccessKind, Access, operation_kind, Effect}
use Rattle.lf_model.specs.Flips.{Moment, is_bad_word}
use Rattle.lf_model.specs.Names.{same_why}
use Rattle.lf_model.specs.Start.{is_text_word}
use Rattle.lf_model.specs.State.{State}
use Rattle.lf_model.specs.Step.{Parts}
use Rattle.lf_model.specs.declared.bus.Why.{Why}
use Rattle.lf_model.specs.declared.bus.Why.TheVariants.{Flush}
use Rattle.lf_model.specs.declared.image.Image.{Image}
use Rattle.lf_model.specs.declared.touch.Touch.{Touch}
use Rattle.lf_model.specs.declared.touch.Touch.TheVariants.{LookFetch, ReadCell, WriteCell, StoreData, FlushCaches}

abbrev pub after : WorkState → List Touch → WorkState
after s ts = fold work_touch s ts

-- ---- the ports

pub ports_after : (s : WorkState) (ts : List Touch) → (after s ts).ports ≡ fold (touch []) s.ports ts
ports_after s [] = refl
ports_after s (t ∷ ts) = ports_after (work_touch s t) ts

pub setup_after : (s : WorkState) (ts : List Touch) → (after s ts).setup ≡ s.setup
setup_after s [] = refl
setup_after s (t ∷ ts) = setup_after (work_touch s t) ts

-- ---- the record: these touches leave it, and what the parts answer

record Quiet (s t : WorkState) : Type 0 where
  made : t.made ≡ s.made
  answers_ : work_answers t ≡ work_answers s

quiet_none : (s : WorkState) → Quiet s s
quiet_none s = record { made = refl; answers_ = refl }

quiet_then : (s t u : WorkState) → Quiet s t → Quiet t u → Quiet s u
quiet_then s t u a b = record { made = b.made ∙ a.made; answers_ = b.answers_ ∙ a.answers_ }

quiet_read : (s : WorkState) (cell : ℕ) → Quiet s (work_touch s (ReadCell cell))
quiet_read s cell = record { made = refl; answers_ = answers_read [] s.ports cell }

quiet_unless : (bad : Bool) (s : WorkState) (ts : List Touch) → Quiet s (after s ts) → Quiet s (after s (unless_bad bad ts))
quiet_unless true s ts q = quiet_none s
quiet_unless false s ts q = q

quiet_reads : (cells : List ℕ) (histories : List (List Moment)) (s : WorkState) → Quiet s (after s (read_touches cells histories))
quiet_reads [] histories s = quiet_none s
quiet_reads (c ∷ cs) histories s =
    let later = befalls read_back c histories in
    let t = work_touch s (ReadCell c) in
    quiet_then s t (after t (unless_bad (is_bad_word (history_at c histories)) (read_touches cs later))) (quiet_read s c)
    (quiet_unless (is_bad_word (history_at c histories)) t (read_touches cs later) (quiet_reads cs later t))

-- ---- a load that is looked up

abbrev pub kind_looked : Parts → Access → AccessKind → RecordState → RecordState
kind_looked parts x AccessKind.Load r = load_made x.addr x.len (parts.look x.addr x.len) r
kind_looked parts x AccessKind.Store r = r
kind_looked parts x AccessKind.Atomic r = r

abbrev pub operation_looked : Parts → Option Access → RecordState → RecordState
operation_looked parts None r = r
operation_looked parts (Some x) r = kind_looked parts x x.kind r

abbrev pub trap_looked : Parts → Effect → Option ℕ → RecordState → RecordState
trap_looked parts e None r = operation_looked parts e.access r
trap_looked parts e (Some tt_) r = r

abbrev pub register_looked : Parts → Effect → Option ℕ → RecordState → RecordState
register_looked parts e None r = trap_looked parts e e.trap r
register_looked parts e (Some cell) r = r

abbrev pub fetched_looked : Parts → State → Effect → Arrays → LookUp → RecordState → RecordState
fetched_looked parts st e a (Miss why) r = r
fetched_looked parts st e a (Hit slot) r = register_looked parts e (read_cells (cells_of st.ctl.cwp e.reads) a.cells).bad r

abbrev pub attempt_looked : Parts → Image → State → Effect → Arrays → RecordState → RecordState
attempt_looked parts image st e a r = if is_text_word image.text st.ctl.pc then fetched_looked parts st e a (look st.ctl.pc 4 a.fetch_cache).answer r else r

kind_leaves : (x : Access) (kind : AccessKind) (s : WorkState) → (after s (access_looks x kind)).made ≡ kind_looked (work_answers s) x kind s.made
kind_leaves x AccessKind.Load s = refl
kind_leaves x AccessKind.Store s = refl
kind_leaves x AccessKind.Atomic s = refl

operation_leaves : (access : Option Access) (s : WorkState) → (after s (operation_looks access)).made ≡ operation_looked (work_answers s) access s.made
operation_leaves None s = refl
operation_leaves (Some x) s = kind_leaves x x.kind s

trap_leaves : (e : Effect) (trap : Option ℕ) (s : WorkState) → (after s (trap_looks e trap)).made ≡ trap_looked (work_answers s) e trap s.made
trap_leaves e None s = operation_leaves e.access s
trap_leaves e (Some tt_) s = refl

register_leaves : (e : Effect) (bad : Option ℕ) (s : WorkState) → (after s (register_looks e bad)).made ≡ register_looked (work_answers s) e bad s.made
register_leaves e None s = trap_leaves e e.trap s
register_leaves e (Some cell) s = refl

cells_leave : (e : Effect) (cells : List ℕ) (a : Arrays) (s : WorkState) → (after s (cell_touches e cells a)).made ≡ register_looked (work_answers s) e (read_cells cells a.cells).bad s.made
cells_leave e cells a s =
    let bad = (read_cells cells a.cells).bad in
    let q = quiet_reads cells a.cells s in
    ap (λ (t : WorkState). t.made) (fold-append work_touch s (read_touches cells a.cells) (register_looks e bad))
    ∙ (register_leaves e bad (after s (read_touches cells a.cells))
    ∙ (ap (λ parts. register_looked parts e bad (after s (read_touches cells a.cells)).made) q.answers_ ∙ ap (register_looked (work_answers s) e bad) q.made))

fetched_leave : (st : State) (e : Effect) (a : Arrays) (answer : LookUp) (s : WorkState) → (after s (fetched_touches st e a answer)).made ≡ fetched_looked (work_answers s) st e a answer s.made
fetched_leave st e a (Miss why) s = refl
fetched_leave st e a (Hit slot) s = cells_leave e (cells_of st.ctl.cwp e.reads) a s

pub attempt_leaves : (image : Image) (st : State) (e : Effect) (a : Arrays) (s : WorkState) → (after s (attempt_touches image st e a)).made ≡ attempt_looked (work_answers s) image st e a s.made
attempt_leaves image st e a s = by (is_text_word image.text st.ctl.pc)
  where
    by : (is_text : Bool) → (after s (if is_text then LookFetch st.ctl.pc ∷ fetched_touches st e a (look st.ctl.pc 4 a.fetch_cache).answer else [])).made
        ≡ (if is_text then fetched_looked (work_answers s) st e a (look st.ctl.pc 4 a.fetch_cache).answer s.made else s.made)
    by true = fetched_leave st e a (look st.ctl.pc 4 a.fetch_cache).answer (work_touch s (LookFetch st.ctl.pc))
    by false = refl

-- ---- an instruction that retires

writes_leave : (cells : List ℕ) (s : WorkState) → (after s (write_touches cells)).made ≡ s.made
writes_leave [] s = refl
writes_leave (c ∷ cs) s = writes_leave cs (work_touch s (WriteCell c))

barrier_leaves : (barrier : Option Why) (s : WorkState) → (after s (barrier_touches barrier)).made ≡ s.made
barrier_leaves None s = refl
barrier_leaves (Some why) s = by (same_why why Flush)
  where
    by : (is : Bool) → (after s (if is then FlushCaches ∷ [] else [])).made ≡ s.made
    by true = refl
    by false = refl

abbrev pub stored_by : Option Access → RecordState → RecordState
stored_by None r = r
stored_by (Some x) r = if is_store_kind (operation_kind x.kind) then store_made x.addr x.len x.put r else r

store_leaves : (access : Option Access) (s : WorkState) → (after s (access_touches access)).made ≡ stored_by access s.made
store_leaves None s = refl
store_leaves (Some x) s = by (is_store_kind (operation_kind x.kind))
  where
    by : (is : Bool) → (after s (if is then StoreData x.addr x.len x.put ∷ [] else [])).made ≡ (if is then store_made x.addr x.len x.put s.made else s.made)
    by true = refl
    by false = refl

pub retire_leaves : (e : Effect) (s : WorkState) → (after s (retire_touches e)).made ≡ stored_by e.access s.made
retire_leaves e s =
    let stored = after s (access_touches e.access) in
    ap (λ (t : WorkState). t.made) (fold-append work_touch s (access_touches e.access) (barrier_touches e.barrier ++ write_touches e.writes))
    ∙ (ap (λ (t : WorkState). t.made) (fold-append work_touch stored (barrier_touches e.barrier) (write_touches e.writes))
    ∙ (writes_leave e.writes (after stored (barrier_touches e.barrier))
    ∙ (barrier_leaves e.barrier stored ∙ store_leaves e.access s)))

-- ---- the record by what the instruction came to

abbrev pub out_looked : Parts → Option Access → Outcome → RecordState → RecordState
out_looked parts access (LoadHit slot) r = operation_looked parts access r
out_looked parts access NotTried r = r
out_looked parts access NoText r = r
out_looked parts access (FetchMiss why) r = r
out_looked parts access (BadRegister cell) r = r
out_looked parts access OrdinaryTrap r = r
out_looked parts access (LoadMiss why) r = r
out_looked parts access Store r = r
out_looked parts access Atomic r = r
out_looked parts access (Barrier why) r = r
out_looked parts access Other r = r

module _ (s : PortState) (r : RecordState) where
  load_out : (x : Access) (kind : AccessKind) (found : LookUp) → x.kind ≡ AccessKind.Load → kind ≡ AccessKind.Load → (look x.addr x.len s.data_cache.cache).answer ≡ found
      → kind_looked (answers s) x kind r ≡ out_looked (answers s) (Some x) (load_outcome found) r
  load_out x kind (Hit slot) is here found = rw (is, here) refl
  load_out x kind (Miss why) is here found = rw (here, found) refl

  kind_out : (a : Arrays) (x : Access) (kind : AccessKind) → x.kind ≡ kind → a.data_cache ≡ s.data_cache.cache
      → kind_looked (answers s) x kind r ≡ out_looked (answers s) (Some x) (access_attempt x a kind).outcome r
  kind_out a x AccessKind.Load is same = rw same (load_out x AccessKind.Load (look x.addr x.len s.data_cache.cache).answer is refl refl)
  kind_out a x AccessKind.Store is same = refl
  kind_out a x AccessKind.Atomic is same = refl

  barrier_out : (a : Arrays) (barrier : Option Why) → r ≡ out_looked (answers s) None (barrier_attempt a barrier).outcome r
  barrier_out a None = refl
  barrier_out a (Some why) = refl

  module _ (e : Effect) where
    operation_out : (a : Arrays) (access : Option Access) → a.data_cache ≡ s.data_cache.cache
        → operation_looked (answers s) access r ≡ out_looked (answers s) access (operation_attempt e a access).outcome r
    operation_out a None same = barrier_out a e.barrier
    operation_out a (Some x) same = kind_out a x x.kind refl same

    trap_out : (a : Arrays) (trap : Option ℕ) → a.data_cache ≡ s.data_cache.cache → trap_looked (answers s) e trap r ≡ out_looked (answers s) e.access (trap_attempt e a trap).outcome r
    trap_out a None same = operation_out a e.access same
    trap_out a (Some tt_) same = refl

    register_out : (a : Arrays) (bad : Option ℕ) → a.data_cache ≡ s.data_cache.cache → register_looked (answers s) e bad r ≡ out_looked (answers s) e.access (register_attempt e a bad).outcome r
    register_out a None same = trap_out a e.trap same
    register_out a (Some cell) same = refl

    fetched_out : (st : State) (a b : Arrays) (found : LookUp) → b.cells ≡ a.cells → b.data_cache ≡ s.data_cache.cache
        → fetched_looked (answers s) st e a found r ≡ out_looked (answers s) e.access (fetch_attempt st e b found).outcome r
    fetched_out st a b (Miss why) cells same = refl
    fetched_out st a b (Hit slot) cells same =
        let read = read_cells (cells_of st.ctl.cwp e.reads) b.cells in
        ap (λ hs. register_looked (answers s) e (read_cells (cells_of st.ctl.cwp e.reads) hs).bad r) (sym cells) ∙ register_out (record b { cells = read.cells }) read.bad same

    pub attempt_out : (image : Image) (st : State) (is_text : Bool) → is_text_word image.text st.ctl.pc ≡ is_text
        → attempt_looked (answers s) image st e (arrays_in s) r ≡ out_looked (answers s) e.access (attempt image st e (arrays_in s)).outcome r
    unfolding attempt
    attempt_out image st true is =
        let a = arrays_in s in
        rw is (fetched_out st a (record a { fetch_cache = (look st.ctl.pc 4 a.fetch_cache).cache }) (look st.ctl.pc 4 a.fetch_cache).answer refl refl)
    attempt_out image st false is = rw is refl

  pub not_hit : (et waits full : Bool) (access : Option Access) (out : Outcome) → (outcome_needs et waits full out ≡ NoTurn → ⊥) → out_looked (answers s) access out r ≡ r
  not_hit et waits full access (LoadHit slot) other = absurd (other refl)
  not_hit et waits full access NotTried other = refl
  not_hit et waits full access NoText other = refl
  not_hit et waits full access (FetchMiss why) other = refl
  not_hit et waits full access (BadRegister cell) other = refl
  not_hit et waits full access OrdinaryTrap other = refl
  not_hit et waits full access (LoadMiss why) other = refl
  not_hit et waits full access Store other = refl
  not_hit et waits full access Atomic other = refl
  not_hit et waits full access (Barrier why) other = refl
  not_hit et waits full access Other other = refl

  pub no_operation : (out : Outcome) → out_looked (answers s) None out r ≡ r
  no_operation (LoadHit slot) = refl
  no_operation NotTried = refl
  no_operation NoText = refl
  no_operation (FetchMiss why) = refl
  no_operation (BadRegister cell) = refl
  no_operation OrdinaryTrap = refl
  no_operation (LoadMiss why) = refl
  no_operation Store = refl
  no_operation Atomic = refl
  no_operation (Barrier why) = refl
  no_operation Other = refl
