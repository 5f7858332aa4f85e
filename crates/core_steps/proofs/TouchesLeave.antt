-- What the touches of a try leave of the arrays and of the stores that wait.
use Rattle.std.proofs.Common.{◌≡◌, ◌∙◌, ◌++◌, ℕ, Bool, true, false, List, [], ◌∷◌, Option, Some, None, fold, refl, sym, ap, if◌then◌else◌}
use Rattle.std.proofs.lemmas.List.{append-nil}
use Rattle.std.proofs.lemmas.List.Sums.{fold-append}
use Rattle.core_laws.proofs.StepTouches.{tried}
use Rattle.core_laws.specs.StepTouches.{access_looks, operation_looks, trap_looks, register_looks, fetched_touches, attempt_touches}
use Rattle.core_parts.proofs.Touching.{arrays_after}
use Rattle.core_parts.specs.CoreValue.{CoreValue}
use Rattle.core_parts.specs.PortState.{PortState, Waiting, arrays_in, touch}
use Rattle.core_steps.specs.Tries.{state_here, effect_here, window_over, try_here, touches_here}
use Rattle.lf_model.specs.Caches.Look.{LookUp, look}
use Rattle.lf_model.specs.Caches.Look.LookUp.{Hit, Miss}
use Rattle.lf_model.specs.Caches.Slot.{history_at, befalls}
use Rattle.lf_model.specs.Course.Arrays.{Arrays, cells_of, read_cells, read_back}
use Rattle.lf_model.specs.Course.Core.{is_store_kind}
use Rattle.lf_model.specs.Course.Touches.{touched, unless_bad, read_touches, access_touches, barrier_touches, write_touches, retire_touches}
use Rattle.lf_model.specs.Effect.{AccessKind, Access, operation_kind, Effect}
use Rattle.lf_model.specs.Flips.{Moment, is_bad_word}
use Rattle.lf_model.specs.Names.{same_why}
use Rattle.lf_model.specs.Start.{is_text_word}
use Rattle.lf_model.specs.State.{State}
use Rattle.lf_model.specs.declared.bus.Why.{Why}
use Rattle.lf_model.specs.declared.bus.Why.TheVariants.{Flush}
use Rattle.lf_model.specs.declared.image.Image.{Image}
use Rattle.lf_model.specs.declared.step.Did.{Did}
use Rattle.lf_model.specs.declared.touch.Touch.{Touch}
use Rattle.lf_model.specs.declared.touch.Touch.TheVariants.{LookFetch, ReadCell, WriteCell, StoreData, FlushCaches}
use Rattle.v8_exec.specs.Touching.{retires_of}

abbrev after : PortState → List Touch → PortState
after s ts = fold (touch []) s ts

-- ---- the arrays

arrays_by : (v : CoreValue) (did : Did) (over : Bool) → window_over v ≡ over
    → fold (touched []) (arrays_in v.ports) (touches_here v did) ≡ fold (touched []) (try_here v).arrays (retires_of (effect_here v) did)
arrays_by v did true over = rw over refl
arrays_by v did false over =
    let a = arrays_in v.ports in
    rw over (fold-append (touched []) a (attempt_touches v.setup.image (state_here v) (effect_here v) a) (retires_of (effect_here v) did)
    ∙ ap (λ b. fold (touched []) b (retires_of (effect_here v) did)) (tried [] v.setup.image (state_here v) (effect_here v) a))

-- those of the try, and then what an instruction that retires makes of them
pub arrays_left : (v : CoreValue) (did : Did) → arrays_in (after v.ports (touches_here v did)) ≡ fold (touched []) (try_here v).arrays (retires_of (effect_here v) did)
arrays_left v did = arrays_after [] v.ports (touches_here v did) ∙ arrays_by v did (window_over v) refl

-- ---- the stores that wait

-- these touches leave them
abbrev Leaves : List Touch → Type 0
Leaves ts = (s : PortState) → (after s ts).waiting ≡ s.waiting

both_leave : (first second : List Touch) → Leaves first → Leaves second → Leaves (first ++ second)
both_leave first second l m s = ap (λ (t : PortState). t.waiting) (fold-append (touch []) s first second) ∙ (m (after s first) ∙ l s)

unless_leaves : (bad : Bool) (ts : List Touch) → Leaves ts → Leaves (unless_bad bad ts)
unless_leaves true ts l s = refl
unless_leaves false ts l s = l s

reads_leave : (cells : List ℕ) (histories : List (List Moment)) → Leaves (read_touches cells histories)
reads_leave [] histories s = refl
reads_leave (c ∷ cs) histories s =
    let later = befalls read_back c histories in
    unless_leaves (is_bad_word (history_at c histories)) (read_touches cs later) (reads_leave cs later) (touch [] s (ReadCell c))

kind_leaves : (x : Access) (kind : AccessKind) → Leaves (access_looks x kind)
kind_leaves x AccessKind.Load s = refl
kind_leaves x AccessKind.Store s = refl
kind_leaves x AccessKind.Atomic s = refl

operation_leaves : (access : Option Access) → Leaves (operation_looks access)
operation_leaves None s = refl
operation_leaves (Some x) s = kind_leaves x x.kind s

trap_leaves : (e : Effect) (trap : Option ℕ) → Leaves (trap_looks e trap)
trap_leaves e None s = operation_leaves e.access s
trap_leaves e (Some tt_) s = refl

register_leaves : (e : Effect) (bad : Option ℕ) → Leaves (register_looks e bad)
register_leaves e None s = trap_leaves e e.trap s
register_leaves e (Some cell) s = refl

fetched_leave : (state : State) (e : Effect) (a : Arrays) (answer : LookUp) → Leaves (fetched_touches state e a answer)
fetched_leave state e a (Miss why) s = refl
fetched_leave state e a (Hit slot) s =
    let cells = cells_of state.ctl.cwp e.reads in
    both_leave (read_touches cells a.cells) (register_looks e (read_cells cells a.cells).bad) (reads_leave cells a.cells) (register_leaves e (read_cells cells a.cells).bad) s

attempt_leaves : (image : Image) (state : State) (e : Effect) (a : Arrays) → Leaves (attempt_touches image state e a)
attempt_leaves image state e a s = by (is_text_word image.text state.ctl.pc)
  where
    by : (is_text : Bool) → (after s (if is_text then LookFetch state.ctl.pc ∷ fetched_touches state e a (look state.ctl.pc 4 a.fetch_cache).answer else [])).waiting ≡ s.waiting
    by true = fetched_leave state e a (look state.ctl.pc 4 a.fetch_cache).answer (touch [] s (LookFetch state.ctl.pc))
    by false = refl

writes_leave : (cells : List ℕ) → Leaves (write_touches cells)
writes_leave [] s = refl
writes_leave (c ∷ cs) s = writes_leave cs (touch [] s (WriteCell c))

barrier_leaves : (barrier : Option Why) → Leaves (barrier_touches barrier)
barrier_leaves None s = refl
barrier_leaves (Some why) s = by (same_why why Flush)
  where
    by : (is : Bool) → (after s (if is then FlushCaches ∷ [] else [])).waiting ≡ s.waiting
    by true = refl
    by false = refl

-- the store that an instruction makes, as it waits
abbrev pub waits_as : Access → Waiting
waits_as x = record { addr = x.addr; len = x.len; value = x.put }

abbrev pub store_waiting : Option Access → List Waiting
store_waiting None = []
store_waiting (Some x) = if is_store_kind (operation_kind x.kind) then waits_as x ∷ [] else []

store_waits : (access : Option Access) (s : PortState) → (after s (access_touches access)).waiting ≡ s.waiting ++ store_waiting access
store_waits None s = sym (append-nil s.waiting)
store_waits (Some x) s = by (is_store_kind (operation_kind x.kind))
  where
    by : (is : Bool) → (after s (if is then StoreData x.addr x.len x.put ∷ [] else [])).waiting ≡ s.waiting ++ (if is then waits_as x ∷ [] else [])
    by true = refl
    by false = sym (append-nil s.waiting)

retire_waits : (e : Effect) (s : PortState) → (after s (retire_touches e)).waiting ≡ s.waiting ++ store_waiting e.access
retire_waits e s =
    ap (λ (t : PortState). t.waiting) (fold-append (touch []) s (access_touches e.access) (barrier_touches e.barrier ++ write_touches e.writes))
    ∙ (both_leave (barrier_touches e.barrier) (write_touches e.writes) (barrier_leaves e.barrier) (writes_leave e.writes) (after s (access_touches e.access))
    ∙ store_waits e.access s)

over_leaves : (over : Bool) (ts : List Touch) → Leaves ts → Leaves (if over then [] else ts)
over_leaves true ts l s = refl
over_leaves false ts l s = l s

-- a try leaves them, and of an instruction that retires its store is the last
pub waiting_tried : (v : CoreValue) (did : Did) → retires_of (effect_here v) did ≡ [] → (after v.ports (touches_here v did)).waiting ≡ v.ports.waiting
waiting_tried v did none =
    let ts = attempt_touches v.setup.image (state_here v) (effect_here v) (arrays_in v.ports) in
    rw none (both_leave (if window_over v then [] else ts) [] (over_leaves (window_over v) ts (attempt_leaves v.setup.image (state_here v) (effect_here v) (arrays_in v.ports))) (λ s. refl) v.ports)

pub waiting_retired : (v : CoreValue) (did : Did) → retires_of (effect_here v) did ≡ retire_touches (effect_here v)
    → (after v.ports (touches_here v did)).waiting ≡ v.ports.waiting ++ store_waiting (effect_here v).access
waiting_retired v did all =
    let ts = attempt_touches v.setup.image (state_here v) (effect_here v) (arrays_in v.ports) in
    let first = if window_over v then [] else ts in
    rw all (ap (λ (t : PortState). t.waiting) (fold-append (touch []) v.ports first (retire_touches (effect_here v)))
    ∙ (retire_waits (effect_here v) (after v.ports first)
    ∙ ap (λ ws. ws ++ store_waiting (effect_here v).access) (over_leaves (window_over v) ts (attempt_leaves v.setup.image (state_here v) (effect_here v) (arrays_in v.ports)) v.ports)))
