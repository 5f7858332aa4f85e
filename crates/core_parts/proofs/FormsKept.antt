-- What each touch leaves of a core's caches: they stay well formed, and the resident bytes of the fetch cache stay the image's. Only fills
-- and own stores put bytes into a cache.
use Rattle.std.proofs.Common.{◌≡◌, ℕ, ◌/◌, ◌%◌, ◌^◌, ◌<◌, ◌++◌, Bool, true, false, List, [], ◌∷◌, slice_index, Option, Some, None, refl, sym, ap, ◌∙◌, subst, if◌then◌else◌}
use Rattle.std.specs.Int.{bit_at}
use Rattle.std.specs.List.{AllByRecursion as Each}
use Rattle.std.specs.Prelude.{fold}
use Rattle.core_laws.specs.StepTouches.{access_looks, operation_looks, trap_looks, register_looks, fetched_touches, attempt_touches}
use Rattle.core_parts.specs.Inside.{ports_of, state_in}
use Rattle.core_parts.specs.PortState.{PortState, arrays_in, lines_after, touch}
use Rattle.core_parts.specs.Work.{WorkState, work_touch}
use Rattle.core_parts.specs.declared.parts.Parts.{Parts}
use Rattle.lf_model.proofs.EachLemmas.{each_append}
use Rattle.lf_model.specs.Caches.Change.{snooped}
use Rattle.lf_model.specs.Caches.Look.{LookUp, look}
use Rattle.lf_model.specs.Caches.Look.LookUp.{Hit, Miss}
use Rattle.lf_model.specs.Caches.Slot.{history_at, befalls}
use Rattle.lf_model.specs.Course.Arrays.{Arrays, cells_of, read_cells, read_back}
use Rattle.lf_model.specs.Course.Core.{is_store_kind}
use Rattle.lf_model.specs.Course.Touches.{touched, unless_bad, read_touches, access_touches, barrier_touches, write_touches, retire_touches}
use Rattle.lf_model.specs.Effect.{AccessKind, Access, operation_kind, Effect}
use Rattle.lf_model.specs.Flips.{Moment, is_bad_word}
use Rattle.lf_model.specs.Names.{same_why}
use Rattle.lf_model.specs.Operation.{byte_of}
use Rattle.lf_model.specs.Start.{is_text_word}
use Rattle.lf_model.specs.State.{State}
use Rattle.lf_model.specs.declared.bus.Why.{Why}
use Rattle.lf_model.specs.declared.bus.Why.TheVariants.{Flush}
use Rattle.lf_model.specs.declared.flip.Flip.{Flip}
use Rattle.lf_model.specs.declared.image.Image.{Image}
use Rattle.lf_model.specs.declared.step.Did.{Did}
use Rattle.lf_model.specs.declared.step.Did.TheVariants as did
use Rattle.lf_model.specs.declared.touch.Touch.{Touch}
use Rattle.lf_model.specs.declared.touch.Touch.TheVariants.{StartStep, LookFetch, ReadCell, WriteCell, LookData, StoreData, FlushCaches, SnoopData, FillFetch, FillData}
use Rattle.parity_cache.proofs.Bytes.{puts_data, puts_fetch, less_data, less_fetch}
use Rattle.parity_cache.proofs.FilledBytes.{formed_filled, holds_filled}
use Rattle.parity_cache.proofs.LessResident.{formed_less, holds_less, formed_snooped}
use Rattle.parity_cache.proofs.OwnStore.{formed_stored}
use Rattle.parity_cache.specs.CacheState.{CacheState, with_cache, filled_cache}
use Rattle.parity_cache.specs.Resident.{Holds, IsWellFormed}
use Rattle.parity_slots.specs.SlotState.{IsAccess}
use Rattle.v8_exec.specs.Touching.{retires_of}

-- the caches are well formed, and the resident bytes of the fetch cache are these
pub record HasForms (byte : ℕ → ℕ) (s : PortState) : Type 0 where
  pub fetch_formed : IsWellFormed s.fetch_cache
  pub data_formed : IsWellFormed s.data_cache
  pub fetch_lines : Holds byte s.fetch_cache

-- ---- one touch

-- a touch that puts no byte into a cache
abbrev pub PutsNone : Touch → Type 0
PutsNone t = (puts_data t ≡ false) × (puts_fetch t ≡ false)

-- a touch of an instruction: its store is an aligned access of 1, 2, 4 or 8 bytes, and it fills no line
abbrev pub KeepsForms : Touch → Type 0
KeepsForms (StoreData addr len value) = IsAccess addr len
KeepsForms (FillFetch addr valid) = ⊥
KeepsForms (FillData addr valid) = ⊥
KeepsForms (StartStep step) = Unit {0}
KeepsForms (LookFetch addr) = Unit {0}
KeepsForms (ReadCell cell) = Unit {0}
KeepsForms (WriteCell cell) = Unit {0}
KeepsForms (LookData addr len) = Unit {0}
KeepsForms FlushCaches = Unit {0}
KeepsForms (SnoopData addr) = Unit {0}

abbrev pub AllKeepForms : List Touch → Type 0
AllKeepForms ts = Each KeepsForms ts

pub lines_stay : (s : PortState) (t : Touch) → puts_data t ≡ false → lines_after s t ≡ s.data_cache.lines
lines_stay s (StoreData addr len value) e = absurd (cc)
lines_stay s (StartStep step) e = refl
lines_stay s (LookFetch addr) e = refl
lines_stay s (ReadCell cell) e = refl
lines_stay s (WriteCell cell) e = refl
lines_stay s (LookData addr len) e = refl
lines_stay s FlushCaches e = refl
lines_stay s (SnoopData addr) e = refl
lines_stay s (FillFetch addr valid) e = refl
lines_stay s (FillData addr valid) e = refl

module _ (byte : ℕ → ℕ) (flips : List (ℕ × Flip)) where
  -- the data cache after a touch that puts no byte into it: its bytes are as they were
  pub data_is : (s : PortState) (t : Touch) → puts_data t ≡ false → with_cache (touched flips (arrays_in s) t).data_cache s.data_cache ≡ (touch flips s t).data_cache
  data_is s t e = ap (λ (ls : List (List ℕ)). record s.data_cache { cache = (touched flips (arrays_in s) t).data_cache; lines = ls }) (sym (lines_stay s t e))

  pub forms_less : (t : Touch) (s : PortState) → PutsNone t → HasForms byte s → HasForms byte (touch flips s t)
  forms_less t s none h =
      let loads = (touched flips (arrays_in s) t).data_cache in
      let fetch = (touched flips (arrays_in s) t).fetch_cache in
      let less_f = less_fetch flips (arrays_in s) t none.1 in
      record {
        fetch_formed = formed_less s.fetch_cache fetch less_f h.fetch_formed;
        data_formed = subst IsWellFormed (data_is s t none.0) (formed_less s.data_cache loads (less_data flips (arrays_in s) t none.0) h.data_formed);
        fetch_lines = holds_less s.fetch_cache fetch less_f byte byte h.fetch_lines (λ slot a lt is. refl);
      }

  pub forms_touched : (t : Touch) (s : PortState) → KeepsForms t → HasForms byte s → HasForms byte (touch flips s t)
  forms_touched (StoreData addr len value) s access h = record {
    fetch_formed = h.fetch_formed;
    data_formed = formed_stored addr len value access s.data_cache h.data_formed;
    fetch_lines = h.fetch_lines;
  }
  forms_touched (FillFetch addr valid) s keeps h = absurd keeps
  forms_touched (FillData addr valid) s keeps h = absurd keeps
  forms_touched (StartStep step) s keeps h = forms_less (StartStep step) s (refl, refl) h
  forms_touched (LookFetch addr) s keeps h = forms_less (LookFetch addr) s (refl, refl) h
  forms_touched (ReadCell cell) s keeps h = forms_less (ReadCell cell) s (refl, refl) h
  forms_touched (WriteCell cell) s keeps h = forms_less (WriteCell cell) s (refl, refl) h
  forms_touched (LookData addr len) s keeps h = forms_less (LookData addr len) s (refl, refl) h
  forms_touched FlushCaches s keeps h = forms_less FlushCaches s (refl, refl) h
  forms_touched (SnoopData addr) s keeps h = forms_less (SnoopData addr) s (refl, refl) h

  pub forms_all : (ts : List Touch) (s : PortState) → AllKeepForms ts → HasForms byte s → HasForms byte (fold (touch flips) s ts)
  forms_all [] s keeps h = h
  forms_all (t ∷ ts) s keeps h = forms_all ts (touch flips s t) keeps.1 (forms_touched t s keeps.0 h)

-- ---- the touches of an instruction, over all that it works on

module _ (byte : ℕ → ℕ) where
  pub forms_worked : (ts : List Touch) (s : WorkState) → AllKeepForms ts → HasForms byte s.ports → HasForms byte (fold work_touch s ts).ports
  forms_worked [] s keeps h = h
  forms_worked (t ∷ ts) s keeps h = forms_worked ts (work_touch s t) keeps.1 (forms_touched byte [] t s.ports keeps.0 h)

  pub forms_after : (ts : List Touch) (old new : Parts) → state_in new ≡ fold work_touch (state_in old) ts → AllKeepForms ts → HasForms byte (ports_of old) → HasForms byte (ports_of new)
  forms_after ts old new state keeps h = subst (λ (s : WorkState). HasForms byte s.ports) (sym state) (forms_worked ts (state_in old) keeps h)

-- ---- what a turn makes of the caches

module _ (byte : ℕ → ℕ) (s : PortState) (h : HasForms byte s) where
  -- a line of the fetch cache is filled with words whose valid ones are these bytes
  pub forms_fetched : (addr valid : ℕ) (words : List ℕ) → addr < 2 ^ 32
      → ((a : ℕ) → a / 32 ≡ addr / 32 → bit_at valid (a / 4 % 8) ≡ 1 → byte_of (slice_index words (a / 4 % 8)) 4 (a % 4) ≡ byte a)
      → HasForms byte (record s { fetch_cache = filled_cache addr valid words s.fetch_cache })
  forms_fetched addr valid words bound right = record {
    fetch_formed = formed_filled addr valid words s.fetch_cache h.fetch_formed;
    data_formed = h.data_formed;
    fetch_lines = holds_filled addr valid words s.fetch_cache h.fetch_formed byte bound right h.fetch_lines;
  }

  -- a line of the data cache with any words
  pub forms_loaded : (addr valid : ℕ) (words : List ℕ) → HasForms byte (record s { data_cache = filled_cache addr valid words s.data_cache })
  forms_loaded addr valid words = record {
    fetch_formed = h.fetch_formed;
    data_formed = formed_filled addr valid words s.data_cache h.data_formed;
    fetch_lines = h.fetch_lines;
  }

  -- the data cache snoops a store
  pub forms_snooped : (addr : ℕ) → HasForms byte (record s { data_cache = with_cache (snooped s.data_cache.cache addr) s.data_cache })
  forms_snooped addr = record { fetch_formed = h.fetch_formed; data_formed = formed_snooped s.data_cache addr h.data_formed; fetch_lines = h.fetch_lines }

-- stores, in order
formed_all : (addrs : List ℕ) (c : CacheState) → IsWellFormed c → IsWellFormed (with_cache (fold snooped c.cache addrs) c)
formed_all [] c formed = formed
formed_all (addr ∷ addrs) c formed = formed_all addrs (with_cache (snooped c.cache addr) c) (formed_snooped c addr formed)

pub forms_caught : (byte : ℕ → ℕ) (s : PortState) (addrs : List ℕ) → HasForms byte s → HasForms byte (record s { data_cache = with_cache (fold snooped s.data_cache.cache addrs) s.data_cache })
forms_caught byte s addrs h = record { fetch_formed = h.fetch_formed; data_formed = formed_all addrs s.data_cache h.data_formed; fetch_lines = h.fetch_lines }

-- ---- the touches of a try put no byte into a cache

abbrev pub PutNone : List Touch → Type 0
PutNone ts = Each PutsNone ts

looks_none : (x : Access) (kind : AccessKind) → PutNone (access_looks x kind)
looks_none x AccessKind.Load = ((refl, refl), tt)
looks_none x AccessKind.Store = tt
looks_none x AccessKind.Atomic = tt

operation_none : (access : Option Access) → PutNone (operation_looks access)
operation_none None = tt
operation_none (Some x) = looks_none x x.kind

trap_none : (e : Effect) (trap : Option ℕ) → PutNone (trap_looks e trap)
trap_none e None = operation_none e.access
trap_none e (Some tt_) = tt

register_none : (e : Effect) (bad : Option ℕ) → PutNone (register_looks e bad)
register_none e None = trap_none e e.trap
register_none e (Some cell) = tt

unless_none : (bad : Bool) (ts : List Touch) → PutNone ts → PutNone (unless_bad bad ts)
unless_none true ts h = tt
unless_none false ts h = h

reads_none : (cells : List ℕ) (histories : List (List Moment)) → PutNone (read_touches cells histories)
reads_none [] histories = tt
reads_none (c ∷ cs) histories = ((refl, refl), unless_none (is_bad_word (history_at c histories)) (read_touches cs (befalls read_back c histories)) (reads_none cs (befalls read_back c histories)))

fetched_none : (s : State) (e : Effect) (a : Arrays) (answer : LookUp) → PutNone (fetched_touches s e a answer)
fetched_none s e a (Miss why) = tt
fetched_none s e a (Hit slot) =
    each_append PutsNone (read_touches (cells_of s.ctl.cwp e.reads) a.cells) (register_looks e (read_cells (cells_of s.ctl.cwp e.reads) a.cells).bad)
    (reads_none (cells_of s.ctl.cwp e.reads) a.cells) (register_none e (read_cells (cells_of s.ctl.cwp e.reads) a.cells).bad)

try_by : (text : Bool) (pc : ℕ) (later : List Touch) → PutNone later → PutNone (if text then LookFetch pc ∷ later else [])
try_by true pc later h = ((refl, refl), h)
try_by false pc later h = tt

pub try_none : (image : Image) (s : State) (e : Effect) (a : Arrays) → PutNone (attempt_touches image s e a)
try_none image s e a = try_by (is_text_word image.text s.ctl.pc) s.ctl.pc (fetched_touches s e a (look s.ctl.pc 4 a.fetch_cache).answer) (fetched_none s e a (look s.ctl.pc 4 a.fetch_cache).answer)

-- ---- of those of an instruction that retires only a store puts bytes

barrier_if : (is_flush : Bool) → PutNone (if is_flush then FlushCaches ∷ [] else [])
barrier_if true = ((refl, refl), tt)
barrier_if false = tt

barrier_none : (barrier : Option Why) → PutNone (barrier_touches barrier)
barrier_none None = tt
barrier_none (Some why) = barrier_if (same_why why Flush)

writes_none : (cells : List ℕ) → PutNone (write_touches cells)
writes_none [] = tt
writes_none (c ∷ cs) = ((refl, refl), writes_none cs)

pub rest_none : (e : Effect) → PutNone (barrier_touches e.barrier ++ write_touches e.writes)
rest_none e = each_append PutsNone (barrier_touches e.barrier) (write_touches e.writes) (barrier_none e.barrier) (writes_none e.writes)

-- ---- so all of them keep the forms, where a store is an aligned access

keeps_none : (t : Touch) → PutsNone t → KeepsForms t
keeps_none (StoreData addr len value) none = let e = none.0 in absurd (cc)
keeps_none (FillFetch addr valid) none = let e = none.1 in absurd (cc)
keeps_none (FillData addr valid) none = let e = none.0 in absurd (cc)
keeps_none (StartStep step) none = tt
keeps_none (LookFetch addr) none = tt
keeps_none (ReadCell cell) none = tt
keeps_none (WriteCell cell) none = tt
keeps_none (LookData addr len) none = tt
keeps_none FlushCaches none = tt
keeps_none (SnoopData addr) none = tt

keep_none : (ts : List Touch) → PutNone ts → AllKeepForms ts
keep_none [] none = tt
keep_none (t ∷ ts) none = (keeps_none t none.0, keep_none ts none.1)

-- the store of an instruction, if it has one, is an aligned access
abbrev pub StoreFits : Option Access → Type 0
StoreFits None = Unit {0}
StoreFits (Some x) = is_store_kind (operation_kind x.kind) ≡ true → IsAccess x.addr x.len

store_keeps : (b : Bool) (x : Access) → (b ≡ true → IsAccess x.addr x.len) → AllKeepForms (if b then StoreData x.addr x.len x.put ∷ [] else [])
store_keeps true x fits = (fits refl, tt)
store_keeps false x fits = tt

access_keeps : (access : Option Access) → StoreFits access → AllKeepForms (access_touches access)
access_keeps None fits = tt
access_keeps (Some x) fits = store_keeps (is_store_kind (operation_kind x.kind)) x fits

pub retire_keeps : (e : Effect) → StoreFits e.access → AllKeepForms (retire_touches e)
retire_keeps e fits = each_append KeepsForms (access_touches e.access) (barrier_touches e.barrier ++ write_touches e.writes) (access_keeps e.access fits) (keep_none (barrier_touches e.barrier ++ write_touches e.writes) (rest_none e))

-- where it comes to this; only what retires stores
abbrev pub StoreFitsBy : Effect → Did → Type 0
StoreFitsBy e did.Retired = StoreFits e.access
StoreFitsBy e did.Turned = Unit {0}
StoreFitsBy e (did.Need turn) = Unit {0}
StoreFitsBy e (did.Halt tt_) = Unit {0}
StoreFitsBy e (did.Stop tt_ place syn) = Unit {0}

retires_keep : (e : Effect) (it : Did) → StoreFitsBy e it → AllKeepForms (retires_of e it)
retires_keep e did.Retired fits = retire_keeps e fits
retires_keep e did.Turned fits = tt
retires_keep e (did.Need turn) fits = tt
retires_keep e (did.Halt tt_) fits = tt
retires_keep e (did.Stop tt_ place syn) fits = tt

tried_keep : (over : Bool) (image : Image) (s : State) (e : Effect) (a : Arrays) → AllKeepForms (if over then [] else attempt_touches image s e a)
tried_keep true image s e a = tt
tried_keep false image s e a = keep_none (attempt_touches image s e a) (try_none image s e a)

-- the touches of a step: over, where its window of steps without a turn is over
pub step_keeps : (over : Bool) (image : Image) (s : State) (e : Effect) (a : Arrays) (it : Did) → StoreFitsBy e it
    → AllKeepForms ((if over then [] else attempt_touches image s e a) ++ retires_of e it)
step_keeps over image s e a it fits = each_append KeepsForms (if over then [] else attempt_touches image s e a) (retires_of e it) (tried_keep over image s e a) (retires_keep e it fits)
