-- An instruction that reached its turn or retired left the uses of the fetch cache as they were: only a fetch and its fill use it.
use Rattle.std.proofs.Common.{◌≡◌, ℕ, Bool, true, false, cond, nat_eq, List, [], ◌∷◌, ◌++◌, Option, Some, None, is_some, refl, ◌∙◌}
use Rattle.std.specs.Prelude.{fold}
use Rattle.std.specs.List.{AllByRecursion}
use Rattle.core_parts.specs.Work.{WorkState, work_touch}
use Rattle.lf_model.proofs.EachLemmas.{each_append}
use Rattle.lf_model.specs.Caches.Change.{flushed}
use Rattle.lf_model.specs.Course.Core.{is_store_kind}
use Rattle.lf_model.specs.Course.Touches.{unless_bad, access_touches, barrier_touches, write_touches, retire_touches}
use Rattle.lf_model.specs.Effect.{AccessKind, Access, Effect, operation_kind}
use Rattle.lf_model.specs.Names.{same_why}
use Rattle.lf_model.specs.State.{cell}
use Rattle.lf_model.specs.Step.{Parts, bad_register, first_bad}
use Rattle.lf_model.specs.declared.bus.Why.{Why}
use Rattle.lf_model.specs.declared.bus.Why.TheVariants.{Flush}
use Rattle.lf_model.specs.declared.step.Did.{Did}
use Rattle.lf_model.specs.declared.step.Did.TheVariants.{Retired, Turned, Need, Halt, Stop}
use Rattle.lf_model.specs.declared.touch.Touch.{Touch}
use Rattle.lf_model.specs.declared.touch.Touch.TheVariants.{StartStep, LookFetch, ReadCell, WriteCell, LookData, StoreData, FlushCaches, SnoopData, FillFetch, FillData}
use Rattle.v8_exec.specs.Touching.{read_of, reads_of, looks_by, looks_of, retires_of, touches_of}

-- the touch uses no slot of the fetch cache
abbrev pub SparesFetch : Touch → Type 0
SparesFetch (LookFetch addr) = ⊥
SparesFetch (FillFetch addr valid) = ⊥
SparesFetch (StartStep step) = Unit {0}
SparesFetch (ReadCell c) = Unit {0}
SparesFetch (WriteCell c) = Unit {0}
SparesFetch (LookData addr len) = Unit {0}
SparesFetch (StoreData addr len value) = Unit {0}
SparesFetch FlushCaches = Unit {0}
SparesFetch (SnoopData addr) = Unit {0}
SparesFetch (FillData addr valid) = Unit {0}

abbrev pub AllSpare : List Touch → Type 0
AllSpare ts = AllByRecursion SparesFetch ts

-- ---- uses

flush_uses : (s : WorkState) → (work_touch s FlushCaches).ports.fetch_cache.cache.uses ≡ s.ports.fetch_cache.cache.uses
unfolding flushed
flush_uses s = refl

uses_once : (t : Touch) (s : WorkState) → SparesFetch t → (work_touch s t).ports.fetch_cache.cache.uses ≡ s.ports.fetch_cache.cache.uses
uses_once (LookFetch addr) s spares = absurd spares
uses_once (FillFetch addr valid) s spares = absurd spares
uses_once (StartStep step) s spares = refl
uses_once (ReadCell c) s spares = refl
uses_once (WriteCell c) s spares = refl
uses_once (LookData addr len) s spares = refl
uses_once (StoreData addr len value) s spares = refl
uses_once FlushCaches s spares = flush_uses s
uses_once (SnoopData addr) s spares = refl
uses_once (FillData addr valid) s spares = refl

pub fetch_uses_stay : (ts : List Touch) (s : WorkState) → AllSpare ts → (fold work_touch s ts).ports.fetch_cache.cache.uses ≡ s.ports.fetch_cache.cache.uses
fetch_uses_stay [] s spares = refl
fetch_uses_stay (t ∷ ts) s spares = fetch_uses_stay ts (work_touch s t) spares.1 ∙ uses_once t s spares.0

-- ---- the touches of an instruction

spares_unless : (bad : Bool) (ts : List Touch) → AllSpare ts → AllSpare (unless_bad bad ts)
spares_unless true ts spares = tt
spares_unless false ts spares = spares

spares_if : (b : Bool) (t : Touch) → SparesFetch t → AllSpare (cond b (t ∷ []) [])
spares_if true t spares = (spares, tt)
spares_if false t spares = tt

spares_read : (window n : ℕ) → AllSpare (read_of window n)
unfolding read_of
spares_read window n = by (nat_eq n 0)
  where
    by : (zero : Bool) → AllSpare (cond zero [] (ReadCell (cell window n) ∷ []))
    by true = tt
    by false = (tt, tt)

spares_reads : (parts : Parts) (window : ℕ) (ns : List ℕ) → AllSpare (reads_of parts window ns)
spares_reads parts window [] = tt
spares_reads parts window (n ∷ ns) =
    each_append SparesFetch (read_of window n) (unless_bad (is_some (bad_register parts window n)) (reads_of parts window ns)) (spares_read window n)
    (spares_unless (is_some (bad_register parts window n)) (reads_of parts window ns) (spares_reads parts window ns))

spares_by : (x : Access) (kind : AccessKind) → AllSpare (looks_by x kind)
spares_by x AccessKind.Load = (tt, tt)
spares_by x AccessKind.Store = tt
spares_by x AccessKind.Atomic = tt

spares_looks : (access : Option Access) → AllSpare (looks_of access)
spares_looks None = tt
spares_looks (Some x) = spares_by x x.kind

spares_access : (access : Option Access) → AllSpare (access_touches access)
spares_access None = tt
spares_access (Some x) = spares_if (is_store_kind (operation_kind x.kind)) (StoreData x.addr x.len x.put) tt

spares_barrier : (barrier : Option Why) → AllSpare (barrier_touches barrier)
spares_barrier None = tt
spares_barrier (Some why) = spares_if (same_why why Flush) FlushCaches tt

spares_writes : (cells : List ℕ) → AllSpare (write_touches cells)
spares_writes [] = tt
spares_writes (c ∷ cells) = (tt, spares_writes cells)

spares_retire : (e : Effect) → AllSpare (retire_touches e)
spares_retire e =
    each_append SparesFetch (access_touches e.access) (barrier_touches e.barrier ++ write_touches e.writes) (spares_access e.access)
    (each_append SparesFetch (barrier_touches e.barrier) (write_touches e.writes) (spares_barrier e.barrier) (spares_writes e.writes))

spares_retires : (e : Effect) (did : Did) → AllSpare (retires_of e did)
spares_retires e Retired = spares_retire e
spares_retires e Turned = tt
spares_retires e (Need turn) = tt
spares_retires e (Halt tt_) = tt
spares_retires e (Stop tt_ place syn) = tt

pub spares_touches : (parts : Parts) (window : ℕ) (e : Effect) (did : Did) → AllSpare (touches_of parts window e did)
spares_touches parts window e did =
    each_append SparesFetch (reads_of parts window e.reads) (unless_bad (is_some (first_bad parts window e.reads)) (looks_of e.access) ++ retires_of e did) (spares_reads parts window e.reads)
    (each_append SparesFetch (unless_bad (is_some (first_bad parts window e.reads)) (looks_of e.access)) (retires_of e did)
    (spares_unless (is_some (first_bad parts window e.reads)) (looks_of e.access) (spares_looks e.access)) (spares_retires e did))
