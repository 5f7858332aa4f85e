-- What each touch makes of the arrays of a core, and which touches an instruction makes as it reads its registers and as it retires.
use Rattle.std.specs.Prelude.{ℕ, Bool, true, false, List, [], ◌∷◌, ◌++◌, map, Option, Some, None, if◌then◌else◌}
use Rattle.lf_model.specs.Caches.Slot.{history_at, befalls, written}
use Rattle.lf_model.specs.Caches.Look.{look}
use Rattle.lf_model.specs.Caches.Change.{updated, snooped, filled, flushed}
use Rattle.lf_model.specs.Course.Arrays.{Arrays, begun, read_back}
use Rattle.lf_model.specs.Course.Core.{is_store_kind}
use Rattle.lf_model.specs.Effect.{Access, operation_kind, Effect}
use Rattle.lf_model.specs.Flips.{Moment, is_bad_word}
use Rattle.lf_model.specs.Names.{same_why}
use Rattle.lf_model.specs.declared.bus.Why.{Why}
use Rattle.lf_model.specs.declared.bus.Why.TheVariants.{Flush}
use Rattle.lf_model.specs.declared.flip.Flip.{Flip}
use Rattle.lf_model.specs.declared.touch.Touch.{Touch}
use Rattle.lf_model.specs.declared.touch.Touch.TheVariants.{StartStep, LookFetch, ReadCell, WriteCell, LookData, StoreData, FlushCaches, SnoopData, FillFetch, FillData}

-- the arrays after one touch, where these flips of the script strike the core. The value of a store is not in them.
abbrev pub touched : List (ℕ × Flip) → Arrays → Touch → Arrays
touched flips a (StartStep step) = begun flips step a
touched flips a (LookFetch addr) = record a { fetch_cache = (look addr 4 a.fetch_cache).cache }
touched flips a (ReadCell cell) = record a { cells = befalls read_back cell a.cells }
touched flips a (WriteCell cell) = record a { cells = befalls written cell a.cells }
touched flips a (LookData addr len) = record a { data_cache = (look addr len a.data_cache).cache }
touched flips a (StoreData addr len value) = record a { data_cache = updated addr len a.data_cache }
touched flips a FlushCaches = record a { fetch_cache = flushed a.fetch_cache; data_cache = flushed a.data_cache }
touched flips a (SnoopData addr) = record a { data_cache = snooped a.data_cache addr }
touched flips a (FillFetch addr valid) = record a { fetch_cache = filled addr valid a.fetch_cache }
touched flips a (FillData addr valid) = record a { data_cache = filled addr valid a.data_cache }

-- ---- the touches of the registers that an instruction reads, up to and with the first bad one

abbrev pub unless_bad : Bool → List Touch → List Touch
unless_bad true later = []
unless_bad false later = later

abbrev pub read_touches : List ℕ → List (List Moment) → List Touch
read_touches [] cells = []
read_touches (c ∷ cs) cells = ReadCell c ∷ unless_bad (is_bad_word (history_at c cells)) (read_touches cs (befalls read_back c cells))

-- ---- the touches of an instruction that retires, in order: its store, its flush, and the cells that it writes

abbrev pub store_touches : Access → List Touch
store_touches x = if is_store_kind (operation_kind x.kind) then StoreData x.addr x.len x.put ∷ [] else []

abbrev pub access_touches : Option Access → List Touch
access_touches None = []
access_touches (Some x) = store_touches x

abbrev pub barrier_touches : Option Why → List Touch
barrier_touches None = []
barrier_touches (Some why) = if same_why why Flush then FlushCaches ∷ [] else []

abbrev pub write_touches : List ℕ → List Touch
write_touches cells = map WriteCell cells

abbrev pub retire_touches : Effect → List Touch
retire_touches e = access_touches e.access ++ (barrier_touches e.barrier ++ write_touches e.writes)
