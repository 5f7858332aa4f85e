-- What the outcome of a tried instruction says of the instruction and of what the caches answered.
use Rattle.std.proofs.Common.{◌≡◌, ◌∙◌, ℕ, Bool, cond, true, false, List, [], ◌∷◌, Option, Some, None, fold, not, refl, if◌then◌else◌}
use Rattle.std.specs.Prelude.{⊤}
use Rattle.lf_model.specs.Caches.Cache.{Cache, slot_at, with_slot, set_of, matching, raised}
use Rattle.lf_model.specs.Caches.Look.{Checked, check_way, checked, LookUp, Looked, look_by, look}
use Rattle.lf_model.specs.Caches.Look.LookUp.{Hit, Miss}
use Rattle.lf_model.specs.Caches.Slot.{dropped_by_tag, has_struck_tag, has_wanted_words, has_struck_byte}
use Rattle.lf_model.specs.Course.Arrays.{Arrays, cells_of, read_cells}
use Rattle.lf_model.specs.Course.Attempt.{Attempt, load_attempt, access_attempt, barrier_attempt, operation_attempt, trap_attempt, register_attempt, fetch_attempt, attempt}
use Rattle.lf_model.specs.Course.Outcome.{Outcome}
use Rattle.lf_model.specs.Course.Outcome.Outcome.{NotTried, NoText, FetchMiss, BadRegister, OrdinaryTrap, LoadMiss, LoadHit, Store, Atomic, Barrier, Other}
use Rattle.lf_model.specs.Course.Turn.{leaves_instruction}
use Rattle.lf_model.specs.Effect.{AccessKind, Access, Effect}
use Rattle.lf_model.specs.Run.{effect_at_pc}
use Rattle.lf_model.specs.Start.{is_text_word}
use Rattle.lf_model.specs.State.{State}
use Rattle.lf_model.specs.declared.bus.Why.{Why}
use Rattle.lf_model.specs.declared.bus.Why.TheVariants as whys
use Rattle.lf_model.specs.declared.image.Image.{Image}
use Rattle.lf_model.specs.declared.setup.Setup.{Setup}
use Rattle.v8_exec.proofs.EffectShape.{IsApart}

-- ---- a look-up

-- it misses with a cause of its own: no step leaves its instruction for that
abbrev pub IsCause : LookUp → Type 0
IsCause (Hit slot) = ⊤
IsCause (Miss why) = leaves_instruction why ≡ false

one_shape : (k : Checked) (w : ℕ) (struck : Bool)
    → (cond {A = Checked} struck (record { dropped = true; cache = record (with_slot dropped_by_tag w k.cache) { tag_errors = raised k.cache.tag_errors } }) k).cache.shape ≡ k.cache.shape
one_shape k w true = refl
one_shape k w false = refl

check_shape : (k : Checked) (ws : List ℕ) → (fold check_way k ws).cache.shape ≡ k.cache.shape
check_shape k [] = refl
check_shape k (w ∷ ws) = check_shape (check_way k w) ws ∙ one_shape k w (has_struck_tag (slot_at w k.cache))

record Looks (before : Cache) (l : Looked) : Type 0 where
  shape : l.cache.shape ≡ before.shape
  cause : IsCause l.answer

pick : (before : Cache) (words struck : Bool) (x y z : Looked) → Looks before x → Looks before y → Looks before z → Looks before (if not words then x else if struck then y else z)
pick before false struck x y z hx hy hz = hx
pick before true true x y z hx hy hz = hy
pick before true false x y z hx hy hz = hz

absent : (dropped : Bool) → leaves_instruction (if dropped then whys.Tag else whys.Absent) ≡ false
absent true = refl
absent false = refl

looks_by : (addr len : ℕ) (k : Checked) (found : Option ℕ) → Looks k.cache (look_by addr len k found)
looks_by addr len k None = record { shape = refl; cause = absent k.dropped }
looks_by addr len k (Some i) = pick k.cache (has_wanted_words addr len (slot_at i k.cache)) (has_struck_byte addr len (slot_at i k.cache)) _ _ _
    (record { shape = refl; cause = refl }) (record { shape = refl; cause = refl }) (record { shape = refl; cause = tt })

looks : (addr len : ℕ) (cache : Cache) → Looks cache (look addr len cache)
unfolding look
looks addr len cache =
    let k = checked addr cache in
    let by = looks_by addr len k (matching addr k.cache) in
    record { shape = by.shape ∙ check_shape (record { dropped = false; cache = cache }) (set_of addr cache); cause = by.cause }

pub look_shape : (addr len : ℕ) (cache : Cache) → (look addr len cache).cache.shape ≡ cache.shape
look_shape addr len cache = (looks addr len cache).shape

pub cause_is : (addr len : ℕ) (cache : Cache) → IsCause (look addr len cache).answer
cause_is addr len cache = (looks addr len cache).cause

-- ---- what an outcome says

-- cache: the data cache before the try
abbrev pub Loads : Effect → Cache → LookUp → Type 0
Loads e cache found = (x : Access) × (e.access ≡ Some x) × (x.kind ≡ AccessKind.Load) × ((look x.addr x.len cache).answer ≡ found)

abbrev pub Says : Effect → Cache → Outcome → Type 0
Says e cache NotTried = ⊥
Says e cache NoText = e.access ≡ None
Says e cache (FetchMiss why) = leaves_instruction why ≡ false
Says e cache (BadRegister cell) = ⊤
Says e cache OrdinaryTrap = e.access ≡ None
Says e cache (LoadMiss why) = Loads e cache (Miss why) × (leaves_instruction why ≡ false)
Says e cache (LoadHit slot) = Loads e cache (Hit slot)
Says e cache Store = (x : Access) × (e.access ≡ Some x) × (x.kind ≡ AccessKind.Store)
Says e cache Atomic = (x : Access) × (e.access ≡ Some x) × (x.kind ≡ AccessKind.Atomic)
Says e cache (Barrier why) = (e.access ≡ None) × (e.barrier ≡ Some why)
Says e cache Other = e.access ≡ None

-- and the data cache keeps its shape
pub record Comes (e : Effect) (cache : Cache) (x : Attempt) : Type 0 where
  pub says : Says e cache x.outcome
  pub shape : x.arrays.data_cache.shape ≡ cache.shape

module _ (s : State) (e : Effect) (apart : IsApart s e) where
  loads : (a : Arrays) (x : Access) (found : LookUp) (cache : Cache) → e.access ≡ Some x → x.kind ≡ AccessKind.Load → (look x.addr x.len a.data_cache).answer ≡ found → IsCause found
      → cache.shape ≡ a.data_cache.shape → Comes e a.data_cache (load_attempt a (record { answer = found; cache = cache }))
  loads a x (Hit slot) cache access kind is cause shape = record { says = (x, access, kind, is); shape = shape }
  loads a x (Miss why) cache access kind is cause shape = record { says = ((x, access, kind, is), cause); shape = shape }

  accesses : (a : Arrays) (x : Access) (kind : AccessKind) → e.access ≡ Some x → x.kind ≡ kind → Comes e a.data_cache (access_attempt x a kind)
  accesses a x AccessKind.Load access kind =
      loads a x (look x.addr x.len a.data_cache).answer (look x.addr x.len a.data_cache).cache access kind refl (cause_is x.addr x.len a.data_cache) (look_shape x.addr x.len a.data_cache)
  accesses a x AccessKind.Store access kind = record { says = (x, access, kind); shape = refl }
  accesses a x AccessKind.Atomic access kind = record { says = (x, access, kind); shape = refl }

  barriers : (a : Arrays) (barrier : Option Why) → e.access ≡ None → e.barrier ≡ barrier → Comes e a.data_cache (barrier_attempt a barrier)
  barriers a None access is = record { says = access; shape = refl }
  barriers a (Some why) access is = record { says = (access, is); shape = refl }

  operates : (a : Arrays) (access : Option Access) → e.access ≡ access → Comes e a.data_cache (operation_attempt e a access)
  operates a None is = barriers a e.barrier is refl
  operates a (Some x) is = accesses a x x.kind is refl

  traps : (a : Arrays) (trap : Option ℕ) → e.trap ≡ trap → Comes e a.data_cache (trap_attempt e a trap)
  traps a None is = operates a e.access refl
  traps a (Some tt_) is = record { says = apart.trapped tt_ is; shape = refl }

  registers : (a : Arrays) (bad : Option ℕ) → Comes e a.data_cache (register_attempt e a bad)
  registers a None = traps a e.trap refl
  registers a (Some cell) = record { says = tt; shape = refl }

  fetches : (a : Arrays) (answer : LookUp) → IsCause answer → Comes e a.data_cache (fetch_attempt s e a answer)
  fetches a (Hit slot) cause = registers (record a { cells = (read_cells (cells_of s.ctl.cwp e.reads) a.cells).cells }) (read_cells (cells_of s.ctl.cwp e.reads) a.cells).bad
  fetches a (Miss why) cause = record { says = cause; shape = refl }

  comes_by : (image : Image) (a : Arrays) (is_text : Bool) → is_text_word image.text s.ctl.pc ≡ is_text → (is_text ≡ false → e.access ≡ None) → Comes e a.data_cache (attempt image s e a)
  unfolding attempt
  comes_by image a true is none = rw is (fetches (record a { fetch_cache = (look s.ctl.pc 4 a.fetch_cache).cache }) (look s.ctl.pc 4 a.fetch_cache).answer (cause_is s.ctl.pc 4 a.fetch_cache))
  comes_by image a false is none = rw is (record { says = none refl; shape = refl })

no_access : (setup : Setup) (core : ℕ) (s : State) → is_text_word setup.image.text s.ctl.pc ≡ false → (effect_at_pc setup core s).access ≡ None
unfolding effect_at_pc
no_access setup core s is = rw is refl

-- the try of the instruction at PC
pub comes : (setup : Setup) (core : ℕ) (s : State) (a : Arrays) → IsApart s (effect_at_pc setup core s)
    → Comes (effect_at_pc setup core s) a.data_cache (attempt setup.image s (effect_at_pc setup core s) a)
comes setup core s a apart = comes_by s (effect_at_pc setup core s) apart setup.image a (is_text_word setup.image.text s.ctl.pc) refl (no_access setup core s)
