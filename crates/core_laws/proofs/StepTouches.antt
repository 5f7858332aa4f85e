-- The arrays of a core after a step are those after its touches, one after the other.
use Rattle.std.proofs.Common.{◌≡◌, ◌∙◌, ℕ, Bool, true, false, List, [], ◌∷◌, Option, Some, None, fold, map, refl, ap, sym, if◌then◌else◌}
use Rattle.std.proofs.lemmas.List.Sums.{fold-append}
use Rattle.core_laws.specs.StepTouches.{access_looks, operation_looks, trap_looks, register_looks, cell_touches, fetched_touches, attempt_touches, step_touches, tried_touches, touches_before, exchange_touches, transfer_touches, turn_touches}
use Rattle.lf_model.proofs.TouchLemmas.{read, retire}
use Rattle.lf_model.specs.Caches.Change.{snooped}
use Rattle.lf_model.specs.Caches.Look.{LookUp, look}
use Rattle.lf_model.specs.Caches.Look.LookUp.{Hit, Miss}
use Rattle.lf_model.specs.Course.Arrays.{Arrays, begun, cells_of, read_cells}
use Rattle.lf_model.specs.Course.Attempt.{access_attempt, operation_attempt, trap_attempt, register_attempt, read_attempt, fetch_attempt, attempt, barrier_attempt}
use Rattle.lf_model.specs.Course.Core.{Ground}
use Rattle.lf_model.specs.Course.LocalStep.{retired_arrays, is_last_stop, local_step}
use Rattle.lf_model.specs.Course.Progress.{Progress}
use Rattle.lf_model.specs.Course.Syndromes.{has_address, enters_log}
use Rattle.lf_model.specs.Course.Touches.{touched, read_touches, retire_touches}
use Rattle.lf_model.specs.Course.Turn.{is_past_steps, leaves_instruction, turn_attempt, caught_up, arrays_before}
use Rattle.lf_model.specs.Course.Turned.{transferred, exchanged, own_turn}
use Rattle.lf_model.specs.Effect.{AccessKind, Access, Effect}
use Rattle.lf_model.specs.Run.{effect_at_pc}
use Rattle.lf_model.specs.Start.{is_text_word}
use Rattle.lf_model.specs.State.{State}
use Rattle.lf_model.specs.declared.bus.Transfer.{Transfer}
use Rattle.lf_model.specs.declared.bus.TurnKind.{TurnKind}
use Rattle.lf_model.specs.declared.bus.TurnKind.TheVariants.{Fetch, Load, Store, Atomic, Snoop, Look, Fix}
use Rattle.lf_model.specs.declared.bus.Why.{Why}
use Rattle.lf_model.specs.declared.flip.Flip.{Flip}
use Rattle.lf_model.specs.declared.image.Image.{Image}
use Rattle.lf_model.specs.declared.touch.Touch.{Touch}
use Rattle.lf_model.specs.declared.touch.Touch.TheVariants.{StartStep, SnoopData}

module _ (flips : List (ℕ × Flip)) where
  abbrev after : Arrays → List Touch → Arrays
  after a touches = fold (touched flips) a touches

  -- ---- an instruction is tried

  looked : (x : Access) (kind : AccessKind) (a : Arrays) → after a (access_looks x kind) ≡ (access_attempt x a kind).arrays
  looked x AccessKind.Load a = refl
  looked x AccessKind.Store a = refl
  looked x AccessKind.Atomic a = refl

  at_barrier : (barrier : Option Why) (a : Arrays) → a ≡ (barrier_attempt a barrier).arrays
  at_barrier None a = refl
  at_barrier (Some why) a = refl

  operated : (e : Effect) (x : Option Access) (a : Arrays) → after a (operation_looks x) ≡ (operation_attempt e a x).arrays
  operated e None a = at_barrier e.barrier a
  operated e (Some x) a = looked x x.kind a

  trapped : (e : Effect) (trap : Option ℕ) (a : Arrays) → after a (trap_looks e trap) ≡ (trap_attempt e a trap).arrays
  trapped e None a = operated e e.access a
  trapped e (Some tt_) a = refl

  registered : (e : Effect) (bad : Option ℕ) (a : Arrays) → after a (register_looks e bad) ≡ (register_attempt e a bad).arrays
  registered e None a = trapped e e.trap a
  registered e (Some cell) a = refl

  -- once its word is fetched
  pub cells_then_load : (e : Effect) (cells : List ℕ) (a : Arrays) → after a (cell_touches e cells a) ≡ (read_attempt e a (read_cells cells a.cells)).arrays
  cells_then_load e cells a =
      fold-append (touched flips) a (read_touches cells a.cells) (register_looks e (read_cells cells a.cells).bad)
      ∙ (ap (λ b. after b (register_looks e (read_cells cells a.cells).bad)) (read flips cells a)
      ∙ registered e (read_cells cells a.cells).bad (record a { cells = (read_cells cells a.cells).cells }))

  fetched : (s : State) (e : Effect) (answer : LookUp) (a : Arrays) → after a (fetched_touches s e a answer) ≡ (fetch_attempt s e a answer).arrays
  fetched s e (Miss why) a = refl
  fetched s e (Hit slot) a = cells_then_load e (cells_of s.ctl.cwp e.reads) a

  tried_by : (image : Image) (s : State) (e : Effect) (a : Arrays) (is_text : Bool) → is_text_word image.text s.ctl.pc ≡ is_text
      → after a (attempt_touches image s e a) ≡ (attempt image s e a).arrays
  unfolding attempt
  tried_by image s e a true is = rw is (fetched s e (look s.ctl.pc 4 a.fetch_cache).answer (record a { fetch_cache = (look s.ctl.pc 4 a.fetch_cache).cache }))
  tried_by image s e a false is = rw is refl

  pub tried : (image : Image) (s : State) (e : Effect) (a : Arrays) → after a (attempt_touches image s e a) ≡ (attempt image s e a).arrays
  tried image s e a = tried_by image s e a (is_text_word image.text s.ctl.pc) refl

  -- ---- a turn

  snoops : (addrs : List ℕ) (a : Arrays) → after a (map SnoopData addrs) ≡ caught_up addrs a
  snoops [] a = refl
  snoops (addr ∷ addrs) a = snoops addrs (record a { data_cache = snooped a.data_cache addr })

  exchange : (e : Effect) (t : Transfer) (a : Arrays) (enters : Bool) → enters_log t ≡ enters → after a (exchange_touches e t) ≡ exchanged e t a
  exchange e t a true is = rw is (retire flips (record e { access = None; barrier = None }) (record a { data_cache = snooped a.data_cache t.addr }))
  exchange e t a false is = rw is refl

  transfer : (image : Image) (e : Effect) (t : Transfer) (a : Arrays) (kind : TurnKind) → after a (transfer_touches image e t kind) ≡ transferred image e t a kind
  transfer image e t a Fetch = refl
  transfer image e t a Load = refl
  transfer image e t a Store = refl
  transfer image e t a Atomic = exchange e t a (enters_log t) refl
  transfer image e t a Snoop = refl
  transfer image e t a Look = refl
  transfer image e t a Fix = refl

module _ (g : Ground) where
  abbrev made_of : Arrays → List Touch → Arrays
  made_of a touches = fold (touched g.flips) a touches

  abbrev beginning : Progress → Arrays
  beginning k = begun g.flips k.steps k.arrays

  -- ---- a local step

  stepped : (e : Effect) (k : Progress) → made_of k.arrays (step_touches g e k) ≡ retired_arrays e (attempt g.setup.image k.run.state e (beginning k)).arrays
  stepped e k =
      fold-append (touched g.flips) (beginning k) (attempt_touches g.setup.image k.run.state e (beginning k)) (retire_touches e)
      ∙ (ap (λ a. made_of a (retire_touches e)) (tried g.flips g.setup.image k.run.state e (beginning k))
      ∙ retire g.flips e (attempt g.setup.image k.run.state e (beginning k)).arrays)

  -- the arrays after a step that retires an instruction
  pub local_step_touches : (k : Progress) → is_last_stop g k.steps ≡ false
      → (local_step g k).arrays ≡ made_of k.arrays (step_touches g (effect_at_pc g.setup g.core k.run.state) k)
  unfolding local_step
  local_step_touches k not_last = rw not_last (sym (stepped (effect_at_pc g.setup g.core k.run.state) k))

  -- ---- a turn

  tried_before : (why : Why) (e : Effect) (k : Progress) (past leaves : Bool) → is_past_steps g k ≡ past → leaves_instruction why ≡ leaves
      → made_of k.arrays (if is_past_steps g k then [] else StartStep k.steps ∷ tried_touches g why e k) ≡ (turn_attempt g why e k).arrays
  tried_before why e k true leaves is is' = rw is refl
  tried_before why e k false true is is' = rw (is, is') refl
  tried_before why e k false false is is' = rw (is, is') (tried g.flips g.setup.image k.run.state e (beginning k))

  -- the arrays as its transfer begins
  pub before_transfer : (why : Why) (e : Effect) (k : Progress) → made_of k.arrays (touches_before g why e k) ≡ arrays_before g why e k
  before_transfer why e k =
      fold-append (touched g.flips) k.arrays (if is_past_steps g k then [] else StartStep k.steps ∷ tried_touches g why e k) (map SnoopData k.unseen)
      ∙ (ap (λ a. made_of a (map SnoopData k.unseen)) (tried_before why e k (is_past_steps g k) (leaves_instruction why) refl refl)
      ∙ snoops g.flips k.unseen (turn_attempt g why e k).arrays)

  ending : (e : Effect) (t : Transfer) (k : Progress) (has : Bool) → has_address t ≡ has → (a : Arrays)
      → made_of a (if has_address t then transfer_touches g.setup.image e t t.kind else []) ≡ (if has_address t then transferred g.setup.image e t a t.kind else a)
  ending e t k true is a = rw is (transfer g.flips g.setup.image e t a t.kind)
  ending e t k false is a = rw is refl

  -- and after its turn
  pub own_turn_touches : (t : Transfer) (k : Progress) → (own_turn g t k).arrays ≡ made_of k.arrays (turn_touches g (effect_at_pc g.setup g.core k.run.state) t k)
  unfolding own_turn
  own_turn_touches t k =
      let e = effect_at_pc g.setup g.core k.run.state in
      sym (fold-append (touched g.flips) k.arrays (touches_before g t.why e k) (if has_address t then transfer_touches g.setup.image e t t.kind else [])
      ∙ (ap (λ a. made_of a (if has_address t then transfer_touches g.setup.image e t t.kind else [])) (before_transfer t.why e k)
      ∙ ending e t k (has_address t) refl (arrays_before g t.why e k)))
