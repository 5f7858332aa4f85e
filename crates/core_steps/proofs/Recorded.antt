-- The operation that retires with an instruction: what the record says of its completion, how many stores it makes, and that the
-- number it read is the core's next answer.
use Rattle.std.proofs.Common.{◌≡◌, ◌∙◌, ◌+◌, ◌-◌, ◌++◌, ℕ, Bool, true, false, List, [], ◌∷◌, Option, Some, None, length, map, filter, slice_index, refl, sym, ap, subst, arith}
use Rattle.std.specs.Prelude.{⊤}
use Rattle.std.proofs.lemmas.List.{append-nil, length-append, get_or-append_right}
use Rattle.std.proofs.lemmas.List.{map-append}
use Rattle.std.proofs.lemmas.List.Elements.{filter-append}
use Rattle.core_laws.proofs.Completions.{all_reported, reported_more}
use Rattle.core_laws.proofs.ListLemmas.{count_append}
use Rattle.core_parts.specs.Completes.{op_of}
use Rattle.core_parts.specs.CoreValue.{CoreValue}
use Rattle.core_parts.specs.PortState.{answers}
use Rattle.core_steps.specs.Tries.{way_looked, op_by, ops_by, seen_here}
use Rattle.core_steps.proofs.Outcomes.{Says}
use Rattle.lf_model.specs.Caches.Cache.{Cache}
use Rattle.lf_model.specs.Caches.Look.{LookUp, look}
use Rattle.lf_model.specs.Caches.Look.LookUp.{Hit}
use Rattle.lf_model.specs.Course.Core.{is_store}
use Rattle.lf_model.specs.Course.LocalStep.{way_hit}
use Rattle.lf_model.specs.Course.Outcome.{Outcome, Need, drains, outcome_needs}
use Rattle.lf_model.specs.Course.Outcome.Need.{NoTurn, Turn, RegisterStop}
use Rattle.lf_model.specs.Course.Outcome.Outcome.{NotTried, NoText, FetchMiss, BadRegister, OrdinaryTrap, LoadMiss, LoadHit, Store, Atomic, Barrier, Other}
use Rattle.lf_model.specs.Course.Progress.{completed, stores_made}
use Rattle.lf_model.specs.Effect.{AccessKind, Access, Effect}
use Rattle.lf_model.specs.ProgramOrder.{answers_of}
use Rattle.lf_model.specs.Operation.{entry_reads, reads, made}
use Rattle.lf_model.specs.Run.{reads_of, answer_to}
use Rattle.lf_model.specs.Step.{looked}
use Rattle.lf_model.specs.Step.{answer_of as number_read}
use Rattle.lf_model.specs.declared.bus.OpKind.{OpKind}
use Rattle.lf_model.specs.declared.bus.OpKind.TheVariants as kinds
use Rattle.lf_model.specs.declared.bus.Why.{Why}
use Rattle.lf_model.specs.declared.config.Shape.{Shape}
use Rattle.lf_model.specs.declared.trace.Op.{Op}
use Rattle.parity_cache.specs.CacheState.{answer_of}

-- ---- the way that the course has, by the operation

abbrev pub RightKind : CoreValue → Cache → Outcome → Access → AccessKind → Type 0
RightKind v cache out x AccessKind.Load = way_hit cache out ≡ Some (way_looked ((answers v.ports).look x.addr x.len))
RightKind v cache out x AccessKind.Store = way_hit cache out ≡ None
RightKind v cache out x AccessKind.Atomic = ⊥

abbrev pub RightWay : CoreValue → Cache → Outcome → Option Access → Type 0
RightWay v cache out None = ⊤
RightWay v cache out (Some x) = RightKind v cache out x x.kind

no_turn : (waits : Bool) (why : Why) (need : Need) → (need ≡ NoTurn → ⊥) → drains waits why need ≡ NoTurn → ⊥
no_turn true why need other is = cc
no_turn false why need other is = other is

module _ (v : CoreValue) (e : Effect) (cache : Cache) (shape : cache.shape ≡ v.ports.data_cache.cache.shape) where
  none_way : (out : Outcome) (access : Option Access) → e.access ≡ access → e.access ≡ None → RightWay v cache out access
  none_way out None is none = tt
  none_way out (Some x) is none = absurd (some_not (sym none ∙ is))
    where
      some_not : ◌≡◌ {A = Option Access} None (Some x) → ⊥
      some_not eq = cc

  load_way : (slot : ℕ) (x : Access) (kind : AccessKind) → kind ≡ AccessKind.Load → (look x.addr x.len v.ports.data_cache.cache).answer ≡ Hit slot → RightKind v cache (LoadHit slot) x kind
  load_way slot x AccessKind.Load is hit =
      ap (λ (s : Shape). way_hit (record cache { shape = s }) (LoadHit slot)) shape
      ∙ sym (ap (λ (l : LookUp). Some (way_looked (answer_of x.addr x.len v.ports.data_cache l))) hit)
  load_way slot x AccessKind.Store is hit = absurd (other is)
    where
      other : AccessKind.Store ≡ AccessKind.Load → ⊥
      other eq = cc
  load_way slot x AccessKind.Atomic is hit = absurd (other is)
    where
      other : AccessKind.Atomic ≡ AccessKind.Load → ⊥
      other eq = cc

  store_way : (x : Access) (kind : AccessKind) → kind ≡ AccessKind.Store → RightKind v cache Store x kind
  store_way x AccessKind.Store is = refl
  store_way x AccessKind.Load is = absurd (other is)
    where
      other : AccessKind.Load ≡ AccessKind.Store → ⊥
      other eq = cc
  store_way x AccessKind.Atomic is = absurd (other is)
    where
      other : AccessKind.Atomic ≡ AccessKind.Store → ⊥
      other eq = cc

  of_some : (out : Outcome) (x : Access) (access : Option Access) → e.access ≡ access → e.access ≡ Some x → RightKind v cache out x x.kind → RightWay v cache out access
  of_some out x None is some right = tt
  of_some out x (Some y) is some right = let same : x ≡ y = cc in subst (λ (z : Access). RightKind v cache out z z.kind) same right

  turn_other : (kind : _) (why : Why) → Turn kind why ≡ NoTurn → ⊥
  turn_other kind why is = cc

  stop_other : (cell : ℕ) → RegisterStop cell ≡ NoTurn → ⊥
  stop_other cell is = cc

  pub right_way : (et waits full : Bool) (out : Outcome) → Says e v.ports.data_cache.cache out → outcome_needs et waits full out ≡ NoTurn → RightWay v cache out e.access
  right_way et waits full NotTried says none = absurd says
  right_way et waits full NoText says none = none_way NoText e.access refl says
  right_way et waits full (FetchMiss why) says none = absurd (no_turn waits _ (Turn _ why) (turn_other _ why) none)
  right_way et waits full (BadRegister cell) says none = absurd (no_turn waits _ (RegisterStop cell) (stop_other cell) none)
  right_way et waits full OrdinaryTrap says none = none_way OrdinaryTrap e.access refl says
  right_way et waits full (LoadMiss why) says none = absurd (no_turn waits _ (Turn _ why) (turn_other _ why) none)
  right_way et waits full (LoadHit slot) says none = of_some (LoadHit slot) says.0 e.access refl says.1 (load_way slot says.0 says.0.kind says.2 says.3)
  right_way et waits full Store says none = of_some Store says.0 e.access refl says.1 (store_way says.0 says.0.kind says.2)
  right_way et waits full Atomic says none = absurd (no_turn waits _ (Turn _ _) (turn_other _ _) none)
  right_way et waits full (Barrier why) says none = none_way (Barrier why) e.access refl says.0
  right_way et waits full Other says none = none_way Other e.access refl says

-- ---- the numbers that were read

read_one : (ops : List Op) (o : Op) (kind : OpKind) → o.kind ≡ kind → reads_of (map made ops) ≡ length (answers_of ops) → reads_of (map made (o ∷ ops)) ≡ length (answers_of (o ∷ ops))
read_one ops o kinds.Load is later = count_append entry_reads (made o ∷ []) (map made ops) ∙ rw is (omega (arith, later))
read_one ops o kinds.Store is later = count_append entry_reads (made o ∷ []) (map made ops) ∙ rw is (omega (arith, later))
read_one ops o kinds.Atomic is later = count_append entry_reads (made o ∷ []) (map made ops) ∙ rw is (omega (arith, later))
read_one ops o kinds.Lost is later = count_append entry_reads (made o ∷ []) (map made ops) ∙ rw is (omega (arith, later))

read_count : (ops : List Op) → reads_of (map made ops) ≡ length (answers_of ops)
read_count [] = refl
read_count (o ∷ ops) = read_one ops o o.kind refl (read_count ops)

-- the next answer
next_answer : (ops : List Op) (o : Op) → reads o ≡ true → slice_index (answers_of (ops ++ o ∷ [])) (reads_of (map made ops)) ≡ o.got
next_answer ops o is =
    let n = reads_of (map made ops) in
    let more : answers_of (ops ++ o ∷ []) ≡ answers_of ops ++ o.got ∷ [] = rw (filter-append reads ops (o ∷ []), is, map-append) refl in
    let none : n - n ≡ 0 = omega arith in
    ap (λ (l : List ℕ). slice_index l n) more
    ∙ (get_or-append_right (answers_of ops) (o.got ∷ []) n n 0 (sym (read_count ops)) (omega arith)
    ∙ ap (λ (i : ℕ). slice_index (o.got ∷ []) i) none)

-- ---- what the record says of it

module _ (v : CoreValue) (cache : Cache) (out : Outcome) where
  completed_kind : (x : Access) (kind : AccessKind) → x.kind ≡ kind → RightKind v cache out x kind → length v.seen_by ≡ length v.ops
      → all_reported (v.ops ++ op_by v x kind) (v.seen_by ++ seen_here v (op_by v x kind)) ≡ all_reported v.ops v.seen_by ++ completed v.steps (way_hit cache out) v.log_seen (Some x)
  completed_kind x AccessKind.Load is right same =
      let found = (answers v.ports).look x.addr x.len in
      reported_more v.ops v.seen_by (op_of v x (looked found) (way_looked found)) v.log_seen same ∙ rw (is, right) refl
  completed_kind x AccessKind.Store is right same = reported_more v.ops v.seen_by (op_of v x 0 0) v.log_seen same ∙ rw (is, right) refl
  completed_kind x AccessKind.Atomic is right same = absurd right

  pub completed_is : (access : Option Access) → RightWay v cache out access → length v.seen_by ≡ length v.ops
      → all_reported (v.ops ++ ops_by v access) (v.seen_by ++ seen_here v (ops_by v access)) ≡ all_reported v.ops v.seen_by ++ completed v.steps (way_hit cache out) v.log_seen access
  completed_is None right same = rw (append-nil v.ops, append-nil v.seen_by) (sym (append-nil (all_reported v.ops v.seen_by)))
  completed_is (Some x) right same = completed_kind x x.kind refl right same

  stored_kind : (x : Access) (kind : AccessKind) → x.kind ≡ kind → RightKind v cache out x kind
      → length (filter is_store (v.ops ++ op_by v x kind)) ≡ length (filter is_store v.ops) + stores_made (Some x)
  stored_kind x AccessKind.Load is right = rw (filter-append is_store v.ops (op_by v x AccessKind.Load), length-append, is) refl
  stored_kind x AccessKind.Store is right = rw (filter-append is_store v.ops (op_by v x AccessKind.Store), length-append, is) refl
  stored_kind x AccessKind.Atomic is right = absurd right

  pub stored_is : (access : Option Access) → RightWay v cache out access → length (filter is_store (v.ops ++ ops_by v access)) ≡ length (filter is_store v.ops) + stores_made access
  stored_is None right = rw (append-nil v.ops) (omega arith)
  stored_is (Some x) right = stored_kind x x.kind refl right

  -- ---- the number that it read

  read_kind : (x : Access) (kind : AccessKind) → x.kind ≡ kind → RightKind v cache out x kind
      → answer_to (answers_of (v.ops ++ op_by v x kind)) (map made v.ops) (Some x) ≡ number_read (answers v.ports) (Some x)
  read_kind x AccessKind.Load is right =
      let found = (answers v.ports).look x.addr x.len in
      rw is (next_answer v.ops (record (op_of v x (looked found) (way_looked found)) { kind = kinds.Load }) refl)
  read_kind x AccessKind.Store is right = rw is refl
  read_kind x AccessKind.Atomic is right = absurd right

  pub answer_is : (access : Option Access) → RightWay v cache out access → answer_to (answers_of (v.ops ++ ops_by v access)) (map made v.ops) access ≡ number_read (answers v.ports) access
  answer_is None right = refl
  answer_is (Some x) right = read_kind x x.kind refl right
