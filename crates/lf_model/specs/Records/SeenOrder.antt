-- What a core saw of memory order as its operations retired: its loads read what the entries of the log that it had seen, and
-- its own waiting stores, left in memory; its atomics read what all earlier entries left (after SPARC V8, appendix K, formal
-- specification of the memory model).
use Rattle.std.specs.Prelude.{ℕ, ◌≡◌, ◌≤◌, ◌<◌, ◌==◌, Bool, true, false, List, ◌++◌, length, map, filter, count_by, take, drop, slice_index, slice_get, IfSome}
use Rattle.std.specs.List.{AllByRecursion}
use Rattle.lf_model.specs.Operation.{kind_reads, enters, stores, is_lost, made}
use Rattle.lf_model.specs.Value.{Reads}
use Rattle.lf_model.specs.declared.bus.Entry.{Entry}
use Rattle.lf_model.specs.declared.bus.OpKind.{OpKind}
use Rattle.lf_model.specs.declared.bus.OpKind.TheVariants.{Load, Store, Atomic, Lost}
use Rattle.lf_model.specs.declared.trace.Op.{Op}

abbrev pub is_load_kind : OpKind → Bool
is_load_kind Load = true
is_load_kind Store = false
is_load_kind Atomic = false
is_load_kind Lost = false

abbrev pub is_load : Op → Bool
is_load o = is_load_kind o.kind

-- an entry of the log that is core c's
abbrev pub is_entry_of : ℕ → Entry → Bool
is_entry_of c e = e.core == c

-- the entries of the log that the core had seen as operation k retired
abbrev pub front : List Entry → List ℕ → ℕ → List Entry
front log seen k = take (slice_index seen k) log

-- its own stores before operation k that aren't among these entries: those that waited
abbrev pub waiting : ℕ → List Op → ℕ → List Entry → List Entry
waiting c ops k seen_entries = map made (drop (count_by (is_entry_of c) seen_entries) (filter stores (take k ops)))

-- operation k, if it is a load, reads the entries seen with the waiting stores after them
abbrev pub LoadReads : (ℕ → ℕ) → ℕ → List Op → List ℕ → List Entry → ℕ → Type 0
LoadReads initial c ops seen log k = IfSome (slice_get ops k) (λ o. is_load o ≡ true
    → Reads initial (made o) (front log seen k ++ waiting c ops k (front log seen k)))

-- entry p of the log, if it is an atomic of core c, reads the entries before it
abbrev pub AtomicReads : (ℕ → ℕ) → ℕ → List Entry → ℕ → Type 0
AtomicReads initial c log p = IfSome (slice_get log p) (λ e. e.core ≡ c → kind_reads e.kind ≡ true → Reads initial e (take p log))

-- the entries of core c that it had seen as operation k retired are of no later operations
abbrev pub SeenAreEarlier : ℕ → List ℕ → List Entry → ℕ → Type 0
SeenAreEarlier c seen log k = AllByRecursion (λ e. e.core ≡ c → e.k ≤ k) (front log seen k)

-- as an atomic retired its core had seen its entry
abbrev pub AtomicIsSeen : ℕ → List ℕ → List Entry → ℕ → Type 0
AtomicIsSeen c seen log p = IfSome (slice_get log p) (λ e. e.core ≡ c → kind_reads e.kind ≡ true → p < slice_index seen e.k)

-- a lost store comes after all operations that reached memory
abbrev pub LostIsLast : List Op → Op → Type 0
LostIsLast ops x = is_lost x ≡ true → AllByRecursion (λ o. enters o ≡ true → o.k < x.k) ops

-- the operations of core c in program order, what it had seen as each of them retired, and the log
pub record HasSeen (initial : ℕ → ℕ) (c : ℕ) (ops : List Op) (seen : List ℕ) (log : List Entry) : Type 0 where
  pub of_core : AllByRecursion (λ (o : Op). o.core ≡ c) ops
  pub numbered : (k : ℕ) → IfSome (slice_get ops k) (λ o. o.k ≡ k)
  pub one_each : length seen ≡ length ops
  pub rises : (i j : ℕ) → i ≤ j → j < length seen → slice_index seen i ≤ slice_index seen j
  pub in_log : (i : ℕ) → i < length seen → slice_index seen i ≤ length log
  pub loads : (k : ℕ) → k < length ops → LoadReads initial c ops seen log k
  pub atomics : (p : ℕ) → p < length log → AtomicReads initial c log p
  pub entries : filter (is_entry_of c) log ≡ map made (filter enters ops)
  pub earlier : (k : ℕ) → k < length ops → SeenAreEarlier c seen log k
  pub atomics_seen : (p : ℕ) → p < length log → AtomicIsSeen c seen log p
  pub lost_last : AllByRecursion (LostIsLast ops) ops
