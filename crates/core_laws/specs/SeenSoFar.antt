-- What a running core has seen of memory order: what its record will say of that (lf_model, `SeenOrder`), over the entries of the
-- log that it has seen and the stores that wait in its store buffer.
use Rattle.std.specs.Prelude.{ℕ, ◌≡◌, ◌≤◌, ◌<◌, ◌&&◌, false, nat_le, List, ◌++◌, length, map, filter, slice_index, slice_get, IfSome, if◌then◌else◌}
use Rattle.std.specs.List.{AllByRecursion}
use Rattle.lf_model.specs.Course.Core.{is_store}
use Rattle.lf_model.specs.Operation.{entry_reads, stores, is_lost, made}
use Rattle.lf_model.specs.Records.SeenOrder.{is_entry_of, LoadReads, AtomicReads, SeenAreEarlier, AtomicIsSeen}
use Rattle.lf_model.specs.declared.bus.Entry.{Entry}
use Rattle.lf_model.specs.declared.bus.OpKind.TheVariants.{Lost}
use Rattle.lf_model.specs.declared.trace.Op.{Op}

-- the operations of core c in program order, what it had seen as each of them retired, the entries of the log that it has seen, and
-- its stores that wait. entries: its own entries, and then the stores that wait, are its stores and atomics in program order
pub record HasSeenSoFar (initial : ℕ → ℕ) (c : ℕ) (ops : List Op) (seen : List ℕ) (log buffer : List Entry) : Type 0 where
  pub of_core : AllByRecursion (λ (o : Op). o.core ≡ c) ops
  pub numbered : (k : ℕ) → IfSome (slice_get ops k) (λ o. o.k ≡ k)
  pub one_each : length seen ≡ length ops
  pub rises : (i j : ℕ) → i ≤ j → j < length seen → slice_index seen i ≤ slice_index seen j
  pub in_log : (i : ℕ) → i < length seen → slice_index seen i ≤ length log
  pub loads : (k : ℕ) → k < length ops → LoadReads initial c ops seen log k
  pub atomics : (p : ℕ) → p < length log → AtomicReads initial c log p
  pub entries : filter (is_entry_of c) log ++ buffer ≡ map made (filter stores ops)
  pub earlier : (k : ℕ) → k < length ops → SeenAreEarlier c seen log k
  pub atomics_seen : (p : ℕ) → p < length log → AtomicIsSeen c seen log p
  pub stores_wait : AllByRecursion (λ e. entry_reads e ≡ false) buffer
  pub none_lost : AllByRecursion (λ o. is_lost o ≡ false) ops

-- ---- the stores that wait are lost

-- the operation, a store from number n on, is lost
abbrev pub lost_from : ℕ → Op → Op
lost_from n o = record o { kind = if is_store o && nat_le n o.k then Lost else o.kind }

-- the operations, of which the stores from number n on are lost
abbrev pub losing : ℕ → List Op → List Op
losing n ops = map (lost_from n) ops
