-- How far the loads of each core are placed, as the order is made entry by entry.
use Rattle.std.specs.Prelude.{ℕ, ◌≡◌, ◌≤◌, ◌<◌, List, length, IfSome, IsSomeAnd, slice_get, slice_index}
use Rattle.lf_model.specs.declared.bus.Entry.{Entry}
use Rattle.lf_model.specs.declared.record.CoreRecord.{CoreRecord}

-- what the order is read from: operation k has number k, and each has what its core had seen, which never falls
pub record IsReadable (kept : CoreRecord) : Type 0 where
  pub numbered : (k : ℕ) → IfSome (slice_get kept.ops k) (λ o. o.k ≡ k)
  pub one_each : length kept.seen ≡ length kept.ops
  pub rises : (i j : ℕ) → i ≤ j → j < length kept.seen → slice_index kept.seen i ≤ slice_index kept.seen j

abbrev pub AreReadable : List CoreRecord → Type 0
AreReadable records = (c : ℕ) → IfSome (slice_get records c) IsReadable

-- the operations before this one had seen fewer entries, and it and those after it had not
pub record IsCursor (seen : ℕ) (kept : CoreRecord) (next : ℕ) : Type 0 where
  pub within : next ≤ length kept.ops
  pub before : (i : ℕ) → i < next → slice_index kept.seen i < seen
  pub after : (i : ℕ) → next ≤ i → i < length kept.ops → seen ≤ slice_index kept.seen i

abbrev pub AreCursors : ℕ → List CoreRecord → List ℕ → Type 0
AreCursors seen records cursors = (c : ℕ) → IfSome (slice_get records c) (λ kept. IsCursor seen kept (slice_index cursors c))

-- the entry at this place of the log is an operation of a core
abbrev pub IsListed : List CoreRecord → List Entry → ℕ → Type 0
IsListed records log place = IfSome (slice_get log place) (λ e. IsSomeAnd (slice_get records e.core) (λ kept. e.k < length kept.ops))
