-- The entries of the log against the stores and atomics of a memory order.
use Rattle.std.specs.Prelude.{◌≡◌, ◌+◌, ℕ, true, List, [], Some, slice_get, if◌then◌else◌}
use Rattle.lf_model.specs.Bus.Replay.{LogEntry}
use Rattle.lf_model.specs.Ledger.OrderAccount.{Before}
use Rattle.lf_model.specs.Operation.{enters}
use Rattle.lf_model.specs.declared.trace.Op.{Op}

-- the entry of a store or an atomic
abbrev pub entry_of : Op → LogEntry
entry_of o = record { core = o.core; number = o.k }

-- after so many entries; what else came is not looked at
abbrev pub after_entries : ℕ → Before
after_entries n = record { entries = n; loads = []; lost = [] }

-- entry number n of the log is of the operation, if that has one, and then comes this one
pub record HasEntry (log : List LogEntry) (n : ℕ) (o : Op) (next : ℕ) : Type 0 where
  pub next_is : next ≡ (if enters o then n + 1 else n)
  pub here : enters o ≡ true → slice_get log n ≡ Some (entry_of o)

pub record HasOther (log : List LogEntry) (n : ℕ) (o : Op) : Type 0 where
  pub has : enters o ≡ true
  pub other : slice_get log n ≡ Some (entry_of o) → ⊥
