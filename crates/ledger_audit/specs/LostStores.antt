-- The lost stores of a core, and its stores before them, as they are counted along an order from its end.
use Rattle.std.specs.Prelude.{ℕ, ◌≡◌, ◌+◌, ◌<◌, ◌&&◌, nat_lt, Bool, true, false, List, [], ◌∷◌, Option, Some, None, min, max, slice_index_or, if◌then◌else◌}
use Rattle.std.specs.Int.{from_bool}
use Rattle.lf_model.specs.Operation.{of_core, is_lost}
use Rattle.lf_model.specs.declared.bus.OpKind.{OpKind}
use Rattle.lf_model.specs.declared.bus.OpKind.TheVariants.{Load, Store, Atomic, Lost}
use Rattle.lf_model.specs.declared.trace.Op.{Op}
use Rattle.ledger_audit.specs.declared.lost.Before.{Before}
use Rattle.ledger_audit.specs.declared.lost.Lost.{Lost as Stores}
use Rattle.ledger_audit.specs.declared.lost.LostStores.{LostStores}

-- a store that reached memory
abbrev pub kind_is_kept : OpKind → Bool
kind_is_kept Load = false
kind_is_kept Store = true
kind_is_kept Atomic = false
kind_is_kept Lost = false

abbrev pub is_kept : Op → Bool
is_kept o = kind_is_kept o.kind

-- the lost stores of a core with this one, by its number
abbrev pub lost_with : Option Stores → ℕ → Stores
lost_with None k = record { count = 1; first = k; last = k }
lost_with (Some l) k = record { count = l.count + 1; first = min l.first k; last = max l.last k }

-- those of core c among these operations
abbrev pub lost_of : ℕ → List Op → Option Stores
lost_of c [] = None
lost_of c (o ∷ os) = if of_core c o && is_lost o then Some (lost_with (lost_of c os) o.k) else lost_of c os

abbrev pub none_before : Before
none_before = record { first = 0; last = 0 }

-- with a store that has this number, if it comes before the first or the last of the lost stores
abbrev pub before_with : Option Stores → ℕ → Before → Before
before_with None k b = b
before_with (Some l) k b = record { first = b.first + from_bool (nat_lt k l.first); last = b.last + from_bool (nat_lt k l.last) }

-- the stores of core c among these operations that reached memory
abbrev pub before_of : ℕ → Option Stores → List Op → Before
before_of c lost [] = none_before
before_of c lost (o ∷ os) = if of_core c o && is_kept o then before_with lost o.k (before_of c lost os) else before_of c lost os

-- of each core, by all operations
pub record TellsLost (order : List Op) (s : LostStores) : Type 0 where
  pub lost : (c : ℕ) → c < 8 → slice_index_or s.lost c None ≡ lost_of c order
  pub before : (c : ℕ) → c < 8 → slice_index_or s.before c none_before ≡ before_of c (lost_of c order) order
