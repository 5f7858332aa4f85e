-- The one order in which the operations of all cores stand: each store and atomic by its entry of the log, each load after the
-- last entry that its core had seen, and the lost stores last.
use Rattle.std.specs.Prelude.{ℕ, ◌+◌, ◌==◌, ◌&&◌, ◌++◌, Bool, List, [], ◌∷◌, filter, map, slice_get, slice_index, slice_index_or}
use Rattle.std.specs.Option.{option_map_or}
use Rattle.lf_model.specs.Operation.{is_lost}
use Rattle.lf_model.specs.Records.SeenOrder.{is_load}
use Rattle.lf_model.specs.declared.bus.Entry.{Entry}
use Rattle.lf_model.specs.declared.bus.OpKind.TheVariants as ops
use Rattle.lf_model.specs.declared.record.CoreRecord.{CoreRecord}
use Rattle.lf_model.specs.declared.trace.Op.{Op}

-- the operations that pass a test, core by core, each core's in program order
abbrev pub chosen : (CoreRecord → Op → Bool) → List CoreRecord → List Op
chosen test [] = []
chosen test (kept ∷ records) = filter (test kept) kept.ops ++ chosen test records

-- ---- the places of the operations

-- a load whose core had seen just so many entries as it retired
abbrev pub is_load_at : ℕ → CoreRecord → Op → Bool
is_load_at seen kept o = is_load o && slice_index kept.seen o.k == seen

abbrev pub loads_at : List CoreRecord → ℕ → List Op
loads_at records seen = chosen (is_load_at seen) records

abbrev pub is_lost_in : CoreRecord → Op → Bool
is_lost_in kept o = is_lost o

-- no operation, which no entry of a right log names
abbrev pub no_operation : Op
no_operation = record { got = 0; put = 0; core = 0; k = 0; step = 0; addr = 0; kind = ops.Load; len = 0; way = 0 }

abbrev pub ops_of : List CoreRecord → ℕ → List Op
ops_of records core = option_map_or (λ (kept : CoreRecord). kept.ops) (slice_get records core) []

-- the operation of an entry, by its core and its number there
abbrev pub operation_of : List CoreRecord → Entry → Op
operation_of records e = slice_index_or (ops_of records e.core) e.k no_operation

-- ---- the order

-- before each of these those of its place, and after the last one those of the place after it
abbrev pub woven : {X : Type 0} → (ℕ → List X) → ℕ → List X → List X
woven at place [] = at place
woven at place (x ∷ xs) = at place ++ x ∷ woven at (place + 1) xs

abbrev pub order_of : List CoreRecord → List Entry → List Op
order_of records log = woven (loads_at records) 0 (map (operation_of records) log) ++ chosen is_lost_in records
