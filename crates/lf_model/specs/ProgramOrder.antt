-- The operations of a core in program order, as an order of memory numbers them, and what they read. Nothing here speaks of caches, store
-- buffers, check bits, flips or a bus.
use Rattle.std.specs.Prelude.{ℕ, List, map, filter, count_by, Option, find}
use Rattle.std.specs.List.{filter_map, range_with_len}
use Rattle.lf_model.specs.Operation.{of_core, reads}
use Rattle.lf_model.specs.Once.{is_number}
use Rattle.lf_model.specs.declared.trace.Op.{Op}

abbrev pub numbered : ℕ → List Op → ℕ → Option Op
numbered c order k = find (is_number c k) order

-- the operations of core c in program order: by their numbers 0, 1, 2 and so on
unfoldable pub program_order : ℕ → List Op → List Op
program_order c order = filter_map (numbered c order) (range_with_len 0 (count_by (of_core c) order))

abbrev pub got_of : Op → ℕ
got_of o = o.got

-- the numbers that these operations read, in their order
abbrev pub answers_of : List Op → List ℕ
answers_of ops = map got_of (filter reads ops)
