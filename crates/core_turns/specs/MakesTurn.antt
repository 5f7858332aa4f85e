-- What a turn makes of the core, of the bus and of memory.
use Rattle.std.specs.Prelude.{ℕ, List, [], ◌∷◌}
use Rattle.ahb_bus.specs.BusState.{BusState, memory_of, part_of, after_turn, stored_by, exchanged_by}
use Rattle.ahb_bus.specs.declared.record.Who.{Who}
use Rattle.bus_memory.specs.MemoryState.{line_shown, value_at}
use Rattle.core_parts.specs.CoreValue.{CoreValue}
use Rattle.core_parts.specs.Losing.{first_number}
use Rattle.lf_model.specs.Bus.Words.{word_of}
use Rattle.lf_model.specs.declared.bus.Pending.{Pending}
use Rattle.lf_model.specs.declared.bus.Why.{Why}
use Rattle.lf_model.specs.declared.step.Turn.{Turn}
use Rattle.lf_model.specs.declared.step.Turn.TheVariants.{Fetch, Load, Atomic, Drain, Snoop}
use Rattle.core_turns.specs.AfterTurn.{snooping, transferred}
use Rattle.core_turns.specs.AskedTurn.{who_of, asked_for, transfer_of}

-- ---- what memory answers

-- the words of the line that a fill reads, 0 for a bad one
abbrev pub words_at : BusState → ℕ → List ℕ
words_at bus line = (line_shown (memory_of bus) line).words

-- the number that an atomic reads
abbrev pub number_read : BusState → Turn → ℕ
number_read bus (Atomic addr len new rd) = part_of (value_at (memory_of bus) (word_of addr)) addr len
number_read bus (Fetch line why) = 0
number_read bus (Load addr len why) = 0
number_read bus (Drain why) = 0
number_read bus Snoop = 0

-- ---- the core

-- its transfer is made
abbrev pub transferred_by : BusState → Turn → List Pending → CoreValue → CoreValue
transferred_by bus turn pending v = let t = transfer_of v bus turn in transferred t (words_at bus t.addr) (number_read bus turn) (first_number pending) turn v

-- the core catches up with the log, and its transfer is made
abbrev pub core_after : BusState → Turn → List Pending → CoreValue → CoreValue
core_after bus turn pending v = transferred_by bus turn pending (snooping bus.log v)

-- ---- the bus

-- an atomic as it is asked for: the core's next operation
abbrev pub next_atomic : ℕ → ℕ → ℕ → CoreValue → Pending
next_atomic addr len new v = record { value = new; addr = addr; k = v.arch.k; step = v.steps; len = len }

-- the drain of the first of these stores
abbrev pub drained_by : BusState → Who → Why → List Pending → BusState
drained_by bus who why [] = bus
drained_by bus who why (p ∷ ps) = stored_by who why p bus

abbrev pub bus_by : BusState → Turn → List Pending → CoreValue → BusState
bus_by bus (Fetch line why) pending v = after_turn (asked_for v bus (Fetch line why)) [] bus.values bus
bus_by bus (Load addr len why) pending v = after_turn (asked_for v bus (Load addr len why)) [] bus.values bus
bus_by bus (Atomic addr len new rd) pending v = exchanged_by (who_of v) (next_atomic addr len new v) bus
bus_by bus (Drain why) pending v = drained_by bus (who_of v) why pending
bus_by bus Snoop pending v = after_turn (asked_for v bus Snoop) [] bus.values bus

abbrev pub bus_after : BusState → Turn → List Pending → CoreValue → BusState
bus_after bus turn pending v = bus_by bus turn pending (snooping bus.log v)
