-- The objects that live in memory, as their clauses see them.
use Rattle.std.specs.Prelude.{ℕ, ◌-◌, ◌≤◌, min, List, ◌++◌, length, take, drop, Contains, string_bytes}
use Rattle.std.specs.Ordering.{nat_cmp}
use Rattle.std.specs.Cmp.Lexicographic.{slice_cmp}
use Rattle.std.specs.FinMap as map
use Rattle.std.specs.Prelude.{Vec, String}
use Rattle.std.specs.declared.alloc.Global.{Global}
use Rattle.lf_io.specs.Count.{next_count}

-- files by the bytes of their names
abbrev pub Stored : Type 0
Stored = map.FinMap (slice_cmp nat_cmp) (List ℕ)

-- an entry of the map in the code, as its name and its bytes
abbrev pub shown_file : String Global × Vec ℕ Global → List ℕ × List ℕ
shown_file entry = (string_bytes entry.0, entry.1.items)

-- the calls of an object: how many came, the numbers of those that are to fail (the first call is 1), and how many were faults
pub record Calls : Type 0 where
  pub made : ℕ
  pub failing : List ℕ
  pub faults : ℕ

-- no call came yet
abbrev pub no_calls : List ℕ → Calls
no_calls failing = record { made = 0; failing = failing; faults = 0 }

-- the next call is one that is to fail
abbrev pub IsNextFailing : Calls → Type 0
IsNextFailing calls = Contains calls.failing (next_count calls.made)

-- one more call came, which was no fault
abbrev pub after_call : Calls → Calls
after_call calls = record calls { made = next_count calls.made }

-- one more call came, which was a fault
abbrev pub after_fault : Calls → Calls
after_fault calls = record calls { made = next_count calls.made; faults = next_count calls.faults }

-- files in memory, and the calls that read them
pub record MemoryFiles : Type 0 where
  pub files : Stored
  pub calls : Calls

-- a sink in memory: the bytes taken, how many it has room for, and the calls that wrote them
pub record MemorySink : Type 0 where
  pub taken : List ℕ
  pub room : ℕ
  pub calls : Calls

-- no room is left
abbrev pub IsFull : MemorySink → Type 0
IsFull sink = sink.room ≤ length sink.taken

-- how many bytes a read of the file from a place on gives to a buffer of some length
abbrev pub read_length : List ℕ → ℕ → ℕ → ℕ
read_length file place room = min room (length file - place)

-- the buffer after such a read: bytes of the file from the place on, and then what stood there
abbrev pub filled : List ℕ → ℕ → List ℕ → List ℕ
filled file place buffer = take (length buffer) (drop place file) ++ drop (read_length file place (length buffer)) buffer
