use Rattle.std.proofs.Common.{◌≡◌, false}
use Rattle.bus_memory.specs.MemoryState.{ram_of}
use Rattle.bus_tables.proofs.tests.turns.turns_of_each_kind.Given as goal

abbrev pub invariant-loop-number : goal.invariant-loop-number
invariant-loop-number g l = (l.memory.begun ≡ false) × (ram_of l.memory ≡ 64) × (l.memory.room ≡ 19)
