use Rattle.std.proofs.Common.{◌/◌, take}
use Rattle.bus_memory.specs.Named.{IsNamed}
use Rattle.bus_memory.specs.Names.{names_of}
use Rattle.bus_memory.proofs.names.name_all.Given as goal

abbrev pub invariant-loop-core : goal.invariant-loop-core
invariant-loop-core l = IsNamed l.script.value l.transfers (l.ram / 4) (names_of (take l.core l.named)) l.memory
