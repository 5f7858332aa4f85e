use Rattle.std.proofs.Common.{◌/◌, ◌++◌, take}
use Rattle.bus_memory.specs.Named.{IsNamed}
use Rattle.bus_memory.specs.Names.{names_of}
use Rattle.bus_memory.proofs.names.name_words.Given as goal

abbrev pub invariant-loop-k : goal.invariant-loop-k
invariant-loop-k l = IsNamed l.script.value l.transfers (l.ram / 4) (names_of l.cores ++ take l.k l.own) l.memory
