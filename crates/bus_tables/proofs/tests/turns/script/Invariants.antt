use Rattle.std.specs.List.{AllByRecursion}
use Rattle.bus_memory.specs.Strikes.{AimsAt}
use Rattle.bus_tables.proofs.tests.turns.script.Given as goal

abbrev pub invariant-loop-row : goal.invariant-loop-row
invariant-loop-row g l = AllByRecursion (AimsAt 16) l.flips
