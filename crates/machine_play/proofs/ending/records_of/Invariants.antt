use Rattle.machine_play.specs.Ending.{AllLeave}
use Rattle.machine_play.proofs.ending.records_of.Given as goal

abbrev pub invariant-loop-core : goal.invariant-loop-core
invariant-loop-core l = AllLeave l.yielded l.records.items
