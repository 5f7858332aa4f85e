use Rattle.std.proofs.Common.{◌≡◌, true, take}
use Rattle.std.specs.List.{list_all}
use Rattle.machine_play.specs.Moved.{core_ended}
use Rattle.machine_play.proofs.machine.have_all_ended.Given as goal

abbrev pub invariant-loop-core : goal.invariant-loop-core
invariant-loop-core l = list_all core_ended (take l.core-index l.cores) ≡ true
