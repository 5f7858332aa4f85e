use Rattle.std.proofs.Common.{◌≡◌, map, take}
use Rattle.machine_play.specs.Ending.{named_of}
use Rattle.machine_play.proofs.ending.named_by_all.Given as goal

abbrev pub invariant-loop-kept : goal.invariant-loop-kept
invariant-loop-kept l = l.named.items ≡ map named_of (take l.kept-index l.records)
