use Rattle.std.proofs.Common.{◌≡◌, take}
use Rattle.run_trace.specs.Fates.{fates_recorded}
use Rattle.run_trace.proofs.fates.fates_of.Given as goal

abbrev pub invariant-loop-i : goal.invariant-loop-i
invariant-loop-i l = l.fates.items ≡ fates_recorded l.records l.bus 0 (take l.i l.script)
