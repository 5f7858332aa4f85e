use Rattle.std.proofs.Common.{◌≡◌, ◌-◌, ◌++◌}
use Rattle.work_gen.specs.Drill.{flips_from, drill_flips}
use Rattle.work_gen.proofs.drill.flips_of.Given as goal

-- the flips so far and the rest make the whole
abbrev pub invariant-loop-i : goal.invariant-loop-i
invariant-loop-i l = l.flips.items ++ flips_from l.size l.i (l.count - l.i) l.draws.state ≡ drill_flips l.start l.size l.count
