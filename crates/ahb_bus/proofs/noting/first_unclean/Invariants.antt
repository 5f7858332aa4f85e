use Rattle.std.proofs.Common.{◌≡◌}
use Rattle.ahb_bus.specs.Noting.{first_unclean_from}
use Rattle.ahb_bus.proofs.noting.first_unclean.Given as goal

abbrev pub invariant-loop-place : goal.invariant-loop-place
invariant-loop-place l = first_unclean_from l.line.syn l.place ≡ first_unclean_from l.line.syn 0
