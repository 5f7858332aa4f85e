use Rattle.std.proofs.Common.{◌≡◌}
use Rattle.ahb_bus.specs.Grant.{granted_from}
use Rattle.ahb_bus.proofs.arbiter.grant.Given as goal

abbrev pub invariant-loop-after : goal.invariant-loop-after
invariant-loop-after l = granted_from l.asking l.last l.after ≡ granted_from l.asking l.last 1
