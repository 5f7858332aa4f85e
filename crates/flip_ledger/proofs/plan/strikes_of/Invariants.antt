use Rattle.std.proofs.Common.{◌≡◌, ◌++◌, drop}
use Rattle.flip_ledger.proofs.PlanLemmas.{strikes_from}
use Rattle.flip_ledger.proofs.plan.strikes_of.Given as goal

abbrev pub invariant-loop-number : goal.invariant-loop-number
invariant-loop-number l = l.strikes.items ++ strikes_from l.owner l.number (drop l.number l.flips) ≡ strikes_from l.owner 0 l.flips
