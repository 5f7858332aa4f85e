use Rattle.lf_model.specs.Traps.{traps_in_order}
use Rattle.v8_traps.proofs.PriorityLemmas.{is_first, is_none_iff}
use Rattle.v8_traps.proofs.first_trap.Goals as goal

pub returns-clause-first : goal.returns-clause-first
returns-clause-first c = is_first (traps_in_order c.args.c.now) c.first_set.result c.first_set.ensures.value

pub returns-clause-none : goal.returns-clause-none
returns-clause-none c = is_none_iff (traps_in_order c.args.c.now) c.first_set.result c.first_set.ensures.value
