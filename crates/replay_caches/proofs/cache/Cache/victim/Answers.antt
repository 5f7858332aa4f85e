use Rattle.std.proofs.Common.{Some, None, ◌∙◌}
use Rattle.replay_caches.proofs.SetLemmas.{victim_is}
use Rattle.replay_caches.proofs.cache.Cache.victim.Goals as goal

pub returns-in-Some-clause-slot : goal.returns-in-Some-clause-slot
returns-in-Some-clause-slot c = victim_is c.args.addr c.args.self.now.cache (Some c.in-Some.i) c.in-Some.ensures.slot

pub returns-in-None-clause-slot : goal.returns-in-None-clause-slot
returns-in-None-clause-slot c = c.victim_of_others.ensures.slot ∙ victim_is c.args.addr c.args.self.now.cache None c.in-None.ensures.slot
