use Rattle.part_tables.proofs.LateLemmas.{late_to_come-cache}
use Rattle.part_tables.proofs.tests.caches.strike.Goals as goal

pub flip-requires-clause-once : goal.flip-requires-clause-once
flip-requires-clause-once g c = late_to_come-cache c.args.number c.args.cache.now.cache c.fate.result c.in-Late.is c.fate.ensures.struck
