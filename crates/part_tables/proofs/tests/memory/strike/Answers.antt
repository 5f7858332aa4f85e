use Rattle.part_tables.proofs.LateLemmas.{late_to_come-memory}
use Rattle.part_tables.proofs.tests.memory.strike.Goals as goal

pub flip-requires-clause-once : goal.flip-requires-clause-once
flip-requires-clause-once g c = late_to_come-memory c.args.number c.args.memory.now c.fate.result c.in-Late.is c.fate.ensures.struck
