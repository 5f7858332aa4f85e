use Rattle.part_tables.proofs.LateLemmas.{late_to_come}
use Rattle.part_tables.proofs.tests.flips.strike.Goals as goal

pub flip-requires-clause-once : goal.flip-requires-clause-once
flip-requires-clause-once g c = late_to_come c.args.number c.args.words.now.histories c.fate.result c.in-Late.is c.fate.ensures.struck
