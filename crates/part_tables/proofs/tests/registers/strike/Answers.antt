use Rattle.std.specs.Prelude.{◌<◌, ℕ}
use Rattle.std.proofs.Common.{subst}
use Rattle.part_tables.proofs.LateLemmas.{late_to_come}
use Rattle.part_tables.proofs.tests.registers.strike.Goals as goal

pub flip-requires-clause-once : goal.flip-requires-clause-once
flip-requires-clause-once g c =
    late_to_come c.args.number c.args.registers.now.histories c.fate.result c.in-Late.is
    (λ place within has. c.fate.ensures.struck place (subst (λ (n : ℕ). place < n) c.requires.cells within) has)
