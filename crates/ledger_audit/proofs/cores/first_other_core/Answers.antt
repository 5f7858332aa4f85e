use Rattle.ledger_audit.proofs.cores.first_other_core.Goals as goal

pub is_same_core_at-requires-clause-numbered : goal.is_same_core_at-requires-clause-numbered
is_same_core_at-requires-clause-numbered c = c.requires.numbered c.loop-core.core c.loop-core-test.true
