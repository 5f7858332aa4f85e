use Rattle.std.proofs.Common.{arith}
use Rattle.bus_tables.proofs.TurnLemmas.{core_turn}
use Rattle.bus_tables.proofs.tests.scrubbing.store.Goals as goal

pub store-stored-requires-clause-turn : goal.store-stored-requires-clause-turn
store-stored-requires-clause-turn g c =
    core_turn _ _ c.args.bus.now c.turn_start-turn.ensures.begun (omega (arith, c.requires.cores)) (omega (arith, c.requires.steps, c.turn_start-turn.ensures.number))
