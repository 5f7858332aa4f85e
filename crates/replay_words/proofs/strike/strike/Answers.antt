use Rattle.std.proofs.Common.{arith}
use Rattle.replay_words.proofs.PlaceLemmas.{place_found}
use Rattle.replay_words.proofs.strike.strike.Goals as goal

pub strike-requires-clause-unit : goal.strike-requires-clause-unit
strike-requires-clause-unit c =
    let within = place_found c.args.places.now _ _ c.find.ensures c.in-Some.is in
    omega (arith, within, c.requires.sound.long)
