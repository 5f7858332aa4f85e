use Rattle.std.proofs.Common.{ap, ◌∙◌, arith}
use Rattle.lf_model.specs.Flips.{syndrome}
use Rattle.replay_words.proofs.PlaceLemmas.{place_found, found_word, no_word}
use Rattle.replay_words.proofs.words.Words.syndrome.Goals as goal

pub syndrome-requires-clause-unit : goal.syndrome-requires-clause-unit
syndrome-requires-clause-unit c =
    let within = place_found c.self.inside.places _ _ c.find.ensures c.in-Some.is in
    omega (arith, within, c.self.invariant.pending.sound.long)

pub returns-in-Some : goal.returns-in-Some
returns-in-Some c =
    let words = c.self.inside in
    rw (← c.self.view_is)
    (c.syndrome.ensures ∙ ap syndrome (found_word words.places words.units.histories c.args.addr c.self.invariant.pending.sound.long c.find.ensures c.in-Some.place c.in-Some.is))

pub returns-in-None : goal.returns-in-None
returns-in-None c =
    let words = c.self.inside in
    rw (← c.self.view_is) (ap syndrome (no_word words.places words.units.histories c.args.addr c.self.invariant.pending.sound.long c.find.ensures c.in-None.is))
