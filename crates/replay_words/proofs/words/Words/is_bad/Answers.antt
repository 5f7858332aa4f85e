use Rattle.std.proofs.Common.{ap, ◌∙◌, arith}
use Rattle.lf_model.specs.Flips.{is_bad_word}
use Rattle.replay_words.proofs.PlaceLemmas.{place_found, found_word, no_word}
use Rattle.replay_words.proofs.words.Words.is_bad.Goals as goal

pub is_bad-requires-clause-unit : goal.is_bad-requires-clause-unit
is_bad-requires-clause-unit c =
    let within = place_found c.self.inside.places _ _ c.find.ensures c.in-Some.is in
    omega (arith, within, c.self.invariant.pending.sound.long)

pub returns-in-Some : goal.returns-in-Some
returns-in-Some c =
    let words = c.self.inside in
    rw (← c.self.view_is)
    (c.is_bad.ensures ∙ ap is_bad_word (found_word words.places words.units.histories c.args.addr c.self.invariant.pending.sound.long c.find.ensures c.in-Some.place c.in-Some.is))

pub returns-in-None : goal.returns-in-None
returns-in-None c =
    let words = c.self.inside in
    rw (← c.self.view_is) (ap is_bad_word (no_word words.places words.units.histories c.args.addr c.self.invariant.pending.sound.long c.find.ensures c.in-None.is))
