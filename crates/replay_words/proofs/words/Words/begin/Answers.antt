use Rattle.std.proofs.Common.{◌+◌, ap, ◌∙◌, List}
use Rattle.lf_model.specs.Bus.Words.{Word}
use Rattle.replay_units.specs.Units.{Units}
use Rattle.replay_words.specs.Places.{words_of}
use Rattle.replay_words.specs.WordsState.{WordsState}
use Rattle.replay_words.proofs.StrikeLemmas.{words_begin}
use Rattle.replay_words.proofs.words.Words.begin.Goals as goal

pub returns : goal.returns
returns c =
    let words = c.self.inside in
    let made : List Word → WordsState = λ ws. record { script = words.script.value; words = ws; turns = words.turns + 1 } in
    rw (← c.self.view_is)
    (ap made
    (ap (λ (u : Units). words_of words.places u.histories) c.strike_due.ensures.struck
    ∙ words_begin words.places c.self.invariant.distinct words.turns words.script.value words.units c.self.invariant.pending.sound.long))
