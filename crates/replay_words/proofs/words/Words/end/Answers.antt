use Rattle.std.proofs.Common.{ap, ◌∙◌, map, List}
use Rattle.lf_model.specs.Bus.Words.{Word}
use Rattle.replay_words.specs.Places.{words_of}
use Rattle.replay_words.specs.WordsState.{WordsState}
use Rattle.replay_words.specs.Writing.{named_at}
use Rattle.replay_words.proofs.StrikeLemmas.{pending_kept}
use Rattle.replay_words.proofs.WriteLemmas.{keeps_then, after_some}
use Rattle.replay_words.proofs.words.Words.end.Goals as goal

pub invariant_of-self : goal.invariant_of-self
invariant_of-self c = record {
  distinct = c.self.invariant.distinct;
  aligned = c.self.invariant.aligned;
  planned = c.self.invariant.planned;
  pending = pending_kept _ _ _ _ _ (keeps_then _ _ _ c.write_touched.ensures.keeps c.name_at.ensures.keeps) c.self.invariant.pending;
}

pub invariant_of-self-in_default : goal.invariant_of-self-in_default
invariant_of-self-in_default c = record {
  distinct = c.self.invariant.distinct;
  aligned = c.self.invariant.aligned;
  planned = c.self.invariant.planned;
  pending = pending_kept _ _ _ _ _ c.write_touched.ensures.keeps c.self.invariant.pending;
}

pub returns-in-Some : goal.returns-in-Some
returns-in-Some c =
    let words = c.self.inside in
    let made : List Word → WordsState = λ ws. record { script = words.script.value; words = ws; turns = words.turns } in
    rw (← c.self.view_is, c.in-Some.is)
    (ap made
    (c.name_at.ensures.words
    ∙ ap (map (named_at c.in-Some.addr)) c.write_touched.ensures.words
    ∙ after_some c.args.made.now c.in-Some.addr (words_of words.places words.units.histories)))
