use Rattle.std.proofs.Common.{ℕ, sym, ap, ◌∙◌}
use Rattle.lf_model.specs.Bus.Words.{word_history}
use Rattle.lf_model.specs.Flips.{syndrome}
use Rattle.replay_words.specs.Reading.{read_words}
use Rattle.replay_words.proofs.AnswerLemmas.{word_answered, line_answered}
use Rattle.replay_words.proofs.words.Words.answer.Goals as goal

pub returns-in-Word : goal.returns-in-Word
returns-in-Word c =
    c.with_word.ensures
    ∙ word_answered c.args.asked c.args.self.now.words c.in-Word.addr c.syndrome.result (ap read_words (sym c.in-Word.is) ∙ c.read_of.ensures)
    (c.syndrome.ensures ∙ ap (λ (a : ℕ). syndrome (word_history c.args.self.now.words a)) c.from.ensures)

pub returns-in-Line : goal.returns-in-Line
returns-in-Line c =
    c.with_line.ensures
    ∙ line_answered c.args.asked c.args.self.now.words c.in-Line.line c.line_syndromes.result (ap read_words (sym c.in-Line.is) ∙ c.read_of.ensures) c.line_syndromes.ensures
