use Rattle.std.proofs.Common.{sym}
use Rattle.coded_words.specs.Words.{word_in}
use Rattle.coded_words.proofs.AnswerLemmas.{clean_answer, fixed_answer, bad_answer}
use Rattle.ft_regfile.specs.Kept.{seen}
use Rattle.ft_regfile.proofs.ReadLemmas.{good_shown, bad_shown}
use Rattle.ft_regfile.proofs.regfile.RegFile.peek.Goals as goal

pub returns-in-Clean : goal.returns-in-Clean
returns-in-Clean c =
    let is = clean_answer (word_in c.self.inside.cells c.args.cell) c.in-Clean.value (sym c.in-Clean.ensures.answer) in
    rw (← c.self.view_is) (good_shown (seen c.self.inside) c.args.cell c.in-Clean.value is.value is.not_bad)

pub returns-in-Fixed : goal.returns-in-Fixed
returns-in-Fixed c =
    let is = fixed_answer (word_in c.self.inside.cells c.args.cell) c.in-Fixed.value c.in-Fixed.field-1 (sym c.in-Fixed.ensures.answer) in
    rw (← c.self.view_is) (good_shown (seen c.self.inside) c.args.cell c.in-Fixed.value is.value is.not_bad)

pub returns-in-Bad : goal.returns-in-Bad
returns-in-Bad c =
    let is = bad_answer (word_in c.self.inside.cells c.args.cell) c.in-Bad.field-0 c.in-Bad.ensures.budget (sym c.in-Bad.ensures.answer) in
    rw (← c.self.view_is) (bad_shown (seen c.self.inside) c.args.cell is.bad)
