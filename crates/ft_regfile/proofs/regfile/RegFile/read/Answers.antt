use Rattle.std.proofs.Common.{sym, ap, ◌∙◌}
use Rattle.std.proofs.lemmas.List.{length-set}
use Rattle.coded_words.specs.Words.{Words, word_in}
use Rattle.coded_words.proofs.AnswerLemmas as answers
use Rattle.ft_regfile.specs.Kept.{seen}
use Rattle.ft_regfile.proofs.ReadLemmas.{good_answer, bad_answer, not_written_back, written_back}
use Rattle.ft_regfile.proofs.regfile.RegFile.read.Goals as goal

pub invariant_of-self : goal.invariant_of-self
invariant_of-self c =
    let cells = c.self.inside.cells in
    rw c.write.ensures (record {
      count = length-set cells.histories c.args.cell _ ∙ c.self.invariant.count;
      values = length-set cells.values c.args.cell c.in-Fixed.value ∙ c.self.invariant.values;
    })

pub returns-in-Clean-clause-answer : goal.returns-in-Clean-clause-answer
returns-in-Clean-clause-answer c =
    let is = answers.clean_answer (word_in c.self.inside.cells c.args.cell) c.in-Clean.value (sym c.in-Clean.ensures.answer) in
    rw (← c.self.view_is) (good_answer (seen c.self.inside) c.args.cell c.in-Clean.value is.value is.not_bad)

pub returns-in-Clean-clause-read_back : goal.returns-in-Clean-clause-read_back
returns-in-Clean-clause-read_back c =
    let is = answers.clean_answer (word_in c.self.inside.cells c.args.cell) c.in-Clean.value (sym c.in-Clean.ensures.answer) in
    rw (← c.self.view_is) (not_written_back (seen c.self.inside) c.args.cell is.not_fixed)

pub returns-in-Fixed-clause-answer : goal.returns-in-Fixed-clause-answer
returns-in-Fixed-clause-answer c =
    let is = answers.fixed_answer (word_in c.self.inside.cells c.args.cell) c.in-Fixed.value c.in-Fixed.field-1 (sym c.in-Fixed.ensures.answer) in
    rw (← c.self.view_is) (good_answer (seen c.self.inside) c.args.cell c.in-Fixed.value is.value is.not_bad)

pub returns-in-Fixed-clause-read_back : goal.returns-in-Fixed-clause-read_back
returns-in-Fixed-clause-read_back c =
    let is = answers.fixed_answer (word_in c.self.inside.cells c.args.cell) c.in-Fixed.value c.in-Fixed.field-1 (sym c.in-Fixed.ensures.answer) in
    rw (← c.self.view_is)
    (ap (λ (cells : Words). record { values = cells.values; histories = cells.histories; flips = cells.flips }) c.write.ensures
    ∙ written_back (seen c.self.inside) c.args.cell c.in-Fixed.value is.value is.fixed)

pub returns-in-Bad-clause-answer : goal.returns-in-Bad-clause-answer
returns-in-Bad-clause-answer c =
    let is = answers.bad_answer (word_in c.self.inside.cells c.args.cell) c.in-Bad.syn c.in-Bad.ensures.budget (sym c.in-Bad.ensures.answer) in
    rw (← c.self.view_is) (bad_answer (seen c.self.inside) c.args.cell c.in-Bad.syn is.syndrome_is is.bad)

pub returns-in-Bad-clause-read_back : goal.returns-in-Bad-clause-read_back
returns-in-Bad-clause-read_back c =
    let is = answers.bad_answer (word_in c.self.inside.cells c.args.cell) c.in-Bad.syn c.in-Bad.ensures.budget (sym c.in-Bad.ensures.answer) in
    rw (← c.self.view_is) (not_written_back (seen c.self.inside) c.args.cell is.not_fixed)
