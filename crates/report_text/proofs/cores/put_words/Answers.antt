use Rattle.report_text.proofs.Lines.{words_put}
use Rattle.report_text.proofs.cores.put_words.Goals as goal

pub returns-clause-appended : goal.returns-clause-appended
returns-clause-appended c =
    words_put c.args.piece.now.items c.put_front_words.new.piece.items c.put_word.new.piece.items c.args.words.now c.in-Some.front.now c.in-Some.last.now
    c.in-Some.ensures.cases.0 c.put_front_words.ensures.appended c.put_word.ensures.appended
