use Rattle.std.proofs.Common.{[]}
use Rattle.leon_main.proofs.GivenLemmas.{no_words, tells_usage}
use Rattle.leon_main.proofs.call.exit_code_of.Goals as goal

-- The call with the words answers what is asked of the code.
pub returns-in-Ok-clause-answered : goal.returns-in-Ok-clause-answered
returns-in-Ok-clause-answered g c =
    let told = c.plain_call.ensures in
    rw (c.in-Ok.is, c.from.ensures, ← c.deref.ensures.value) (record {
      answered = told.answered;
      memory = told.memory;
      cut_off = told.cut_off;
      decides = told.decides;
    })

-- Words that are not text are no words.
pub returns-in-Err-NotText-clause-not_text : goal.returns-in-Err-NotText-clause-not_text
returns-in-Err-NotText-clause-not_text g c not_text =
    rw c.from-in-Err-NotText.ensures (tells_usage [] _ _ _ _ _ _ no_words c.plain_call-in-Err-NotText.ensures.answered)
