-- What `parse` reads of digits is their number, and other words have none.
use Rattle.std.proofs.Common.{◌∙◌, sym}
use Rattle.leon_main.proofs.NumberLemmas.{parsed, long_is_none, other_is_none}
use Rattle.leon_main.proofs.words.number.Goals as goal
use Rattle.leon_main.proofs.words.number.Goals.{else-word-le20-via-then-word-le20+else-has_digits_alone, else-word-le20-via-else-word-le20}

pub returns-then-has_digits_alone : goal.returns-then-has_digits_alone
returns-then-has_digits_alone c =
    c.ok.ensures.value ∙ parsed c.args.word.now c.parse.result c.if-word-le20.true
    (sym c.has_digits_alone.ensures ∙ c.if-has_digits_alone.true) c.parse.ensures.value.0

pub returns-else-word-le20 : goal.returns-else-word-le20
returns-else-word-le20 c = elim c.else-word-le20.branch [
  | else-word-le20-via-then-word-le20+else-has_digits_alone w ↦
      other_is_none c.args.word.now (sym w.has_digits_alone.ensures ∙ w.if-has_digits_alone.false)
  | else-word-le20-via-else-word-le20 w ↦ long_is_none c.args.word.now w.if-word-le20.false
]
