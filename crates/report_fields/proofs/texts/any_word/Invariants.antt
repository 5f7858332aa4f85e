use Rattle.std.proofs.Common.{◌≡◌, drop}
use Rattle.report_fields.specs.Reading.{word_at}
use Rattle.report_fields.proofs.texts.any_word.Given as goal

abbrev pub invariant-loop-word : goal.invariant-loop-word
invariant-loop-word g l = word_at g.W.Word.text (drop l.word-index l.words) l.bytes ≡ word_at g.W.Word.text l.words l.bytes
