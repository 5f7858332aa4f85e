use Rattle.std.proofs.Common.{take}
use Rattle.run_texts.proofs.Numerals.{Reads}
use Rattle.leon_main.proofs.words.code_word.Given as goal

abbrev pub invariant-loop-digit : goal.invariant-loop-digit
invariant-loop-digit l = Reads 16 (take l.digit-index l.digit-items) l.value
