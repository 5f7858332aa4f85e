use Rattle.std.proofs.Common.{take}
use Rattle.run_texts.proofs.Numerals.{Reads}
use Rattle.run_texts.proofs.numbers.number.Given as goal

abbrev pub invariant-loop-digit : goal.invariant-loop-digit
invariant-loop-digit l = Reads l.radix (take l.digit-index l.digits) l.value
