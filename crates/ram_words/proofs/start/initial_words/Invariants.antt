use Rattle.std.proofs.Common.{◌≡◌}
use Rattle.ram_words.proofs.LoadLemmas.{words_to}
use Rattle.ram_words.proofs.start.initial_words.Given as goal

abbrev pub invariant-loop-place : goal.invariant-loop-place
invariant-loop-place l = l.words.items ≡ words_to l.image l.place
