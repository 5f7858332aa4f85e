use Rattle.std.proofs.Common.{◌≡◌, map}
use Rattle.replay_words.specs.Places.{words_of}
use Rattle.replay_words.specs.Writing.{KeepsStruck}
use Rattle.replay_words.proofs.WriteLemmas.{partly}
use Rattle.replay_words.proofs.write.write_touched.Given as goal

abbrev pub invariant-loop-i : goal.invariant-loop-i
invariant-loop-i l =
    (words_of l.fn.places l.units.histories ≡ map (partly l.fn.made l.span.first l.i) (words_of l.fn.places l.fn.units.histories)) × KeepsStruck l.fn.units l.units
