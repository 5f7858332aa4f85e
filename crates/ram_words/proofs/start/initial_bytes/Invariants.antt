use Rattle.std.proofs.Common.{◌≡◌, drop, vec_len}
use Rattle.ram_words.proofs.LoadLemmas.{AreLoaded}
use Rattle.ram_words.proofs.start.initial_bytes.Given as goal

abbrev pub invariant-loop-i : goal.invariant-loop-i
invariant-loop-i l = (vec_len l.bytes ≡ l.ram) × AreLoaded (drop l.i l.image.segments) l.bytes.items
