use Rattle.std.proofs.Common.{◌≡◌, take}
use Rattle.machine_play.proofs.ending.named_by.Given as goal

abbrev pub invariant-loop-word : goal.invariant-loop-word
invariant-loop-word l = l.named.items ≡ take l.word-index l.word-items
