use Rattle.std.proofs.Common.{◌≡◌, map, take}
use Rattle.machine_play.specs.Ending.{watched_on}
use Rattle.machine_play.proofs.ending.watched_words.Given as goal

abbrev pub invariant-loop-addr : goal.invariant-loop-addr
invariant-loop-addr l = l.watch.items ≡ map (watched_on l.bus) (take l.addr-index l.addresses)
