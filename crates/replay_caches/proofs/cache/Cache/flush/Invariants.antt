use Rattle.std.proofs.Common.{◌≡◌}
use Rattle.replay_caches.proofs.SetLemmas.{dropped_below}
use Rattle.replay_caches.proofs.cache.Cache.flush.Given as goal

abbrev pub invariant-loop-i : goal.invariant-loop-i
invariant-loop-i l = l.self-inside ≡ record l.initial.self-inside { slots = record l.initial.self-inside.slots { slots = dropped_below l.i l.initial.self-inside.slots.slots } }
