use Rattle.std.proofs.Common.{◌≡◌}
use Rattle.lf_model.specs.Caches.Change.{stored_in}
use Rattle.replay_caches.specs.SlotsState.{changed}
use Rattle.replay_caches.proofs.slots.Slots.store.Given as goal

abbrev pub invariant-loop-k : goal.invariant-loop-k
invariant-loop-k l = l.self ≡ changed (stored_in l.addr l.k) l.i l.fn.self
