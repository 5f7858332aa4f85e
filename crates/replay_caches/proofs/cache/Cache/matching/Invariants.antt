use Rattle.std.proofs.Common.{◌≡◌, None}
use Rattle.std.specs.Prelude.{find}
use Rattle.std.specs.List.{range_with_len}
use Rattle.lf_model.specs.Caches.Cache.{slot_at}
use Rattle.lf_model.specs.Caches.Slot.{holds}
use Rattle.replay_caches.proofs.cache.Cache.matching.Given as goal

abbrev pub invariant-loop-way : goal.invariant-loop-way
invariant-loop-way l = find (λ i. holds l.addr (slot_at i l.self.cache)) (range_with_len l.first l.way) ≡ None
