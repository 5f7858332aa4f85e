use Rattle.std.proofs.Common.{◌≡◌, None, not}
use Rattle.std.specs.Prelude.{find}
use Rattle.std.specs.List.{range_with_len}
use Rattle.lf_model.specs.Caches.Cache.{slot_at}
use Rattle.lf_model.specs.Caches.Slot.{is_present}
use Rattle.replay_caches.proofs.cache.Cache.empty_slot.Given as goal

abbrev pub invariant-loop-way : goal.invariant-loop-way
invariant-loop-way l = find (λ i. not (is_present (slot_at i l.self.cache))) (range_with_len l.first l.way) ≡ None
