use Rattle.std.proofs.Common.{◌≡◌, false}
use Rattle.std.specs.List.{list_any, range_with_len}
use Rattle.lf_model.specs.Caches.Slot.{history_at}
use Rattle.lf_model.specs.Flips.{is_struck_byte}
use Rattle.replay_caches.specs.Part.{histories_in}
use Rattle.replay_caches.specs.SlotsState.{slot_in}
use Rattle.replay_caches.proofs.slots.Slots.has_struck.Given as goal

abbrev pub invariant-loop-k : goal.invariant-loop-k
invariant-loop-k l = list_any (λ byte. is_struck_byte (history_at byte (histories_in l.part (slot_in l.i l.self)))) (range_with_len l.first l.k) ≡ false
