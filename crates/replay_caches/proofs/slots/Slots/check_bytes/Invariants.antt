use Rattle.std.proofs.Common.{◌≡◌}
use Rattle.std.specs.List.{range_with_len}
use Rattle.lf_model.specs.Caches.Slot.{checked_byte}
use Rattle.replay_caches.specs.Part.{each_in}
use Rattle.replay_caches.specs.SlotsState.{changed}
use Rattle.replay_caches.proofs.slots.Slots.check_bytes.Given as goal

abbrev pub invariant-loop-k : goal.invariant-loop-k
invariant-loop-k l = l.self ≡ changed (each_in l.part checked_byte (range_with_len l.first l.k)) l.i l.fn.self
