use Rattle.std.proofs.Common.{◌≡◌, true}
use Rattle.std.specs.List.{list_all, range_with_len}
use Rattle.lf_model.specs.Caches.Slot.{Slot, is_valid_word}
use Rattle.replay_caches.proofs.stored.Stored.has_wanted_words.Given as goal

abbrev pub invariant-loop-i : goal.invariant-loop-i
invariant-loop-i l = (slot : Slot) → slot.tag ≡ l.self.tag → list_all (is_valid_word slot) (range_with_len l.first l.i) ≡ true
