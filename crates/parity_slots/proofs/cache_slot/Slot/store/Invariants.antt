use Rattle.std.proofs.Common.{◌≡◌, ℕ, List}
use Rattle.flip_ledger.specs.Follows.{Follows, Keeps}
use Rattle.lf_model.specs.Caches.Change.{stored_bytes, stored_in}
use Rattle.lf_model.specs.Flips.{Moment, byte_budget}
use Rattle.parity_slots.specs.SlotState.{bytes_stored}
use Rattle.parity_slots.specs.Units.{with_units}
use Rattle.parity_slots.proofs.cache_slot.Slot.store.Given as goal

abbrev pub invariant-loop-i : goal.invariant-loop-i
invariant-loop-i l = record {
  slot : l.self ≡ record { slot = stored_in l.addr l.i l.initial.self.slot; bytes = bytes_stored l.addr l.len l.value (stored_bytes l.addr l.i l.initial.self.slot) l.initial.self.bytes };
  keeps : Keeps l.initial.ledger l.ledger;
  follows : (h : ℕ → List Moment) → Follows byte_budget (with_units l.first l.initial.self.slot h) l.initial.ledger → Follows byte_budget (with_units l.first (stored_in l.addr l.i l.initial.self.slot) h) l.ledger;
}
