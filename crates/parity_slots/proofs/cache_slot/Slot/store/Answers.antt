use Rattle.std.proofs.Common.{◌≡◌, ℕ, ◌+◌, ◌/◌, ◌%◌, sym, ap, ◌∙◌, subst, arith}
use Rattle.flip_ledger.specs.Follows.{Follows}
use Rattle.lf_model.specs.Caches.Change.{stored_in}
use Rattle.lf_model.specs.Caches.Slot.{Slot, is_valid_word}
use Rattle.lf_model.specs.Flips.{byte_budget}
use Rattle.parity_slots.specs.SlotState.{SlotState, byte_stored}
use Rattle.parity_slots.specs.Units.{with_units}
use Rattle.parity_slots.proofs.StoreLemmas.{stored_so_far, stored_next, stored_not}
use Rattle.parity_units.proofs.EventLemmas.{keeps_then}
use Rattle.parity_slots.proofs.cache_slot.Slot.store.Goals as goal
use Rattle.parity_slots.proofs.cache_slot.Slot.store.Goals.{then-is_valid_word, else-is_valid_word}

pub loop-i-preserved : goal.loop-i-preserved
loop-i-preserved c =
    let invariant = c.loop-i.invariant in
    let addr = c.args.addr in
    let s : SlotState = c.args.self.now in
    let i = c.loop-i.i in
    let tested : is_valid_word c.args.self.now.slot ((c.args.addr % 32 + c.loop-i.i) / 4) ≡ c.is_valid_word.result =
    sym (ap (λ (t : SlotState). is_valid_word t.slot ((c.args.addr % 32 + c.loop-i.i) / 4)) invariant.slot)
    ∙ ap (λ (n : ℕ). is_valid_word c.loop-i.self.slot ((c.args.addr % 32 + n) / 4)) (sym c.from.ensures)
    ∙ sym c.is_valid_word.ensures in
    elim c.if-is_valid_word.branch [
      | then-is_valid_word w ↦
          let place : ℕ = c.args.addr % 32 + c.from.result in
          let next : byte_stored (c.args.addr % 32 + c.from.result) w.byte_of.result c.loop-i.self ≡ stored_so_far c.args.addr c.args.len c.args.value (c.loop-i.i + 1) c.args.self.now =
          rw (c.from.ensures, w.byte_of.ensures, invariant.slot) (stored_next c.args.addr c.args.len c.args.value c.loop-i.i c.args.self.now (tested ∙ w.if-is_valid_word.true)) in
          rw (w.self-is, w.ledger-is) (record {
            slot = w.store_byte.ensures.slot ∙ next;
            keeps = keeps_then c.args.ledger.now c.loop-i.ledger w.store_byte.new.ledger invariant.keeps w.store_byte.ensures.keeps;
            follows = λ h follows.
                subst (λ (slot : Slot). Follows byte_budget (with_units c.args.first slot h) w.store_byte.new.ledger) (ap (λ (t : SlotState). t.slot) next)
                (w.store_byte.ensures.follows h
                (subst (λ (slot : Slot). Follows byte_budget (with_units c.args.first slot h) c.loop-i.ledger) (sym (ap (λ (t : SlotState). t.slot) invariant.slot)) (invariant.follows h follows)));
          })
      | else-is_valid_word w ↦
          let same : stored_so_far c.args.addr c.args.len c.args.value c.loop-i.i c.args.self.now ≡ stored_so_far c.args.addr c.args.len c.args.value (c.loop-i.i + 1) c.args.self.now =
          stored_not c.args.addr c.args.len c.args.value c.loop-i.i c.args.self.now (tested ∙ w.if-is_valid_word.false) in
          rw (w.self-is, w.ledger-is) (record {
            slot = invariant.slot ∙ same;
            keeps = invariant.keeps;
            follows = λ h follows.
                subst (λ (slot : Slot). Follows byte_budget (with_units c.args.first slot h) c.loop-i.ledger) (ap (λ (t : SlotState). t.slot) same) (invariant.follows h follows);
          })
    ]

pub returns-clause-follows : goal.returns-clause-follows
returns-clause-follows c = λ h follows.
    let all : c.loop-i.i ≡ c.args.len = omega (arith, c.loop-i-test.false, c.loop-i.auto.i-end) in
    subst (λ (n : ℕ). Follows byte_budget (with_units c.args.first (stored_in c.args.addr n c.args.self.now.slot) h) c.loop-i.ledger) all (c.loop-i.invariant.follows h follows)
