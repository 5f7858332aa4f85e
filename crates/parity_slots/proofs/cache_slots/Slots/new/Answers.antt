use Rattle.std.proofs.Common.{◌≡◌, ℕ, ◌*◌, length, refl, sym, ap, ◌∙◌, arith}
use Rattle.std.proofs.lemmas.List.{length-replicate}
use Rattle.lf_model.specs.Flips.{byte_budget}
use Rattle.parity_slots.specs.SlotState.{SlotState, empty_state}
use Rattle.parity_slots.proofs.SlotsLemmas.{empty_histories, slots_of_reset, lines_of_reset}
use Rattle.parity_slots.proofs.cache_slots.Slots.new.Goals as goal

pub invariant_of-result : goal.invariant_of-result
invariant_of-result c =
    let ledger = c.in_ok-new.field-0 in
    let n : length c.in_ok-empty_slots.field-0.items ≡ c.args.count = ap (length {A = SlotState}) c.in_ok-empty_slots.ensures ∙ length-replicate c.args.count empty_state in
    record {
      few = omega (arith, n, c.requires);
      units = c.in_ok-new.ensures.units ∙ ap (λ (k : ℕ). 36 * k) (sym n);
      follows = rw (c.in_ok-empty_slots.ensures, slots_of_reset c.args.count) (c.in_ok-new.ensures.follows byte_budget _ (λ unit. empty_histories c.args.count unit));
    }

pub returns : goal.returns
returns c = rw (c.in_ok-empty_slots.ensures, slots_of_reset c.args.count, lines_of_reset c.args.count, c.in_ok-new.ensures.flips) refl
