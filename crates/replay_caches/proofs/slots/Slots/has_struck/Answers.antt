use Rattle.std.proofs.Common.{ℕ, sym, ap, ◌∙◌, add-one}
use Rattle.std.specs.List.{list_any, range_with_len}
use Rattle.lf_model.specs.Caches.Slot.{history_at}
use Rattle.lf_model.specs.Flips.{is_struck_byte}
use Rattle.replay_caches.specs.Part.{histories_in}
use Rattle.replay_caches.specs.SlotsState.{slot_in}
use Rattle.replay_caches.proofs.RunLemmas.{any_found, any_more}
use Rattle.replay_caches.proofs.slots.Slots.has_struck.Goals as goal

pub returns-then-is_struck : goal.returns-then-is_struck
returns-then-is_struck c =
    sym (any_found (λ byte. is_struck_byte (history_at byte (histories_in c.args.part (slot_in c.args.i c.args.self.now)))) c.args.first c.args.count c.loop-k.k c.loop-k-test.true (sym c.is_struck.ensures ∙ c.if-is_struck.true))

pub loop-k-preserved : goal.loop-k-preserved
loop-k-preserved c =
    ap (λ (n : ℕ). list_any (λ byte. is_struck_byte (history_at byte (histories_in c.args.part (slot_in c.args.i c.args.self.now)))) (range_with_len c.args.first n)) (add-one c.loop-k.k)
    ∙ any_more (λ byte. is_struck_byte (history_at byte (histories_in c.args.part (slot_in c.args.i c.args.self.now)))) c.args.first c.loop-k.k c.loop-k.invariant (sym c.is_struck.ensures ∙ c.if-is_struck.false)
