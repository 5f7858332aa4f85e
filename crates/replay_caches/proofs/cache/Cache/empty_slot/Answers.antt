use Rattle.std.proofs.Common.{◌≡◌, ℕ, ◌+◌, ◌<◌, true, false, not, sym, ap, ◌∙◌}
use Rattle.std.specs.Prelude.{find}
use Rattle.std.specs.List.{range_with_len}
use Rattle.lf_model.specs.Caches.Cache.{slot_at}
use Rattle.lf_model.specs.Caches.Slot.{is_present}
use Rattle.replay_caches.proofs.SetLemmas.{find_more, find_found}
use Rattle.replay_caches.proofs.cache.Cache.empty_slot.Goals as goal

pub returns-then-not-is_present-clause-slot : goal.returns-then-not-is_present-clause-slot
returns-then-not-is_present-clause-slot c =
    let first = c.first_slot-first.result in
    let lt : c.loop-way.way < c.args.self.now.cache.shape.ways = rw (← c.self.view_is) c.loop-way-test.true in
    let test : not (is_present (slot_at (c.first_slot-first.result + c.loop-way.way) c.args.self.now.cache)) ≡ true = rw (← c.self.view_is) (ap not (sym c.is_present.ensures ∙ c.if-not-is_present.true)) in
    sym (find_found (λ i. not (is_present (slot_at i c.args.self.now.cache))) first c.args.self.now.cache.shape.ways c.loop-way.way lt c.loop-way.invariant test)
    ∙ ap (λ (a : ℕ). find (λ i. not (is_present (slot_at i c.args.self.now.cache))) (range_with_len a c.args.self.now.cache.shape.ways)) c.first_slot-first.ensures.first

pub loop-way-preserved : goal.loop-way-preserved
loop-way-preserved c =
    let test : not (is_present (slot_at (c.first_slot-first.result + c.loop-way.way) c.args.self.now.cache)) ≡ false = rw (← c.self.view_is) (ap not (sym c.is_present.ensures ∙ c.if-not-is_present.false)) in
    find_more (λ i. not (is_present (slot_at i c.args.self.now.cache))) c.first_slot-first.result c.loop-way.way c.loop-way.invariant test
