use Rattle.std.proofs.Common.{◌≡◌, ℕ, ◌+◌, ◌<◌, Bool, true, false, cond, nat_lt, Option, Some, ap, ◌∙◌, arith}
use Rattle.std.proofs.lemmas.Bool.{lt-ltb, le-ltb}
use Rattle.lf_model.specs.Caches.Cache.{slot_at}
use Rattle.lf_model.specs.Caches.Change.{older}
use Rattle.replay_caches.proofs.SetLemmas.{older_next}
use Rattle.replay_caches.proofs.cache.Cache.oldest_slot.Goals as goal
use Rattle.replay_caches.proofs.cache.Cache.oldest_slot.Goals.{then-used, else-used}

pub loop-way-preserved : goal.loop-way-preserved
loop-way-preserved c =
    let cache = c.args.self.now.cache in
    let first = c.first_slot-first.result in
    let way = c.loop-way.way in
    let lt : c.loop-way.way < c.args.self.now.cache.shape.ways = rw (← c.self.view_is) c.loop-way-test.true in
    let one : c.used.result ≡ (slot_at (c.first_slot-first.result + c.loop-way.way) c.args.self.now.cache).used = rw (← c.self.view_is) c.used.ensures in
    let other : c.used-in-loop-way.result ≡ (slot_at c.loop-way.oldest c.args.self.now.cache).used = rw (← c.self.view_is) c.used-in-loop-way.ensures in
    let next = older_next cache first way ∙ ap (λ (o : Option ℕ). older cache o (first + way)) c.loop-way.invariant.found in
    elim c.if-used.branch [
      | then-used w ↦
          let test : nat_lt (slot_at (c.first_slot-first.result + c.loop-way.way) c.args.self.now.cache).used (slot_at c.loop-way.oldest c.args.self.now.cache).used ≡ true =
          rw (← one, ← other) (lt-ltb c.used.result c.used-in-loop-way.result w.if-used.true) in
          rw w.oldest-is (record {
            found = next ∙ ap (λ (b : Bool). cond b (Some (c.first_slot-first.result + c.loop-way.way)) (Some c.loop-way.oldest)) test;
            within = omega (arith, c.first_slot-first.ensures.within, lt);
          })
      | else-used w ↦
          let test : nat_lt (slot_at (c.first_slot-first.result + c.loop-way.way) c.args.self.now.cache).used (slot_at c.loop-way.oldest c.args.self.now.cache).used ≡ false =
          rw (← one, ← other) (le-ltb c.used.result c.used-in-loop-way.result w.if-used.false) in
          rw w.oldest-is (record {
            found = next ∙ ap (λ (b : Bool). cond b (Some (c.first_slot-first.result + c.loop-way.way)) (Some c.loop-way.oldest)) test;
            within = c.loop-way.invariant.within;
          })
    ]
