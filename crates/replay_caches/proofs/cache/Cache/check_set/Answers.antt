use Rattle.std.proofs.Common.{◌≡◌, ℕ, ◌+◌, ◌<◌, ◌≤◌, Bool, ◌||◌, false, sym, ap, ap₂, ◌∙◌, arith}
use Rattle.lf_model.specs.Caches.Cache.{slot_at}
use Rattle.lf_model.specs.Caches.Look.{Checked, check_way, checked}
use Rattle.lf_model.specs.Caches.Slot.{has_struck_tag}
use Rattle.replay_caches.specs.CacheState.{CacheState, with_cache}
use Rattle.replay_caches.specs.Keeps.{Keeps}
use Rattle.replay_caches.proofs.SetLemmas.{checked_from, checked_next, checked_step, keeps_then}
use Rattle.replay_caches.proofs.cache.Cache.check_set.Goals as goal
use Rattle.replay_caches.proofs.cache.Cache.check_set.Goals.{then-check_way, else-check_way}

pub check_way-requires : goal.check_way-requires
check_way-requires c =
    let lt : c.loop-way.way < c.args.self.now.cache.shape.ways = rw (← c.self.view_is) c.loop-way-test.true in
    omega (arith, c.first_slot-first.ensures.within, c.loop-way.invariant.keeps.slots, lt)

pub loop-way-preserved : goal.loop-way-preserved
loop-way-preserved c =
    let old = c.args.self.now in
    let i = c.first_slot-first.result + c.loop-way.way in
    let inv = c.loop-way.invariant in
    let k : Checked = checked_from c.first_slot-first.result c.loop-way.way c.args.self.now.cache in
    let step = checked_next c.first_slot-first.result c.loop-way.way old.cache ∙ checked_step k i in
    let struck = sym (c.check_way.ensures.struck ∙ ap (λ (t : CacheState). has_struck_tag (slot_at i t.cache)) inv.checked) in
    let is_checked = c.check_way.ensures.checked
    ∙ ap (λ (t : CacheState). with_cache (check_way (record { dropped = false; cache = t.cache }) i).cache t) inv.checked
    ∙ ap (λ (c : Checked). with_cache c.cache old) (sym step) in
    let all_keeps : Keeps 0 c.args.self.now c.check_way.new.self = keeps_then 0 0 0 c.args.self.now c.loop-way.self c.check_way.new.self (omega arith) inv.keeps c.check_way.ensures.keeps in
    elim c.if-check_way.branch [
      | then-check_way w ↦ rw w.dropped-is (record {
        dropped = sym (ap (λ (c : Checked). c.dropped) step ∙ ap (λ (b : Bool). b || k.dropped) (struck ∙ w.if-check_way.true));
        checked = is_checked;
        keeps = all_keeps;
      })
      | else-check_way w ↦ rw w.dropped-is (record {
        dropped = inv.dropped ∙ sym (ap (λ (c : Checked). c.dropped) step ∙ ap (λ (b : Bool). b || k.dropped) (struck ∙ w.if-check_way.false));
        checked = is_checked;
        keeps = all_keeps;
      })
    ]

pub returns : goal.returns
returns c =
    let old = c.args.self.now in
    let inv = c.loop-way.invariant in
    let few : c.loop-way.way ≤ c.args.self.now.cache.shape.ways = rw (← c.self.view_is) c.loop-way.auto.way-end in
    let many : c.args.self.now.cache.shape.ways ≤ c.loop-way.way = rw (← c.self.view_is) c.loop-way-test.false in
    let all : c.loop-way.way ≡ c.args.self.now.cache.shape.ways = omega (arith, few, many) in
    let k : checked_from c.first_slot-first.result c.loop-way.way c.args.self.now.cache ≡ checked c.args.addr c.args.self.now.cache =
    ap₂ (λ (a n : ℕ). checked_from a n c.args.self.now.cache) c.first_slot-first.ensures.first all in
    record {
      dropped = inv.dropped ∙ ap (λ (c : Checked). c.dropped) k;
      checked = inv.checked ∙ ap (λ (c : Checked). with_cache c.cache old) k;
      keeps = inv.keeps;
    }
