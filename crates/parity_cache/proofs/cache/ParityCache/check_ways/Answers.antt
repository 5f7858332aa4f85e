use Rattle.std.proofs.Common.{◌≡◌, ◌≢◌, ℕ, ◌+◌, ◌<◌, ◌≤◌, Bool, false, ◌||◌, length, sym, ap, ap₂, ◌∙◌, subst, inl, inr, arith}
use Rattle.std.proofs.lemmas.Bool.{cases_eq}
use Rattle.lf_model.specs.Caches.Cache.{slot_at}
use Rattle.lf_model.specs.Caches.Look.{Checked, check_way, checked}
use Rattle.lf_model.specs.Caches.Slot.{has_struck_tag}
use Rattle.parity_cache.specs.CacheState.{CacheState, with_cache}
use Rattle.parity_cache.specs.Keeps.{Keeps, StaysClean}
use Rattle.parity_cache.proofs.CleanLemmas.{way_stays}
use Rattle.parity_cache.proofs.KeepLemmas.{keeps_then}
use Rattle.parity_cache.proofs.SetLemmas.{checked_from, checked_next, checked_step, way_clean, way_others, way_uses}
use Rattle.parity_cache.proofs.cache.ParityCache.check_ways.Goals as goal
use Rattle.parity_cache.proofs.cache.ParityCache.check_ways.Goals.{then-check_way, else-check_way}

pub check_way-requires : goal.check_way-requires
check_way-requires c =
    let lt : c.loop-way.way < c.args.self.now.cache.shape.ways = rw (← c.self.view_is) c.loop-way-test.true in
    omega (arith, c.first_slot-first.ensures.within, c.loop-way.invariant.keeps.slots, lt)

pub loop-way-preserved : goal.loop-way-preserved
loop-way-preserved c =
    let old = c.args.self.now in
    let first = c.first_slot-first.result in
    let way = c.loop-way.way in
    let i = c.first_slot-first.result + c.loop-way.way in
    let inv = c.loop-way.invariant in
    let k : Checked = checked_from c.first_slot-first.result c.loop-way.way c.args.self.now.cache in
    let lt : c.loop-way.way < c.args.self.now.cache.shape.ways = rw (← c.self.view_is) c.loop-way-test.true in
    let within : c.first_slot-first.result + c.loop-way.way < length c.loop-way.self.cache.slots = omega (arith, c.first_slot-first.ensures.within, inv.keeps.slots, lt) in
    let step = checked_next first way old.cache ∙ checked_step k i in
    let struck = sym (c.check_way.ensures.struck ∙ ap (λ (t : CacheState). has_struck_tag (slot_at i t.cache)) inv.checked) in
    let is_checked = c.check_way.ensures.checked
    ∙ ap (λ (t : CacheState). with_cache (check_way (record { dropped = false; cache = t.cache }) i).cache t) inv.checked
    ∙ ap (λ (c : Checked). with_cache c.cache old) (sym step) in
    let is_clean : (w : ℕ) → w < c.loop-way.way + 1 → has_struck_tag (slot_at (c.first_slot-first.result + w) c.check_way.new.self.cache) ≡ false =
    λ w few. ap (λ (t : CacheState). has_struck_tag (slot_at (c.first_slot-first.result + w) t.cache)) c.check_way.ensures.checked ∙ (elim (cases_eq w c.loop-way.way) [
      | inl here ↦
          subst (λ (v : ℕ). has_struck_tag (slot_at (c.first_slot-first.result + v) (check_way (record { dropped = false; cache = c.loop-way.self.cache }) (c.first_slot-first.result + c.loop-way.way)).cache) ≡ false) (sym here)
          (way_clean c.loop-way.self.cache (c.first_slot-first.result + c.loop-way.way) within)
      | inr other ↦
          let apart : c.first_slot-first.result + w ≢ c.first_slot-first.result + c.loop-way.way = omega (arith, other) in
          ap has_struck_tag (way_others c.loop-way.self.cache (c.first_slot-first.result + c.loop-way.way) within (c.first_slot-first.result + w) apart)
          ∙ inv.clean w (omega (arith, few, other))
    ]) in
    let stays : StaysClean c.args.self.now.cache c.check_way.new.self.cache =
    λ j clean. ap (λ (t : CacheState). has_struck_tag (slot_at j t.cache)) c.check_way.ensures.checked ∙ way_stays c.loop-way.self.cache (c.first_slot-first.result + c.loop-way.way) within j (inv.stays j clean) in
    let all_keeps : Keeps 0 c.args.self.now c.check_way.new.self = keeps_then 0 0 0 c.args.self.now c.loop-way.self c.check_way.new.self (omega arith) inv.keeps c.check_way.ensures.keeps in
    let same_uses = ap (λ (t : CacheState). t.cache.uses) c.check_way.ensures.checked ∙ way_uses c.loop-way.self.cache i within ∙ inv.uses in
    elim c.if-check_way.branch [
      | then-check_way w ↦ rw w.dropped-is (record {
        dropped = sym (ap (λ (c : Checked). c.dropped) step ∙ ap (λ (b : Bool). b || k.dropped) (struck ∙ w.if-check_way.true));
        checked = is_checked;
        clean = is_clean;
        uses = same_uses;
        stays = stays;
        keeps = all_keeps;
      })
      | else-check_way w ↦ rw w.dropped-is (record {
        dropped = inv.dropped ∙ sym (ap (λ (c : Checked). c.dropped) step ∙ ap (λ (b : Bool). b || k.dropped) (struck ∙ w.if-check_way.false));
        checked = is_checked;
        clean = is_clean;
        uses = same_uses;
        stays = stays;
        keeps = all_keeps;
      })
    ]

pub returns : goal.returns
returns c =
    let old = c.args.self.now in
    let inv = c.loop-way.invariant in
    let few : c.loop-way.way ≤ c.args.self.now.cache.shape.ways = rw (← c.self.view_is) c.loop-way.auto.way-end in
    let many : c.args.self.now.cache.shape.ways ≤ c.loop-way.way = rw (← c.self.view_is) c.loop-way-test.false in
    let all : c.loop-way.way ≡ c.args.self.now.cache.shape.ways = omega (arith, few, many) in
    let k : checked_from c.first_slot-first.result c.loop-way.way c.args.self.now.cache ≡ checked c.args.addr c.args.self.now.cache =
    ap₂ (λ (a n : ℕ). checked_from a n c.args.self.now.cache) c.first_slot-first.ensures.first all in
    record {
      dropped = inv.dropped ∙ ap (λ (c : Checked). c.dropped) k;
      checked = inv.checked ∙ ap (λ (c : Checked). with_cache c.cache old) k;
      clean = λ w lt.
          let below : w < c.loop-way.way = rw all (rw inv.keeps.shape at lt) in
          rw (inv.keeps.shape, ← c.first_slot-first.ensures.first) (inv.clean w below);
      stays = inv.stays;
      uses = inv.uses;
      keeps = inv.keeps;
    }
