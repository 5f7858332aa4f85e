use Rattle.std.proofs.Common.{ℕ, ◌<◌, ◌≤◌, List, length, refl, sym, ap, ◌∙◌, add-one, arith}
use Rattle.lf_model.specs.Caches.Change.{flushed}
use Rattle.lf_model.specs.Caches.Slot.{Slot}
use Rattle.replay_caches.specs.CacheState.{with_cache}
use Rattle.replay_caches.specs.CacheInside.{seen}
use Rattle.replay_caches.proofs.SetLemmas.{dropped_below, dropped_length, dropped_next, dropped_all}
use Rattle.replay_caches.proofs.cache.Cache.flush.Goals as goal

pub invariant_of-self : goal.invariant_of-self
invariant_of-self c = rw c.loop-i.invariant (record {
  some_way = c.self.invariant.some_way;
  few_ways = c.self.invariant.few_ways;
  some_set = c.self.invariant.some_set;
  few_sets = c.self.invariant.few_sets;
  slots = dropped_length c.loop-i.i c.self.inside.slots.slots ∙ c.self.invariant.slots;
  tag_errors = c.self.invariant.tag_errors;
  byte_errors = c.self.invariant.byte_errors;
})

pub drop_line-requires : goal.drop_line-requires
drop_line-requires c =
    let all = dropped_length c.loop-i.i c.self.inside.slots.slots in
    let lt : c.loop-i.i < length (dropped_below c.loop-i.i c.self.inside.slots.slots) = omega (arith, all, c.self.invariant.slots, c.loop-i-test.true) in
    rw c.loop-i.invariant lt

pub loop-i-preserved : goal.loop-i-preserved
loop-i-preserved c =
    let s = c.self.inside in
    let lt : c.loop-i.i < length c.self.inside.slots.slots = omega (arith, c.self.invariant.slots, c.loop-i-test.true) in
    rw (c.drop_line.ensures, c.loop-i.invariant)
    (ap (λ (slots : List Slot). record s { slots = record s.slots { slots = slots } }) (dropped_next c.loop-i.i c.self.inside.slots.slots lt ∙ ap (λ (n : ℕ). dropped_below n c.self.inside.slots.slots) (sym (add-one c.loop-i.i))))

pub returns-clause-flushed : goal.returns-clause-flushed
unfolding flushed
returns-clause-flushed c =
    let s = c.self.inside in
    let all : length c.self.inside.slots.slots ≤ c.loop-i.i = omega (arith, c.self.invariant.slots, c.loop-i-test.false) in
    rw (← c.self.view_is, c.loop-i.invariant)
    (ap (λ (slots : List Slot). with_cache (record (seen s).cache { slots = slots }) (seen s)) (dropped_all c.loop-i.i c.self.inside.slots.slots all))

pub returns-clause-keeps : goal.returns-clause-keeps
returns-clause-keeps c = rw (← c.self.view_is, c.loop-i.invariant) (record {
  shape = refl;
  slots = dropped_length c.loop-i.i c.self.inside.slots.slots;
  flips = refl;
  uses_at_most = omega arith;
})
