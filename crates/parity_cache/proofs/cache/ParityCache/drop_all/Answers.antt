use Rattle.std.proofs.Common.{ℕ, ◌<◌, ◌≤◌, List, length, refl, sym, ap, ◌∙◌, add-one, arith}
use Rattle.lf_model.specs.Caches.Change.{flushed}
use Rattle.lf_model.specs.Caches.Slot.{Slot}
use Rattle.parity_cache.specs.CacheState.{with_cache}
use Rattle.parity_cache.specs.Kept.{seen}
use Rattle.parity_cache.proofs.MarkLemmas.{marked_below}
use Rattle.parity_cache.proofs.SetLemmas.{dropped_below, dropped_length, dropped_next, dropped_all}
use Rattle.parity_cache.proofs.cache.ParityCache.drop_all.Goals as goal

pub invariant_of-self : goal.invariant_of-self
invariant_of-self c = rw c.loop-i.invariant (record {
  shape = c.self.invariant.shape;
  some_set = c.self.invariant.some_set;
  few_sets = c.self.invariant.few_sets;
  slots = dropped_length c.loop-i.i c.self.inside.slots.slots ∙ c.self.invariant.slots;
  tag_errors = c.self.invariant.tag_errors;
  byte_errors = c.self.invariant.byte_errors;
  marks = c.self.invariant.marks;
  marked = marked_below c.self.inside.may_be_struck c.self.inside.shape.ways c.loop-i.i c.self.inside.slots.slots c.self.invariant.marked;
})

pub drop_line-requires : goal.drop_line-requires
drop_line-requires c =
    let all = dropped_length c.loop-i.i c.self.inside.slots.slots in
    let lt : c.loop-i.i < length (dropped_below c.loop-i.i c.self.inside.slots.slots) = omega (arith, all, c.self.invariant.slots, c.loop-i-test.true) in
    rw c.loop-i.invariant lt

pub loop-i-preserved : goal.loop-i-preserved
loop-i-preserved c =
    let s = c.self.inside in
    let lt : c.loop-i.i < length c.self.inside.slots.slots = omega (arith, c.self.invariant.slots, c.loop-i-test.true) in
    rw (c.drop_line.ensures, c.loop-i.invariant)
    (ap (λ (slots : List Slot). record s { slots = record s.slots { slots = slots } }) (dropped_next c.loop-i.i c.self.inside.slots.slots lt ∙ ap (λ (n : ℕ). dropped_below n c.self.inside.slots.slots) (sym (add-one c.loop-i.i))))

pub returns-clause-dropped : goal.returns-clause-dropped
unfolding flushed
returns-clause-dropped c =
    let s = c.self.inside in
    let all : length c.self.inside.slots.slots ≤ c.loop-i.i = omega (arith, c.self.invariant.slots, c.loop-i-test.false) in
    rw (← c.self.view_is, c.loop-i.invariant)
    (ap (λ (slots : List Slot). with_cache (record (seen s).cache { slots = slots }) (seen s)) (dropped_all c.loop-i.i c.self.inside.slots.slots all))

pub returns-clause-keeps : goal.returns-clause-keeps
returns-clause-keeps c = rw (← c.self.view_is, c.loop-i.invariant) (record {
  shape = refl;
  slots = dropped_length c.loop-i.i c.self.inside.slots.slots;
  flips = refl;
  uses_at_most = omega arith;
  tag_errors = λ few. few;
  byte_errors = λ few. few;
})
