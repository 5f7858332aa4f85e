-- A step begins: its flips use no slot of a cache, so that a core that can run still can.
use Rattle.std.proofs.Common.{◌≡◌, ℕ, ◌+◌, ◌≤◌, Bool, true, false, cond, nat_eq, List, [], ◌∷◌, refl, ap, ◌∙◌, arith}
use Rattle.core_parts.specs.CanRun.{CanRun}
use Rattle.core_parts.specs.Inside.{room_in, uses_left}
use Rattle.core_parts.specs.Strikes.{arrays_of, with_arrays, own_flips, IsFor, Came}
use Rattle.core_parts.specs.declared.arrays.Arrays.{Arrays}
use Rattle.core_parts.specs.declared.parts.Parts.{Parts}
use Rattle.lf_model.specs.Caches.Slot.{befalls}
use Rattle.lf_model.specs.Course.Arrays.{struck_by, struck_tag, struck_line, with_cache, strike, begun}
use Rattle.lf_model.specs.Course.Arrays.{Arrays as CourseArrays}
use Rattle.lf_model.specs.Ledger.FlipFate.{cache_in}
use Rattle.lf_model.specs.declared.flip.Flip.{Flip}
use Rattle.lf_model.specs.declared.flip.Flip.TheVariants.{Mem, Reg, Tag, Line}

one_strike : (f : Bool) (step number : ℕ) (a : CourseArrays) (flip : Flip) → (cache_in f (strike step number a flip)).uses ≡ (cache_in f a).uses
one_strike f step number a (Mem turn addr bit) = refl
one_strike f step number a (Reg core t cell bit) = by (nat_eq t step)
  where
    by : (now : Bool) → (cache_in f (cond {A = CourseArrays} now (record a { cells = befalls (struck_by number bit) cell a.cells }) a)).uses ≡ (cache_in f a).uses
    by true = refl
    by false = refl
one_strike f step number a (Tag core t fetch way set byte bit) = by (nat_eq t step) fetch f
  where
    by : (now fetch f : Bool) → (cache_in f (cond {A = CourseArrays} now (with_cache (struck_tag number bit way set byte) fetch a) a)).uses ≡ (cache_in f a).uses
    by true true true = refl
    by true true false = refl
    by true false true = refl
    by true false false = refl
    by false fetch f = refl
one_strike f step number a (Line core t fetch way set byte bit) = by (nat_eq t step) fetch f
  where
    by : (now fetch f : Bool) → (cache_in f (cond {A = CourseArrays} now (with_cache (struck_line number bit way set byte) fetch a) a)).uses ≡ (cache_in f a).uses
    by true true true = refl
    by true true false = refl
    by true false true = refl
    by true false false = refl
    by false fetch f = refl

begun_uses : (f : Bool) (flips : List (ℕ × Flip)) (step : ℕ) (a : CourseArrays) → (cache_in f (begun flips step a)).uses ≡ (cache_in f a).uses
begun_uses f [] step a = refl
begun_uses f (flip ∷ flips) step a = begun_uses f flips step (strike step flip.0 a flip.1) ∙ one_strike f step flip.0 a flip.1

-- arrays after the flips of the step, in place of the core's
pub can_run_begun : (p : Parts) → CanRun p.record.steps 0 p → (a : Arrays) → a ≡ with_arrays p.arrays (begun (own_flips p.record.core p.site.flips) p.record.steps (arrays_of p.arrays))
    → IsFor p.record.core p.site.flips a → Came p.site.flips p.record.core (p.record.steps + 1) (arrays_of a) → CanRun (p.record.steps + 1) 0 (record p { arrays = a })
can_run_begun p runs a struck units came = record {
  units = units;
  came = came;
  room =
      let uses : a.data_cache.cache.uses ≡ p.arrays.data_cache.cache.uses = ap (λ (x : Arrays). x.data_cache.cache.uses) struck ∙ begun_uses false (own_flips p.record.core p.site.flips) p.record.steps (arrays_of p.arrays) in
      let room : p.site.config.steps ≤ room_in p + p.record.steps = runs.room in
      omega (arith, uses, room);
  fetch_room =
      let uses : a.fetch_cache.cache.uses ≡ p.arrays.fetch_cache.cache.uses = ap (λ (x : Arrays). x.fetch_cache.cache.uses) struck ∙ begun_uses true (own_flips p.record.core p.site.flips) p.record.steps (arrays_of p.arrays) in
      let room : p.site.config.steps ≤ uses_left p.arrays.fetch_cache + (p.record.steps + 0) = runs.fetch_room in
      omega (arith, uses, room);
}
