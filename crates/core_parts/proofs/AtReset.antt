-- The parts of a core at reset: they are those of its value then, and no flip struck them.
use Rattle.std.proofs.Common.{◌≡◌, ℕ, zero, suc, ◌*◌, ◌+◌, ◌<◌, Bool, true, false, cond, List, [], length, refl, sym, ap, ◌∙◌, arith}
use Rattle.std.specs.Prelude.{replicate, slice_index_or}
use Rattle.std.specs.List.{AllByRecursion}
use Rattle.std.specs.Vec.{vec_capacity}
use Rattle.std.proofs.lemmas.List.{length-replicate}
use Rattle.core_parts.specs.CanRun.{CanRun}
use Rattle.core_parts.specs.CoreValue.{start_value}
use Rattle.core_parts.specs.Inside.{StartsAt, value_of}
use Rattle.core_parts.specs.RecordState.{RecordState}
use Rattle.core_parts.specs.Strikes.{arrays_of, unit_at, history_of, AimsAt}
use Rattle.core_parts.specs.declared.parts.Parts.{Parts}
use Rattle.core_parts.specs.declared.phase.Phase.TheVariants.{Between}
use Rattle.flip_ledger.specs.Follows.{has_struck}
use Rattle.flip_ledger.specs.declared.plan.Target.{Target}
use Rattle.flip_ledger.specs.declared.plan.Target.TheVariants.{Word, Register, Tag, Line}
use Rattle.lf_model.specs.Caches.Cache.{empty_cache}
use Rattle.lf_model.specs.Caches.Slot.{Slot, empty_slot, history_at}
use Rattle.lf_model.specs.Course.Arrays.{reset_arrays, register_cells}
use Rattle.lf_model.specs.Flips.{Moment}
use Rattle.lf_model.specs.State.{reset}
use Rattle.lf_model.specs.declared.config.Config.{Config}
use Rattle.lf_model.specs.declared.config.Shape.{Shape}
use Rattle.lf_model.specs.declared.setup.Setup.{Setup}
use Rattle.parity_cache.specs.CacheState.{CacheState}
use Rattle.parity_cache.specs.CacheUnits.{history_of_unit}

-- the value of a core at reset
pub starts : (setup : Setup) (core : ℕ) (p : Parts) → StartsAt setup core p → value_of (start_value setup core).arch p 0 [] Between ≡ start_value setup core
unfolding reset
starts setup core p s = rw (s.site, s.registers, s.fetch_cache, s.data_cache, s.buffer, s.made, s.out) refl

-- ---- nothing befell the arrays

pub arrays_at_reset : (setup : Setup) (core : ℕ) (p : Parts) → StartsAt setup core p → arrays_of p.arrays ≡ reset_arrays setup.config
arrays_at_reset setup core p s = rw (s.registers, s.fetch_cache, s.data_cache) refl

none_of : {X : Type 0} (n i : ℕ) (x d : X) (P : X → Type 0) → P x → P d → P (slice_index_or (replicate n x) i d)
none_of zero i x d P px pd = pd
none_of (suc n) zero x d P px pd = px
none_of (suc n) (suc i) x d P px pd = none_of n i x d P px pd

module _ (config : Config) (i : ℕ) where
  abbrev Unstruck : List Moment → Type 0
  Unstruck h = has_struck i h ≡ false

  slot_none : (tag : Bool) (b : ℕ) → Unstruck (history_at b (cond tag empty_slot.tag_histories empty_slot.line_histories))
  slot_none true b = none_of 4 b [] [] Unstruck refl refl
  slot_none false b = none_of 32 b [] [] Unstruck refl refl

  cache_none : (shape : Shape) (tag : Bool) (w s b : ℕ) → Unstruck (history_of_unit (unit_at tag w s b) (empty_cache shape))
  cache_none shape true w s b = none_of (shape.ways * shape.sets) (s * shape.ways + w) empty_slot empty_slot (λ (x : Slot). Unstruck (history_at b x.tag_histories)) (slot_none true b) (slot_none true b)
  cache_none shape false w s b = none_of (shape.ways * shape.sets) (s * shape.ways + w) empty_slot empty_slot (λ (x : Slot). Unstruck (history_at b x.line_histories)) (slot_none false b) (slot_none false b)

  none_struck : (it : Target) → Unstruck (history_of (reset_arrays config) it)
  none_struck (Word addr) = refl
  none_struck (Register c) = none_of register_cells c [] [] Unstruck refl refl
  none_struck (Tag true w s b) = cache_none config.fetch_cache true w s b
  none_struck (Tag false w s b) = cache_none config.load_cache true w s b
  none_struck (Line true w s b) = cache_none config.fetch_cache false w s b
  none_struck (Line false w s b) = cache_none config.load_cache false w s b

-- a core at reset can run
pub can_start : (setup : Setup) (core : ℕ) (p : Parts) → StartsAt setup core p → AllByRecursion (AimsAt core (reset_arrays setup.config)) setup.flips → setup.config.steps < 4294967296 → CanRun 0 0 p
can_start setup core p s aims few = record {
  units = rw (s.site, s.made) (record {
    cells = rw s.registers (length-replicate {A = List Moment} register_cells []);
    register_flips = rw s.registers refl;
    fetch_flips = rw s.fetch_cache refl;
    data_flips = rw s.data_cache refl;
    aims = rw (arrays_at_reset setup core p s) aims;
  });
  came = λ i it of struck.
      let none : has_struck i (history_of (arrays_of p.arrays) it) ≡ false = rw (arrays_at_reset setup core p s) (none_struck setup.config i it) in
      let clash : false ≡ true = sym none ∙ struck in
      cc;
  room =
      let steps : p.site.config.steps ≡ setup.config.steps = ap (λ (x : Setup). x.config.steps) s.site in
      let places : p.record.room ≡ setup.config.steps = ap (λ (r : RecordState). r.room) s.made in
      let no_ops : length p.record.ops ≡ 0 = ap (λ (r : RecordState). length r.ops) s.made in
      let no_steps : p.record.steps ≡ 0 = ap (λ (r : RecordState). r.steps) s.made in
      let no_bytes : length p.out.items ≡ 0 = ap (λ (xs : List ℕ). length xs) s.out in
      let bytes : vec_capacity p.out ≡ setup.config.steps = s.out_room in
      let no_uses : p.arrays.data_cache.cache.uses ≡ 0 = ap (λ (c : CacheState). c.cache.uses) s.data_cache in
      omega arith;
  fetch_room =
      let steps : p.site.config.steps ≡ setup.config.steps = ap (λ (x : Setup). x.config.steps) s.site in
      let no_uses : p.arrays.fetch_cache.cache.uses ≡ 0 = ap (λ (c : CacheState). c.cache.uses) s.fetch_cache in
      omega arith;
}
