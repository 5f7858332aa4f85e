-- A core that could run before a turn can run on after it: no flip strikes in a turn, and it takes no more room than the step that it ends.
use Rattle.std.proofs.Common.{◌≡◌, ◌+◌, ◌≤◌, ℕ, true, false, Bool, nat_le, List, [], ◌∷◌, map, drop, fold, refl, ap, arith, if◌then◌else◌}
use Rattle.std.proofs.lemmas.Bool.{leb-true}
use Rattle.std.proofs.lemmas.List.{length-map}
use Rattle.core_laws.specs.SeenSoFar.{lost_from}
use Rattle.core_parts.proofs.Quiet.{QuietArrays, quiet_arrays_then, quiet_touch, quiet_touches}
use Rattle.core_parts.proofs.Stays.{came_stays, units_of_script_stay}
use Rattle.core_parts.specs.CanRun.{CanRun}
use Rattle.core_parts.specs.Inside.{room_in, uses_left}
use Rattle.core_parts.specs.Strikes.{arrays_of}
use Rattle.core_parts.specs.Losing.{first_number}
use Rattle.core_parts.specs.declared.parts.Parts.{Parts}
use Rattle.lf_model.specs.Caches.Cache.{Cache}
use Rattle.lf_model.specs.Caches.Change.{snooped, filled}
use Rattle.lf_model.specs.Course.Arrays.{Arrays as CourseArrays}
use Rattle.lf_model.specs.Course.Touches.{touched}
use Rattle.lf_model.specs.declared.bus.Entry.{Entry}
use Rattle.lf_model.specs.declared.setup.Setup.{Setup}
use Rattle.lf_model.specs.declared.touch.Touch.TheVariants.{SnoopData, FillFetch, FillData}
use Rattle.parity_cache.specs.CacheState.{filled_cache}
use Rattle.snoop.specs.Snooping.{address_of}
use Rattle.core_turns.specs.CanTurn.{steps_ended, turn_over}
use Rattle.core_turns.specs.CatchingUp.{caught_up_parts}
use Rattle.core_turns.specs.Drains.{drained_if}

-- no flip struck; taken: how much room for operations, and uses of the data cache, it took; fetches: how often it used the fetch cache
pub record Leaves (taken fetches : ℕ) (old new : Parts) : Type 0 where
  pub quiet : QuietArrays (arrays_of old.arrays) (arrays_of new.arrays)
  pub cells : new.arrays.registers.flips ≡ old.arrays.registers.flips
  pub fetch : new.arrays.fetch_cache.flips ≡ old.arrays.fetch_cache.flips
  pub loads : new.arrays.data_cache.flips ≡ old.arrays.data_cache.flips
  pub site : new.site ≡ old.site
  pub core : new.«record».core ≡ old.«record».core
  pub steps : new.«record».steps ≡ old.«record».steps
  pub room : room_in old ≤ room_in new + taken
  pub uses : uses_left old.arrays.fetch_cache ≤ uses_left new.arrays.fetch_cache + fetches

-- ---- before the transfer

pub runs_kept : (begun looked : ℕ) (old new : Parts) → Leaves 0 0 old new → CanRun begun looked old → CanRun begun looked new
runs_kept begun looked old new l runs = record {
  units = rw (l.core, l.site) (units_of_script_stay old.«record».core old.site.flips old.arrays new.arrays l.quiet l.cells l.fetch l.loads runs.units);
  came = rw (l.core, l.site) (came_stays (arrays_of old.arrays) (arrays_of new.arrays) l.quiet old.site.flips old.«record».core begun runs.came);
  room =
      let steps : new.«record».steps ≡ old.«record».steps = l.steps in
      let limit : new.site.config.steps ≡ old.site.config.steps = ap (λ (s : Setup). s.config.steps) l.site in
      let room : old.site.config.steps ≤ room_in old + old.«record».steps = runs.room in
      let taken : room_in old ≤ room_in new + 0 = l.room in
      omega (arith, steps, limit, room, taken);
  fetch_room =
      let steps : new.«record».steps ≡ old.«record».steps = l.steps in
      let limit : new.site.config.steps ≡ old.site.config.steps = ap (λ (s : Setup). s.config.steps) l.site in
      let room : old.site.config.steps ≤ uses_left old.arrays.fetch_cache + (old.«record».steps + looked) = runs.fetch_room in
      let taken : uses_left old.arrays.fetch_cache ≤ uses_left new.arrays.fetch_cache + 0 = l.uses in
      omega (arith, steps, limit, room, taken);
}

-- ---- once the turn is over

-- either all steps were made, or the step that ends gives back what the turn took
enough : (all : Bool) (limit steps left left' taken looked : ℕ) → nat_le limit steps ≡ all → limit ≤ left + (steps + looked) → left ≤ left' + taken → taken + looked ≤ 1
    → limit ≤ left' + (if all then steps else steps + 1)
enough true limit steps left left' taken looked is room used few = let made = leb-true limit steps is in omega (arith, made)
enough false limit steps left left' taken looked is room used few = omega (arith, room, used, few)

pub runs_over : (begun looked taken fetches : ℕ) (old new : Parts) → taken ≤ 1 → fetches + looked ≤ 1 → Leaves taken fetches old new → CanRun begun looked old → CanRun begun 0 (turn_over new)
runs_over begun looked taken fetches old new few once l runs = record {
  units = rw (l.core, l.site) (units_of_script_stay old.«record».core old.site.flips old.arrays new.arrays l.quiet l.cells l.fetch l.loads runs.units);
  came = rw (l.core, l.site) (came_stays (arrays_of old.arrays) (arrays_of new.arrays) l.quiet old.site.flips old.«record».core begun runs.came);
  room =
      let steps : new.«record».steps ≡ old.«record».steps = l.steps in
      let limit : new.site.config.steps ≡ old.site.config.steps = ap (λ (s : Setup). s.config.steps) l.site in
      let room : old.site.config.steps ≤ room_in old + old.«record».steps = runs.room in
      enough (nat_le new.site.config.steps new.«record».steps) new.site.config.steps new.«record».steps (room_in old) (room_in new) taken 0 refl (omega (arith, steps, limit, room)) l.room (omega (arith, few));
  fetch_room =
      let steps : new.«record».steps ≡ old.«record».steps = l.steps in
      let limit : new.site.config.steps ≡ old.site.config.steps = ap (λ (s : Setup). s.config.steps) l.site in
      let room : old.site.config.steps ≤ uses_left old.arrays.fetch_cache + (old.«record».steps + looked) = runs.fetch_room in
      let left : new.site.config.steps ≤ uses_left new.arrays.fetch_cache + steps_ended new =
      enough (nat_le new.site.config.steps new.«record».steps) new.site.config.steps new.«record».steps (uses_left old.arrays.fetch_cache) (uses_left new.arrays.fetch_cache) fetches looked refl
      (omega (arith, steps, limit, room)) l.uses once in
      more new.site.config.steps (uses_left new.arrays.fetch_cache) (steps_ended new) left;
}
  where
    more : (limit left steps : ℕ) → limit ≤ left + steps → limit ≤ left + (steps + 0)
    more limit left steps le = omega (arith, le)

-- the same core, before its step looked its fetch up
pub looked_later : (begun : ℕ) (p : Parts) → CanRun begun 0 p → CanRun begun 1 p
looked_later begun p runs = record {
  units = runs.units;
  came = runs.came;
  room = runs.room;
  fetch_room = let room : p.site.config.steps ≤ uses_left p.arrays.fetch_cache + (p.«record».steps + 0) = runs.fetch_room in omega (arith, room);
}

-- ---- what each part of a turn leaves

quiet_caught : (addrs : List ℕ) (a : CourseArrays) → QuietArrays a (record a { data_cache = fold snooped a.data_cache addrs })
quiet_caught [] a = quiet_touches [] a
quiet_caught (addr ∷ addrs) a =
    let next : CourseArrays = touched [] a (SnoopData addr) in
    quiet_arrays_then a (touched [] a (SnoopData addr)) (record next { data_cache = fold snooped next.data_cache addrs }) (quiet_touch a (SnoopData addr)) (quiet_caught addrs (touched [] a (SnoopData addr)))

filled_uses : (addr valid : ℕ) (c : Cache) → (filled addr valid c).uses ≡ c.uses + 1
unfolding filled
filled_uses addr valid c = refl

module _ (p : Parts) where
  pub leaves_caught : (log : List Entry) → (fold snooped p.arrays.data_cache.cache (map address_of (drop p.«record».seen log))).uses ≤ p.arrays.data_cache.cache.uses
      → Leaves 0 0 p (caught_up_parts log p)
  leaves_caught log fewer = record {
    quiet = quiet_caught (map address_of (drop p.«record».seen log)) (arrays_of p.arrays);
    cells = refl;
    fetch = refl;
    loads = refl;
    site = refl;
    core = refl;
    steps = refl;
    room = omega (arith, fewer);
    uses = omega arith;
  }

  pub leaves_fetched : (line valid : ℕ) (words : List ℕ) → Leaves 0 1 p (record p { arrays = record p.arrays { fetch_cache = filled_cache line valid words p.arrays.fetch_cache } })
  leaves_fetched line valid words = record {
    quiet = quiet_touch (arrays_of p.arrays) (FillFetch line valid);
    cells = refl;
    fetch = refl;
    loads = refl;
    site = refl;
    core = refl;
    steps = refl;
    room = omega arith;
    uses = omega (arith, filled_uses line valid p.arrays.fetch_cache.cache);
  }

  pub leaves_loaded : (line valid : ℕ) (words : List ℕ) → Leaves 1 0 p (record p { arrays = record p.arrays { data_cache = filled_cache line valid words p.arrays.data_cache } })
  leaves_loaded line valid words = record {
    quiet = quiet_touch (arrays_of p.arrays) (FillData line valid);
    cells = refl;
    fetch = refl;
    loads = refl;
    site = refl;
    core = refl;
    steps = refl;
    room = omega (arith, filled_uses line valid p.arrays.data_cache.cache);
    uses = omega arith;
  }

  pub leaves_drained : (enters : Bool) → Leaves 0 0 p (drained_if enters p)
  leaves_drained true = record {
    quiet = quiet_touches [] (arrays_of p.arrays);
    cells = refl;
    fetch = refl;
    loads = refl;
    site = refl;
    core = refl;
    steps = refl;
    room = omega arith;
    uses = omega arith;
  }
  leaves_drained false = record {
    quiet = quiet_touches [] (arrays_of p.arrays);
    cells = refl;
    fetch = refl;
    loads = refl;
    site = refl;
    core = refl;
    steps = refl;
    room =
        let same = length-map p.«record».ops (lost_from (first_number p.buffer.waiting)) in
        omega (arith, same);
    uses = omega arith;
  }

  pub leaves_same : Leaves 0 0 p p
  leaves_same = record {
    quiet = quiet_touches [] (arrays_of p.arrays);
    cells = refl;
    fetch = refl;
    loads = refl;
    site = refl;
    core = refl;
    steps = refl;
    room = omega arith;
    uses = omega arith;
  }
