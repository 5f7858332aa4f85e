-- What holds of the arrays of a core and the script stays, where no flip strikes: as touches of instructions and turns go.
use Rattle.std.proofs.Common.{◌≡◌, ℕ, ◌+◌, ◌*◌, ◌≤◌, Bool, true, false, List, [], ◌∷◌, refl, sym, ap, ◌∙◌, subst, arith}
use Rattle.std.specs.Prelude.{fold}
use Rattle.core_parts.proofs.PortLemmas.{uses_of, look_uses}
use Rattle.core_parts.proofs.Quiet.{StruckIn, QuietCache, QuietArrays, quiet_touch, quiet_touches}
use Rattle.core_parts.proofs.Spares.{AllSpare, fetch_uses_stay}
use Rattle.core_parts.proofs.StrikeLemmas.{units_stay}
use Rattle.core_parts.specs.CanRun.{CanRun}
use Rattle.core_parts.specs.Inside.{state_in, room_in, uses_left}
use Rattle.core_parts.specs.PortState.{arrays_in, answers}
use Rattle.core_parts.specs.Strikes.{arrays_of, unit_at, history_of, AimsAt, IsFor, Came}
use Rattle.core_parts.specs.Work.{WorkState, work_touch, load_made}
use Rattle.core_parts.specs.declared.arrays.Arrays.{Arrays}
use Rattle.core_parts.specs.declared.parts.Parts.{Parts}
use Rattle.flip_ledger.specs.Follows.{has_struck}
use Rattle.flip_ledger.specs.Plan.{target_of}
use Rattle.flip_ledger.specs.declared.plan.Target.{Target}
use Rattle.flip_ledger.specs.declared.plan.Target.TheVariants.{Word, Register, Tag, Line}
use Rattle.lf_model.proofs.EachLemmas.{each_weaker}
use Rattle.lf_model.specs.Caches.Cache.{slot_at}
use Rattle.lf_model.specs.Caches.Look.{LookUp, look}
use Rattle.lf_model.specs.Caches.Look.LookUp.{Hit as Hits, Miss as Misses}
use Rattle.lf_model.specs.Course.Arrays.{Arrays as CourseArrays}
use Rattle.lf_model.specs.Course.Touches.{touched}
use Rattle.lf_model.specs.Ledger.FlipFate.{cache_in}
use Rattle.lf_model.specs.declared.config.Shape.{Shape}
use Rattle.lf_model.specs.declared.flip.Flip.{Flip}
use Rattle.lf_model.specs.declared.setup.Setup.{Setup}
use Rattle.lf_model.specs.declared.step.Look.{Look}
use Rattle.lf_model.specs.declared.step.Look.TheVariants.{Hit, Miss}
use Rattle.lf_model.specs.declared.touch.Touch.{Touch}
use Rattle.lf_model.specs.declared.touch.Touch.TheVariants.{StartStep, LookFetch, ReadCell, WriteCell, LookData, StoreData, FlushCaches, SnoopData, FillFetch, FillData}
use Rattle.parity_cache.specs.CacheState.{CacheState, with_cache}
use Rattle.parity_cache.specs.CacheUnits.{history_of_unit}

module _ (old new : CourseArrays) (quiet : QuietArrays old new) where
  quiet_in : (fetch : Bool) → QuietCache (cache_in fetch old) (cache_in fetch new)
  quiet_in true = quiet.fetch_cache
  quiet_in false = quiet.data_cache

  unit_struck : (fetch tag : Bool) (i w s b : ℕ) → has_struck i (history_of_unit (unit_at tag w s b) (cache_in fetch new)) ≡ true → has_struck i (history_of_unit (unit_at tag w s b) (cache_in fetch old)) ≡ true
  unit_struck fetch tag i w s b struck =
      subst (λ (shape : Shape). StruckIn tag i b (slot_at (s * shape.ways + w) (cache_in fetch old))) (quiet_in fetch).shape
      ((quiet_in fetch).units tag i b (s * (cache_in fetch new).shape.ways + w) struck)

  struck_before : (i : ℕ) (it : Target) → has_struck i (history_of new it) ≡ true → has_struck i (history_of old it) ≡ true
  struck_before i (Word addr) struck = struck
  struck_before i (Register c) struck = quiet.cells i c struck
  struck_before i (Tag fetch w s b) struck = unit_struck fetch true i w s b struck
  struck_before i (Line fetch w s b) struck = unit_struck fetch false i w s b struck

  pub came_stays : (script : List Flip) (core step : ℕ) → Came script core step old → Came script core step new
  came_stays script core step came i it of struck = came i it (units_stay new old (λ fetch. sym (quiet_in fetch).shape) it of) (struck_before i it struck)

  pub aims_stay : (core : ℕ) (flip : Flip) → AimsAt core old flip → AimsAt core new flip
  aims_stay core flip aims own = (units_stay old new (λ fetch. (quiet_in fetch).shape) (target_of flip) (aims own).0, (aims own).1)

-- the arrays of a core stay those for its script
pub units_of_script_stay : (core : ℕ) (script : List Flip) (old new : Arrays) → QuietArrays (arrays_of old) (arrays_of new) → new.registers.flips ≡ old.registers.flips
    → new.fetch_cache.flips ≡ old.fetch_cache.flips → new.data_cache.flips ≡ old.data_cache.flips → IsFor core script old → IsFor core script new
units_of_script_stay core script old new quiet cells fetch loads units = record {
  cells = quiet.count ∙ units.cells;
  register_flips = cells ∙ units.register_flips;
  fetch_flips = fetch ∙ units.fetch_flips;
  data_flips = loads ∙ units.data_flips;
  aims = each_weaker (AimsAt core (arrays_of old)) (AimsAt core (arrays_of new)) script (aims_stay (arrays_of old) (arrays_of new) quiet core) units.aims;
}

-- ---- the touches of an instruction

pub arrays_touched : (ts : List Touch) (s : WorkState) → arrays_in (fold work_touch s ts).ports ≡ fold (touched []) (arrays_in s.ports) ts
arrays_touched [] s = refl
arrays_touched (t ∷ ts) s = arrays_touched ts (work_touch s t)

flips_stay : (ts : List Touch) (s : WorkState) → (fold work_touch s ts).flips ≡ s.flips
flips_stay [] s = refl
flips_stay (t ∷ ts) s = flips_stay ts (work_touch s t)

fetch_flips_stay : (ts : List Touch) (s : WorkState) → (fold work_touch s ts).ports.fetch_cache.flips ≡ s.ports.fetch_cache.flips
fetch_flips_stay [] s = refl
fetch_flips_stay (t ∷ ts) s = fetch_flips_stay ts (work_touch s t)

data_flips_stay : (ts : List Touch) (s : WorkState) → (fold work_touch s ts).ports.data_cache.flips ≡ s.ports.data_cache.flips
data_flips_stay [] s = refl
data_flips_stay (t ∷ ts) s = data_flips_stay ts (work_touch s t)

pub setup_stays : (ts : List Touch) (s : WorkState) → (fold work_touch s ts).setup ≡ s.setup
setup_stays [] s = refl
setup_stays (t ∷ ts) s = setup_stays ts (work_touch s t)

made_once : (t : Touch) (s : WorkState) → ((work_touch s t).made.core ≡ s.made.core) × ((work_touch s t).made.steps ≡ s.made.steps)
made_once (LookData addr len) s = by ((answers s.ports).look addr len)
  where
    by : (answer : Look) → ((load_made addr len answer s.made).core ≡ s.made.core) × ((load_made addr len answer s.made).steps ≡ s.made.steps)
    by (Hit value way) = (refl, refl)
    by (Miss why) = (refl, refl)
made_once (StoreData addr len value) s = (refl, refl)
made_once (StartStep step) s = (refl, refl)
made_once (LookFetch addr) s = (refl, refl)
made_once (ReadCell cell) s = (refl, refl)
made_once (WriteCell cell) s = (refl, refl)
made_once FlushCaches s = (refl, refl)
made_once (SnoopData addr) s = (refl, refl)
made_once (FillFetch addr valid) s = (refl, refl)
made_once (FillData addr valid) s = (refl, refl)

record_stays : (ts : List Touch) (s : WorkState) → ((fold work_touch s ts).made.core ≡ s.made.core) × ((fold work_touch s ts).made.steps ≡ s.made.steps)
record_stays [] s = (refl, refl)
record_stays (t ∷ ts) s =
    let later = record_stays ts (work_touch s t) in
    let now = made_once t s in
    (later.0 ∙ now.0, later.1 ∙ now.1)

uses_at_most : (answer : LookUp) → uses_of answer ≤ 1
uses_at_most (Hits slot) = omega arith
uses_at_most (Misses why) = omega arith

module _ (ts : List Touch) (old new : Parts) (state : state_in new ≡ fold work_touch (state_in old) ts) where
  quiet_parts : QuietArrays (arrays_of old.arrays) (arrays_of new.arrays)
  quiet_parts =
      subst (λ (a : CourseArrays). QuietArrays (arrays_of old.arrays) a) (sym (ap (λ (s : WorkState). arrays_in s.ports) state ∙ arrays_touched ts (state_in old)))
      (quiet_touches ts (arrays_of old.arrays))

  -- after an instruction the same flips have come
  pub came_after : (script : List Flip) (core step : ℕ) → Came script core step (arrays_of old.arrays) → Came script core step (arrays_of new.arrays)
  came_after script core step came = came_stays (arrays_of old.arrays) (arrays_of new.arrays) quiet_parts script core step came

  pub units_after : (core : ℕ) (script : List Flip) → IsFor core script old.arrays → IsFor core script new.arrays
  units_after core script units =
      units_of_script_stay core script old.arrays new.arrays quiet_parts (ap (λ (s : WorkState). s.flips) state ∙ flips_stay ts (state_in old))
      (ap (λ (s : WorkState). s.ports.fetch_cache.flips) state ∙ fetch_flips_stay ts (state_in old)) (ap (λ (s : WorkState). s.ports.data_cache.flips) state ∙ data_flips_stay ts (state_in old)) units

  -- what an instruction leaves of the record and the setup
  record_is : (new.record.core ≡ old.record.core) × ((new.record.steps ≡ old.record.steps) × (new.site ≡ old.site))
  record_is =
      let kept = record_stays ts (state_in old) in (
        ap (λ (s : WorkState). s.made.core) state ∙ kept.0,
        (ap (λ (s : WorkState). s.made.steps) state ∙ kept.1, ap (λ (s : WorkState). s.setup) state ∙ setup_stays ts (state_in old)),
      )

  -- a core that can run can run on after an instruction, which its steps then count or not
  pub can_run_on : (begun counted looked left : ℕ) → CanRun begun looked old → AllSpare ts → room_in old ≤ room_in new + counted → looked ≤ counted + left
      → CanRun begun left (record new { «record» = record new.record { steps = new.record.steps + counted } })
  can_run_on begun counted looked left runs spares taken enough = record {
    units = rw (record_is.0, record_is.1.1) (units_after old.record.core old.site.flips runs.units);
    came = rw (record_is.0, record_is.1.1) (came_after old.site.flips old.record.core begun runs.came);
    room =
        let steps : new.record.steps ≡ old.record.steps = record_is.1.0 in
        let limit : new.site.config.steps ≡ old.site.config.steps = ap (λ (s : Setup). s.config.steps) record_is.1.1 in
        let room : old.site.config.steps ≤ room_in old + old.record.steps = runs.room in
        omega (arith, steps, limit, room, taken);
    fetch_room =
        let steps : new.record.steps ≡ old.record.steps = record_is.1.0 in
        let limit : new.site.config.steps ≡ old.site.config.steps = ap (λ (s : Setup). s.config.steps) record_is.1.1 in
        let uses : new.arrays.fetch_cache.cache.uses ≡ old.arrays.fetch_cache.cache.uses = ap (λ (s : WorkState). s.ports.fetch_cache.cache.uses) state ∙ fetch_uses_stay ts (state_in old) spares in
        let room : old.site.config.steps ≤ uses_left old.arrays.fetch_cache + (old.record.steps + looked) = runs.fetch_room in
        omega (arith, steps, limit, uses, room, enough);
  }

-- a fetch is looked up
pub can_run_looked : (begun addr : ℕ) (p : Parts) (c : CacheState) → c ≡ with_cache (look addr 4 p.arrays.fetch_cache.cache).cache p.arrays.fetch_cache → CanRun begun 0 p
    → CanRun begun 1 (record p { arrays = record p.arrays { fetch_cache = c } })
can_run_looked begun addr p c is runs =
    let shown : uses_of (look addr 4 p.arrays.fetch_cache.cache).answer ≤ 1 = uses_at_most (look addr 4 p.arrays.fetch_cache.cache).answer in
    let uses : c.cache.uses ≡ p.arrays.fetch_cache.cache.uses + uses_of (look addr 4 p.arrays.fetch_cache.cache).answer =
    ap (λ (s : CacheState). s.cache.uses) is ∙ look_uses addr 4 p.arrays.fetch_cache.cache in
    let quiet : QuietArrays (arrays_of p.arrays) (arrays_of (record p.arrays { fetch_cache = c })) =
    rw is (quiet_touch (arrays_of p.arrays) (LookFetch addr)) in
    let room : p.site.config.steps ≤ uses_left p.arrays.fetch_cache + (p.record.steps + 0) = runs.fetch_room in
    record {
      units =
          units_of_script_stay p.record.core p.site.flips p.arrays (record p.arrays { fetch_cache = c }) quiet refl (ap (λ (s : CacheState). s.flips) is) refl runs.units;
      came = came_stays (arrays_of p.arrays) (arrays_of (record p.arrays { fetch_cache = c })) quiet p.site.flips p.record.core begun runs.came;
      room = runs.room;
      fetch_room = omega (arith, shown, uses, room);
    }

-- a core that can run can run on after a turn, which ends so many steps (0 or 1) and lets no flip strike
pub can_run_turned : (begun looked ended : ℕ) (old new : Parts) → CanRun begun looked old → QuietArrays (arrays_of old.arrays) (arrays_of new.arrays)
    → new.arrays.registers.flips ≡ old.arrays.registers.flips → new.arrays.fetch_cache.flips ≡ old.arrays.fetch_cache.flips → new.arrays.data_cache.flips ≡ old.arrays.data_cache.flips
    → new.site ≡ old.site → new.record.core ≡ old.record.core → new.record.steps ≡ old.record.steps + ended → room_in old ≤ room_in new + ended
    → uses_left old.arrays.fetch_cache + looked ≤ uses_left new.arrays.fetch_cache + ended → CanRun begun 0 new
can_run_turned begun looked ended old new runs quiet cells fetch loads site core steps taken fetched = record {
  units = rw (core, site) (units_of_script_stay old.record.core old.site.flips old.arrays new.arrays quiet cells fetch loads runs.units);
  came = rw (core, site) (came_stays (arrays_of old.arrays) (arrays_of new.arrays) quiet old.site.flips old.record.core begun runs.came);
  room =
      let limit : new.site.config.steps ≡ old.site.config.steps = ap (λ (s : Setup). s.config.steps) site in
      let room : old.site.config.steps ≤ room_in old + old.record.steps = runs.room in
      omega (arith, steps, limit, room, taken);
  fetch_room =
      let limit : new.site.config.steps ≡ old.site.config.steps = ap (λ (s : Setup). s.config.steps) site in
      let room : old.site.config.steps ≤ uses_left old.arrays.fetch_cache + (old.record.steps + looked) = runs.fetch_room in
      omega (arith, steps, limit, room, fetched);
}
