-- A core can run on after a try: it takes room for one step, and one use of the fetch cache, for the step that it is in.
use Rattle.std.proofs.Common.{◌≡◌, ◌∙◌, ◌+◌, ◌≤◌, ℕ, Bool, true, false, cond, List, [], ◌∷◌, fold, Option, Some, None, unwrap_or, sym, ap, subst, arith}
use Rattle.core_parts.proofs.PortLemmas.{uses_of, look_uses}
use Rattle.core_parts.proofs.Spares.{spares_touches}
use Rattle.core_parts.proofs.Stays.{can_run_on, can_run_looked}
use Rattle.core_parts.specs.CanRun.{CanRun}
use Rattle.core_parts.specs.Inside.{state_in, room_in, uses_left}
use Rattle.core_parts.specs.Work.{work_touch}
use Rattle.core_parts.specs.declared.parts.Parts.{Parts}
use Rattle.core_steps.specs.RunsAfter.{past_step, RunsAfter}
use Rattle.lf_model.specs.Caches.Look.{LookUp, look}
use Rattle.lf_model.specs.Caches.Look.LookUp.{Miss as Misses}
use Rattle.lf_model.specs.Effect.{AccessKind, Access, Effect}
use Rattle.lf_model.specs.State.{State}
use Rattle.lf_model.specs.Step.{Parts as Answers, first_bad, stop_row, trap_row, miss_row, kind_row, access_row, barrier_row, first_row, drains_first, came_to, counted}
use Rattle.lf_model.specs.declared.bus.Why.{Why}
use Rattle.lf_model.specs.declared.bus.Why.TheVariants as whys
use Rattle.lf_model.specs.declared.step.Did.{Did}
use Rattle.lf_model.specs.declared.step.Did.TheVariants.{Retired, Turned, Need, Halt, Stop}
use Rattle.lf_model.specs.declared.step.Look.{Look}
use Rattle.lf_model.specs.declared.step.Look.TheVariants.{Hit, Miss}
use Rattle.lf_model.specs.declared.step.RegBad.{RegBad}
use Rattle.lf_model.specs.declared.step.Turn.TheVariants.{Fetch, Load, Atomic, Drain, Snoop}
use Rattle.lf_model.specs.declared.touch.Touch.{Touch}
use Rattle.parity_cache.specs.CacheState.{CacheState, with_cache}
use Rattle.v8_exec.specs.Touching.{touches_of}

-- ---- what an instruction asks for is no fetch, and it makes no turn

abbrev pub IsOfInstruction : Did → Type 0
IsOfInstruction Retired = Unit {0}
IsOfInstruction Turned = ⊥
IsOfInstruction (Need (Fetch line why)) = ⊥
IsOfInstruction (Need (Load addr len why)) = Unit {0}
IsOfInstruction (Need (Atomic addr len new rd)) = Unit {0}
IsOfInstruction (Need (Drain why)) = Unit {0}
IsOfInstruction (Need Snoop) = Unit {0}
IsOfInstruction (Halt tt_) = Unit {0}
IsOfInstruction (Stop tt_ place syn) = Unit {0}

abbrev OfRow : Option Did → Type 0
OfRow None = Unit {0}
OfRow (Some did) = IsOfInstruction did

drains_of : (waiting : Bool) (why : Why) (did : Did) → IsOfInstruction did → IsOfInstruction (cond waiting (Need (Drain why)) did)
drains_of true why did of = tt
drains_of false why did of = of

stop_of : (parts : Answers) (bad : Option RegBad) → OfRow (stop_row parts bad)
stop_of parts None = tt
stop_of parts (Some bad) = drains_of parts.waiting whys.End (Stop 0x20 bad.cell bad.syn) tt

trap_of : (parts : Answers) (et : Bool) (trap : Option ℕ) → OfRow (trap_row parts et trap)
trap_of parts et None = tt
trap_of parts true (Some tt_) = tt
trap_of parts false (Some tt_) = drains_of parts.waiting whys.End (Halt tt_) tt

miss_of : (parts : Answers) (x : Access) (found : Look) → OfRow (miss_row parts x found)
miss_of parts x (Hit value way) = tt
miss_of parts x (Miss why) = drains_of parts.waiting whys.Miss (Need (Load x.addr x.len why)) tt

full_of : (full : Bool) → OfRow (cond full (Some (Need (Drain whys.Full))) None)
full_of true = tt
full_of false = tt

kind_of : (parts : Answers) (x : Access) (kind : AccessKind) → OfRow (kind_row parts x kind)
kind_of parts x AccessKind.Load = miss_of parts x (parts.look x.addr x.len)
kind_of parts x AccessKind.Store = full_of parts.full
kind_of parts x AccessKind.Atomic = drains_of parts.waiting whys.Atomic (Need (Atomic x.addr x.len x.put x.rd)) tt

access_of : (parts : Answers) (access : Option Access) → OfRow (access_row parts access)
access_of parts None = tt
access_of parts (Some x) = kind_of parts x x.kind

waits_of : (waiting : Bool) (why : Why) → OfRow (cond waiting (Some (Need (Drain why))) None)
waits_of true why = tt
waits_of false why = tt

barrier_of : (parts : Answers) (barrier : Option Why) → OfRow (barrier_row parts barrier)
barrier_of parts None = tt
barrier_of parts (Some why) = waits_of parts.waiting why

rows_of : (a b c d : Option Did) → OfRow a → OfRow b → OfRow c → OfRow d → IsOfInstruction (unwrap_or (first_row (a ∷ b ∷ c ∷ d ∷ [])) Retired)
rows_of (Some did) b c d ha hb hc hd = ha
rows_of None (Some did) c d ha hb hc hd = hb
rows_of None None (Some did) d ha hb hc hd = hc
rows_of None None None (Some did) ha hb hc hd = hd
rows_of None None None None ha hb hc hd = tt

pub came_of : (parts : Answers) (s : State) (e : Effect) → IsOfInstruction (came_to parts s e)
came_of parts s e =
    rows_of (stop_row parts (first_bad parts s.ctl.cwp e.reads)) (trap_row parts s.ctl.et e.trap) (access_row parts e.access) (barrier_row parts e.barrier)
    (stop_of parts (first_bad parts s.ctl.cwp e.reads)) (trap_of parts s.ctl.et e.trap) (access_of parts e.access) (barrier_of parts e.barrier)

-- ---- it can run on

-- with one use more
one_more : (begun : ℕ) (p : Parts) → CanRun begun 0 p → CanRun begun 1 p
one_more begun p runs = record {
  units = runs.units;
  came = runs.came;
  room = runs.room;
  fetch_room = let room : p.site.config.steps ≤ uses_left p.arrays.fetch_cache + (p.record.steps + 0) = runs.fetch_room in omega (arith, room);
}

-- after an instruction that was made, with the fetch cache looked up before it or not. base: the parts as the step began
module _ (base old new : Parts) (looked : ℕ) (few : looked ≤ 1) (parts : Answers) (window : ℕ) (e : Effect) (did : Did)
    (state : state_in new ≡ fold work_touch (state_in old) (touches_of parts window e did)) (runs : CanRun (base.record.steps + 1) looked old) where
  abbrev ts : List Touch
  ts = touches_of parts window e did

  ended : room_in old ≤ room_in new + 1 → CanRun (base.record.steps + 1) 0 (past_step new)
  ended room = can_run_on ts old new state (base.record.steps + 1) 1 looked 0 runs (spares_touches parts window e did) room (omega (arith, few))

  goes_on : room_in old ≤ room_in new → CanRun (base.record.steps + 1) 1 new
  goes_on room =
      let none : new.record.steps + 0 ≡ new.record.steps = omega arith in
      subst (λ (n : ℕ). CanRun (base.record.steps + 1) 1 (record new { «record» = record new.record { steps = n } })) none
      (can_run_on ts old new state (base.record.steps + 1) 0 looked 1 runs (spares_touches parts window e did) (omega (arith, room)) (omega (arith, few)))

  by_did : (d : Did) → IsOfInstruction d → room_in old ≤ room_in new + counted d → RunsAfter d base new
  by_did Retired of room = ended room
  by_did (Halt tt_) of room = ended room
  by_did (Stop tt_ place syn) of room = ended (omega (arith, room))
  by_did (Need (Load addr len why)) of room = goes_on (omega (arith, room))
  by_did (Need (Atomic addr len put rd)) of room = goes_on (omega (arith, room))
  by_did (Need (Drain why)) of room = goes_on (omega (arith, room))
  by_did (Need Snoop) of room = goes_on (omega (arith, room))
  by_did (Need (Fetch line why)) of room = absurd of
  by_did Turned of room = absurd of

  pub runs_instruction : (s : State) (f : Effect) → did ≡ came_to parts s f → room_in old ≤ room_in new + counted did → RunsAfter did base new
  runs_instruction s f is room = by_did did (subst IsOfInstruction (sym is) (came_of parts s f)) room

-- ---- a fetch

module _ (p : Parts) (addr : ℕ) (c : CacheState) (looked : c ≡ with_cache (look addr 4 p.arrays.fetch_cache.cache).cache p.arrays.fetch_cache)
    (runs : CanRun (p.record.steps + 1) 0 p) where
  abbrev mid : Parts
  mid = record p { arrays = record p.arrays { fetch_cache = c } }

  pub runs_looked : CanRun (p.record.steps + 1) 1 mid
  runs_looked = can_run_looked (p.record.steps + 1) addr p c looked runs

  -- one that misses uses no slot
  runs_missed : (why : Why) → (look addr 4 p.arrays.fetch_cache.cache).answer ≡ Misses why → CanRun (p.record.steps + 1) 0 mid
  runs_missed why miss =
      let one = runs_looked in
      let uses : c.cache.uses ≡ p.arrays.fetch_cache.cache.uses =
      ap (λ (s : CacheState). s.cache.uses) looked ∙ (look_uses addr 4 p.arrays.fetch_cache.cache ∙ (ap (λ (found : LookUp). p.arrays.fetch_cache.cache.uses + uses_of found) miss ∙ omega arith)) in
      let room : p.site.config.steps ≤ uses_left p.arrays.fetch_cache + (p.record.steps + 0) = runs.fetch_room in
      record { units = one.units; came = one.came; room = one.room; fetch_room = omega (arith, room, uses) }

  pub runs_fetching : (why : Why) (line : ℕ) (parts : Answers) (did : Did) → (look addr 4 p.arrays.fetch_cache.cache).answer ≡ Misses why
      → did ≡ drains_first parts whys.Miss (Need (Fetch line why)) → RunsAfter did p mid
  runs_fetching why line parts did miss is = subst (λ (d : Did). RunsAfter d p mid) (sym is) (by parts.waiting)
    where
      by : (waiting : Bool) → RunsAfter (cond waiting (Need (Drain whys.Miss)) (Need (Fetch line why))) p mid
      by true = runs_looked
      by false = runs_missed why miss

-- ---- the window is over

pub runs_snooping : (p : Parts) (parts : Answers) (did : Did) → did ≡ drains_first parts whys.Window (Need Snoop) → CanRun (p.record.steps + 1) 0 p → RunsAfter did p p
runs_snooping p parts did is runs = subst (λ (d : Did). RunsAfter d p p) (sym is) (by parts.waiting)
  where
    by : (waiting : Bool) → RunsAfter (cond waiting (Need (Drain whys.Window)) (Need Snoop)) p p
    by true = one_more (p.record.steps + 1) p runs
    by false = one_more (p.record.steps + 1) p runs
