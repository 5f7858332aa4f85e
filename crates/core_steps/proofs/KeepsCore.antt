-- A try keeps what holds of the state registers and the parts of a core.
use Rattle.std.proofs.Common.{◌≡◌, ◌∙◌, ◌++◌, ℕ, Bool, true, false, nat_le, List, [], ◌∷◌, fold, Option, Some, None, if◌then◌else◌, refl, sym, ap, subst, arith}
use Rattle.std.specs.List.{AllByRecursion as Each, list_all}
use Rattle.core_laws.proofs.Aligned.{registers_aligned}
use Rattle.core_parts.proofs.FormsKept.{HasForms, StoreFits, StoreFitsBy, PutsNone, PutNone, forms_after, step_keeps, try_none, rest_none}
use Rattle.core_parts.proofs.PortLemmas.{count_made}
use Rattle.core_parts.proofs.RegularMade.{cache_access}
use Rattle.core_parts.proofs.WaitsKept.{waits_worked}
use Rattle.core_parts.specs.Inside.{ports_of, state_in, seen_in, room_in}
use Rattle.core_parts.specs.IsCore.{CanStore, Waits, IsCore}
use Rattle.core_parts.specs.Work.{WorkState, work_touch, work_answers}
use Rattle.core_parts.specs.RecordState.{RecordState}
use Rattle.core_parts.specs.declared.parts.Parts.{Parts}
use Rattle.core_parts.specs.declared.phase.Phase.TheVariants.{Begun}
use Rattle.core_laws.specs.StepTouches.{attempt_touches}
use Rattle.core_parts.specs.PortState.{arrays_in}
use Rattle.core_steps.proofs.AccessFits.{Stores, FitsAt, access_there}
use Rattle.core_steps.proofs.Tried.{made_is}
use Rattle.core_steps.proofs.Valued.{setup_after}
use Rattle.core_steps.proofs.StoresReach.{IsPlaced, Placed, StoresWell, placed_on, can_store_each}
use Rattle.core_steps.specs.Works.{effect_at, touches_at, Works}
use Rattle.lf_model.proofs.EachLemmas.{each_append, each_weaker}
use Rattle.lf_model.specs.Course.Core.{is_store_kind}
use Rattle.lf_model.specs.Course.Touches.{access_touches, barrier_touches, write_touches}
use Rattle.lf_model.specs.Effect.{AccessKind, Access, Effect, operation_kind}
use Rattle.lf_model.specs.Promise.Regular.{is_regular_op}
use Rattle.lf_model.specs.Run.{site_of}
use Rattle.lf_model.specs.Start.{initial_byte}
use Rattle.lf_model.specs.State.{State}
use Rattle.lf_model.specs.Step.{state_of}
use Rattle.lf_model.specs.declared.control.Arch.{Arch}
use Rattle.lf_model.specs.declared.setup.Setup.{Setup}
use Rattle.lf_model.specs.declared.step.Did.{Did}
use Rattle.lf_model.specs.declared.step.Did.TheVariants.{Retired, Turned, Need, Halt, Stop}
use Rattle.lf_model.specs.declared.touch.Touch.{Touch}
use Rattle.lf_model.specs.declared.touch.Touch.TheVariants.{StartStep, LookFetch, ReadCell, WriteCell, LookData, StoreData, FlushCaches, SnoopData, FillFetch, FillData}
use Rattle.parity_slots.specs.SlotState.{IsAccess}
use Rattle.v8_exec.specs.Frame.{Counts}
use Rattle.v8_exec.specs.Touching.{retires_of}

-- ---- the touches of a step store well

well_none : (setup : Setup) (t : Touch) → PutsNone t → StoresWell setup t
well_none setup (StoreData addr len value) none = let e = none.0 in absurd cc
well_none setup (StartStep step) none = tt
well_none setup (LookFetch addr) none = tt
well_none setup (ReadCell cell) none = tt
well_none setup (WriteCell cell) none = tt
well_none setup (LookData addr len) none = tt
well_none setup FlushCaches none = tt
well_none setup (SnoopData addr) none = tt
well_none setup (FillFetch addr valid) none = tt
well_none setup (FillData addr valid) none = tt

-- the store of an instruction, if it has one, is of RAM and changes no text
abbrev PlacedStore : Setup → Option Access → Type 0
PlacedStore setup None = Unit {0}
PlacedStore setup (Some x) = is_store_kind (operation_kind x.kind) ≡ true → IsPlaced setup x.addr x.len

store_well : (setup : Setup) (b : Bool) (x : Access) → (b ≡ true → IsPlaced setup x.addr x.len) → Each (StoresWell setup) (if b then StoreData x.addr x.len x.put ∷ [] else [])
store_well setup true x placed = (placed refl, tt)
store_well setup false x placed = tt

access_well : (setup : Setup) (access : Option Access) → PlacedStore setup access → Each (StoresWell setup) (access_touches access)
access_well setup None placed = tt
access_well setup (Some x) placed = store_well setup (is_store_kind (operation_kind x.kind)) x placed

none_well : (setup : Setup) (ts : List Touch) → PutNone ts → Each (StoresWell setup) ts
none_well setup ts none = each_weaker PutsNone (StoresWell setup) ts (well_none setup) none

retires_well : (setup : Setup) (e : Effect) (did : Did) → PlacedStore setup e.access → Each (StoresWell setup) (retires_of e did)
retires_well setup e Retired placed =
    each_append (StoresWell setup) (access_touches e.access) (barrier_touches e.barrier ++ write_touches e.writes) (access_well setup e.access placed)
    (none_well setup (barrier_touches e.barrier ++ write_touches e.writes) (rest_none e))
retires_well setup e Turned placed = tt
retires_well setup e (Need turn) placed = tt
retires_well setup e (Halt tt_) placed = tt
retires_well setup e (Stop tt_ place syn) placed = tt

-- ---- the store of the instruction at PC

stores_kind : (kind : AccessKind) → is_store_kind (operation_kind kind) ≡ true → Stores kind ≡ true
stores_kind AccessKind.Load is = is
stores_kind AccessKind.Store is = refl
stores_kind AccessKind.Atomic is = refl

module _ (setup : Setup) (core : ℕ) (x : Access) (there : FitsAt (site_of setup core) x) where
  among_caches : IsAccess x.addr x.len
  among_caches = cache_access (site_of setup core) x.addr x.len there.access

  placed_there : is_store_kind (operation_kind x.kind) ≡ true → IsPlaced setup x.addr x.len
  placed_there is = record {
    in_ram = there.access.within;
    aligned = there.access.aligned;
    text = there.text (stores_kind x.kind is);
  }

module _ (setup : Setup) (core : ℕ) (e : Effect) (there : (x : Access) → e.access ≡ Some x → FitsAt (site_of setup core) x) where
  store_fits : (access : Option Access) → e.access ≡ access → StoreFits access
  store_fits None is = tt
  store_fits (Some x) is = λ storing. among_caches setup core x (there x is)

  store_placed : (access : Option Access) → e.access ≡ access → PlacedStore setup access
  store_placed None is = tt
  store_placed (Some x) is = placed_there setup core x (there x is)

  fits_by : (did : Did) → StoreFitsBy e did
  fits_by Retired = store_fits e.access refl
  fits_by Turned = tt
  fits_by (Need turn) = tt
  fits_by (Halt tt_) = tt
  fits_by (Stop tt_ place syn) = tt

-- ---- the depth of the buffer stays

depth_stays : (ts : List Touch) (s : WorkState) → (fold work_touch s ts).ports.depth ≡ s.ports.depth
depth_stays [] s = refl
depth_stays (t ∷ ts) s = depth_stays ts (work_touch s t)

-- ---- the whole

module _ (quiet : ℕ) (did : Did) (old new : Arch) (p q : Parts) (w : Works (nat_le p.site.config.window quiet) did old new (seen_in p) (seen_in q) (state_in p) (state_in q))
    (counts : Counts did old new (seen_in p) (seen_in q) (room_in p) (room_in q)) (is : IsCore old p) (fit : list_all is_regular_op q.record.ops ≡ true) where
  abbrev over : Bool
  over = nat_le p.site.config.window quiet

  abbrev s : State
  s = state_of old (seen_in p)

  abbrev e : Effect
  e = effect_at old (seen_in p) (state_in p)

  abbrev ts : List Touch
  ts = touches_at over old (seen_in p) (state_in p) did

  abbrev looks : List Touch
  looks = if over then [] else attempt_touches p.site.image (state_of old (seen_in p)) (effect_at old (seen_in p) (state_in p)) (arrays_in (ports_of p))

  there : (x : Access) → e.access ≡ Some x → FitsAt (site_of p.site old.core) x
  there = access_there p.site old.core s

  looks_well : (b : Bool) → Each (StoresWell p.site) (if b then [] else attempt_touches p.site.image s e (arrays_in (ports_of p)))
  looks_well true = tt
  looks_well false = none_well p.site (attempt_touches p.site.image s e (arrays_in (ports_of p))) (try_none p.site.image s e (arrays_in (ports_of p)))

  all_well : Each (StoresWell p.site) ts
  all_well = each_append (StoresWell p.site) looks (retires_of e did) (looks_well over) (retires_well p.site e did (store_placed p.site old.core e there e.access refl))

  site_is : q.site ≡ p.site
  site_is = ap (λ (x : WorkState). x.setup) w.left ∙ setup_after (state_in p) ts

  record_is : q.record.core ≡ p.record.core
  record_is = ap (λ (r : RecordState). r.core) (made_is did old new (seen_in p) (seen_in q) (state_in p) (state_in q) quiet [] Begun w (sym is.core))

  waits_now : Each (Placed p.site) q.buffer.waiting
  waits_now =
      let before : Each (Placed p.site) p.buffer.waiting =
      each_weaker (CanStore p.site) (Placed p.site) p.buffer.waiting (λ c can. record { in_ram = can.in_ram; aligned = can.aligned; text = can.text }) is.can_store in
      subst (λ (x : WorkState). Each (Placed p.site) x.pending) (sym w.left) (placed_on p.site ts (state_in p) all_well before)

  forms : HasForms (initial_byte p.site.image) (ports_of q)
  forms = forms_after (initial_byte p.site.image) ts p q w.left
      (step_keeps over p.site.image s e (arrays_in (ports_of p)) did (fits_by p.site old.core e there did))
      (record { fetch_formed = is.fetch_formed; data_formed = is.data_formed; fetch_lines = is.fetch_lines })

  pub core_kept : IsCore new q
  core_kept =
      let registers = registers_aligned p.site old.core (work_answers (state_in p)) did old new (seen_in p) (seen_in q) is.pc is.npc w.run in
      let waits = subst (λ (x : WorkState). Waits x.made.ops x.pending) (sym w.left) (waits_worked ts (state_in p) is.waits) in
      record {
        sound = counts.sound;
        pc = registers.0;
        npc = registers.1;
        core = record_is ∙ (is.core ∙ sym counts.core);
        made = omega (arith, counts.k, is.made, count_made p.record.ops, count_made q.record.ops);
        depth = ap (λ (x : WorkState). x.ports.depth) w.left ∙ (depth_stays ts (state_in p) ∙ (is.depth ∙ ap (λ (x : Setup). x.config.buffer) (sym site_is)));
        few = rw site_is is.few;
        waits = waits;
        can_store = rw site_is (can_store_each p.site q.record.ops q.buffer.waiting waits fit waits_now);
        fetch_formed = forms.fetch_formed;
        data_formed = forms.data_formed;
        fetch_lines = rw site_is forms.fetch_lines;
        ops_fit = fit;
      }
