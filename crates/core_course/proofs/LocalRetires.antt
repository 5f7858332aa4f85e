-- An instruction that was tried retires: all that holds of its core stays.
use Rattle.std.proofs.Common.{◌≡◌, ◌∙◌, ◌+◌, ◌<◌, ◌≤◌, ◌++◌, ◌^◌, ℕ, List, [], ◌∷◌, Option, Some, None, length, nat_lt, nat_le, false, refl, sym, ap, subst, arith}
use Rattle.std.proofs.lemmas.List.{append-nil, append_assoc, length-append}
use Rattle.core_course.proofs.CachesTake.{caches_take}
use Rattle.core_course.proofs.Completing.{Sees, sees_none, sees_load, sees_store}
use Rattle.core_course.proofs.HitNumber.{hit_reads}
use Rattle.core_course.proofs.LocalGround.{place_of}
use Rattle.core_course.proofs.LocalSteps.{steps_on}
use Rattle.core_course.proofs.RetiresAs.{RetiresAs, retires_as}
use Rattle.core_course.proofs.Running.{ground_running, RunsOn}
use Rattle.core_course.proofs.StepLines.{retires_plain, retires_store}
use Rattle.core_course.proofs.Tried.{here, left, begins, looked_ports, looks_leave, setup_stays, keeps, ports_are, begins_with}
use Rattle.core_course.specs.CoreOk.{buffer_of, CoreOk}
use Rattle.core_course.specs.Lines.{PortLines}
use Rattle.core_course.specs.Settled.{settled, MayTry}
use Rattle.core_parts.specs.Completes.{op_of, KeepsTurns, CompletesNone, Completes}
use Rattle.core_parts.specs.CoreValue.{CoreValue}
use Rattle.core_parts.specs.Moves.{tried_at, Retires}
use Rattle.core_parts.specs.PortState.{PortState, arrays_in, answers}
use Rattle.core_parts.specs.declared.phase.Phase.TheVariants.{Begun}
use Rattle.core_steps.proofs.Begun.{drained, tried_is}
use Rattle.core_steps.proofs.EffectEnds.{EndsSo, ends_so}
use Rattle.core_steps.proofs.Outcomes.{Comes, comes}
use Rattle.core_steps.proofs.Retiring.{open_by, none_open, retired_none, none_needed, retires_so}
use Rattle.core_steps.proofs.StoreRoom.{is_store_in, room_here}
use Rattle.core_steps.proofs.TouchesLeave.{store_waiting, waiting_retired}
use Rattle.core_steps.specs.Tries.{state_here, effect_here, window_over, try_here, need_here, ops_by, op_by, seen_here, way_looked, Tries}
use Rattle.lf_model.specs.Caches.Look.{LookUp, look}
use Rattle.lf_model.specs.Caches.Look.LookUp.{Hit}
use Rattle.lf_model.specs.Course.Attempt.{Attempt}
use Rattle.lf_model.specs.Course.Core.{Ground}
use Rattle.lf_model.specs.Course.Outcome.{Outcome}
use Rattle.lf_model.specs.Course.Outcome.Need.{NoTurn}
use Rattle.lf_model.specs.Course.Outcome.Outcome.{Store}
use Rattle.lf_model.specs.Course.Progress.{Progress, next_needs}
use Rattle.lf_model.specs.Course.Touches.{access_touches}
use Rattle.lf_model.specs.Effect.{AccessKind, Access, Effect}
use Rattle.lf_model.specs.Operation.{made}
use Rattle.lf_model.specs.Start.{initial_byte}
use Rattle.lf_model.specs.Step.{looked}
use Rattle.lf_model.specs.declared.bus.Entry.{Entry}
use Rattle.lf_model.specs.declared.bus.Transfer.{Transfer}
use Rattle.lf_model.specs.declared.step.Did.TheVariants.{Retired}
use Rattle.lf_model.specs.declared.trace.CoreEnd.TheVariants.{Limit}
use Rattle.lf_model.specs.declared.trace.Op.{Op}
use Rattle.parity_cache.specs.CacheState.{answer_of}
use Rattle.parity_slots.specs.SlotState.{IsAccess}

module _ (old tried : CoreValue) (begun : old.phase ≡ Begun) (may : MayTry old) (t : Tries Retired old tried) (log : List Entry) (ts : List Transfer) (h : CoreOk old log ts) where
  abbrev e : Effect
  e = effect_here old

  abbrev after : CoreValue
  after = settled Retired tried

  abbrev ground : Ground
  ground = ground_running old

  abbrev place : Progress
  place = place_of old ts

  now : RunsOn old log ts
  now = here old begun may log ts h

  abbrev entries : List Entry
  entries = log ++ buffer_of old

  -- ---- what the step needed

  abbrev out : Outcome
  out = (try_here old).outcome

  need : need_here old out ≡ NoTurn
  need = retired_none (state_here old) e (try_here old).arrays.cells (need_here old out) t.answer

  open_ : window_over old ≡ false
  open_ = open_by (window_over old) old.arch.ctl.et (nat_lt 0 (length old.ports.waiting)) (nat_le old.ports.depth (length old.ports.waiting)) out need

  none : next_needs ground place (tried_at ground place).outcome ≡ NoTurn
  none = none_needed ground place old tried (begins old begun may log ts h) now.goes_on.has_seen.one_each need

  ends : EndsSo (state_here old) e
  ends = ends_so old.setup old.arch.core (state_here old)

  comes_here : Comes e old.ports.data_cache.cache (try_here old)
  comes_here = rw open_ (comes old.setup old.arch.core (state_here old) (arrays_in old.ports) ends.apart)

  as_kind : (x : Access) → e.access ≡ Some x → RetiresAs old.ports.data_cache.cache x x.kind out
  as_kind x made_ = retires_as e old.ports.data_cache.cache x made_ old.arch.ctl.et (nat_lt 0 (length old.ports.waiting)) (nat_le old.ports.depth (length old.ports.waiting)) out comes_here.says
      (none_open (window_over old) old.arch.ctl.et (nat_lt 0 (length old.ports.waiting)) (nat_le old.ports.depth (length old.ports.waiting)) out open_ need)

  -- ---- what it leaves

  r : Retires (ground_running after) place old after
  r = retires_so (ground_running after) place old tried (begins_with old begun may log ts h tried Retired t Limit tried.setup.config.steps) now.goes_on.has_seen.one_each need t refl

  kept : KeepsTurns old after
  kept = let k = keeps old begun may log ts h tried Retired t in record { parts = record { setup = k.parts.setup; core = k.parts.core }; turns_seen = k.turns_seen; named = k.named }

  setup_is : tried.setup ≡ old.setup
  setup_is = setup_stays old begun may log ts h tried Retired t

  seen_is : tried.log_seen ≡ old.log_seen
  seen_is = ap (λ (v : CoreValue). v.log_seen) t.stays

  waiting_is : tried.ports.waiting ≡ old.ports.waiting ++ store_waiting e.access
  waiting_is = ap (λ (s : PortState). s.waiting) t.ports ∙ waiting_retired old Retired refl

  -- it goes on, with these stores waiting
  goes_on : (buffer : List Entry) → Sees old after log buffer → length tried.ports.waiting ≤ 8 → PortLines (initial_byte old.setup.image) (log ++ buffer) tried.ports → CoreOk after log ts
  goes_on buffer sees few lines =
      steps_on old after log ts (ops_by old e.access) h begun (left old begun may log ts h) kept t.ops none r refl buffer sees few (rw setup_is lines)

  few_before : length old.ports.waiting ≤ 8
  few_before = omega (arith, now.goes_on.has_steps.few)

  lines_plain : access_touches e.access ≡ [] → PortLines (initial_byte old.setup.image) entries tried.ports
  lines_plain plain = subst (PortLines (initial_byte old.setup.image) entries) (sym (ports_are old begun may log ts h tried Retired t))
      (retires_plain (initial_byte old.setup.image) entries [] e (looked_ports old begun may log ts h) (looks_leave old begun may log ts h) plain)

  -- ---- without an operation

  plain_ok : e.access ≡ None → CoreOk after log ts
  plain_ok is =
      let ops : tried.ops ≡ old.ops = t.ops ∙ (ap (λ a. old.ops ++ ops_by old a) is ∙ append-nil old.ops) in
      let seen_by : tried.seen_by ≡ old.seen_by = t.seen_by ∙ (ap (λ a. old.seen_by ++ seen_here old (ops_by old a)) is ∙ append-nil old.seen_by) in
      let waiting : tried.ports.waiting ≡ old.ports.waiting = waiting_is ∙ (ap (λ a. old.ports.waiting ++ store_waiting a) is ∙ append-nil old.ports.waiting) in
      let c : CompletesNone old after = record { ops = ops; seen_by = seen_by; waiting = waiting } in
      goes_on (buffer_of old) (sees_none old after log ts now.goes_on c) (omega (arith, ap length waiting, few_before)) (lines_plain (ap access_touches is))

  -- ---- with one

  module _ (x : Access) (is : e.access ≡ Some x) (got way : ℕ) (op_is : op_by old x x.kind ≡ op_of old x got way ∷ []) where
    abbrev o : Op
    o = op_of old x got way

    ops_are : ops_by old e.access ≡ o ∷ []
    ops_are = ap (ops_by old) is ∙ op_is

    ops_now : tried.ops ≡ old.ops ++ o ∷ []
    ops_now = t.ops ∙ ap (λ os. old.ops ++ os) ops_are

    seen_now : tried.seen_by ≡ old.seen_by ++ tried.log_seen ∷ []
    seen_now = t.seen_by ∙ (ap (λ os. old.seen_by ++ seen_here old os) ops_are ∙ ap (λ n. old.seen_by ++ n ∷ []) (sym seen_is))

  -- a load, which hits
  load_ok : (x : Access) → e.access ≡ Some x → x.kind ≡ AccessKind.Load → (slot : ℕ) → (look x.addr x.len old.ports.data_cache.cache).answer ≡ Hit slot → CoreOk after log ts
  load_ok x is kind slot hit =
      let found = (answers old.ports).look x.addr x.len in
      let got = looked found in
      let way = way_looked found in
      let one = ap (op_by old x) kind in
      let waiting : tried.ports.waiting ≡ old.ports.waiting = waiting_is ∙ (ap (λ a. old.ports.waiting ++ store_waiting a) is ∙ rw kind (append-nil old.ports.waiting)) in
      let c : Completes (op_of old x got way) old after = record {
        ops = ops_now x is got way one;
        seen_by = seen_now x is got way one;
        waiting = waiting ∙ rw kind refl;
      } in
      let lines = now.goes_on.lines in
      let fit = caches_take old.setup old.arch.core (state_here old) x is in
      let reads = hit_reads (initial_byte old.setup.image) may.bytes entries (made (op_of old x got way)) slot fit.access fit.low old.ports.data_cache lines.data_formed lines.data_lines hit
      (ap (λ (l : LookUp). looked (answer_of x.addr x.len old.ports.data_cache l)) hit) in
      goes_on (buffer_of old) (sees_load old after log ts now.goes_on x got way c (seen_is ∙ sym now.log_length) kind reads) (omega (arith, ap length waiting, few_before))
      (lines_plain (ap access_touches is ∙ rw kind refl))

  -- a store, which finds room
  store_ok : (x : Access) → e.access ≡ Some x → x.kind ≡ AccessKind.Store → CoreOk after log ts
  store_ok x is kind =
      let o = op_of old x 0 0 in
      let one = ap (op_by old x) kind in
      let waiting : tried.ports.waiting ≡ old.ports.waiting ++ store_waiting (Some x) = waiting_is ∙ ap (λ a. old.ports.waiting ++ store_waiting a) is in
      let c : Completes o old after = record {
        ops = ops_now x is 0 0 one;
        seen_by = seen_now x is 0 0 one;
        waiting = waiting ∙ rw kind refl;
      } in
      let room : length old.ports.waiting < old.ports.depth = room_here old tried t (ap is_store_in is ∙ rw kind refl) in
      let one_more : length tried.ports.waiting ≡ length old.ports.waiting + 1 = ap length waiting ∙ (length-append old.ports.waiting (store_waiting (Some x)) ∙ rw kind refl) in
      let fit = caches_take old.setup old.arch.core (state_here old) x is in
      let lines = retires_store (initial_byte old.setup.image) entries [] e (looked_ports old begun may log ts h) (looks_leave old begun may log ts h) (made o) (ap access_touches is ∙ rw kind refl) fit.access fit.low in
      goes_on (buffer_of old ++ made o ∷ []) (sees_store old after log ts now.goes_on x 0 0 c (seen_is ∙ sym now.log_length) kind) (omega (arith, one_more, room, may.depth, may.few))
      (subst (λ es. PortLines (initial_byte old.setup.image) es tried.ports) (append_assoc log (buffer_of old) (made o ∷ []))
      (subst (PortLines (initial_byte old.setup.image) (entries ++ made o ∷ [])) (sym (ports_are old begun may log ts h tried Retired t)) lines))

  kind_ok : (x : Access) → e.access ≡ Some x → (kind : AccessKind) → x.kind ≡ kind → RetiresAs old.ports.data_cache.cache x kind out → CoreOk after log ts
  kind_ok x is AccessKind.Load kind so = load_ok x is kind so.0 so.1
  kind_ok x is AccessKind.Store kind so = store_ok x is kind
  kind_ok x is AccessKind.Atomic kind so = absurd so

  access_ok : (access : Option Access) → e.access ≡ access → CoreOk after log ts
  access_ok None is = plain_ok is
  access_ok (Some x) is = kind_ok x is x.kind refl (as_kind x is)

  pub retires_ok : CoreOk after log ts
  retires_ok = access_ok e.access refl
