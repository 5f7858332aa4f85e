-- A running core goes by what it has read and stored so far, and by the step limit. What it reads and stores later, and how it ends,
-- leave what it has done.
use Rattle.std.proofs.Common.{◌≡◌, ◌∙◌, ◌+◌, ◌-◌, ◌<◌, ◌≤◌, ◌==◌, ◌&&◌, ◌++◌, ℕ, zero, suc, Bool, true, false, nat_le, List, [], ◌∷◌, Option, Some, None, length, fold, refl, ap, sym, subst, arith, inl, inr, if◌then◌else◌}
use Rattle.std.proofs.lemmas.Bool.{cases_Bool, leb-true, le-leb, lt-leb, ne_eqb}
use Rattle.std.proofs.lemmas.List.{get_or_append_left}
use Rattle.std.specs.List.{AllByRecursion as Each}
use Rattle.core_laws.proofs.Growing.{Grows, grows_local_steps, grows_own_turn, grows_transfers}
use Rattle.core_laws.proofs.ListLemmas.{count_append}
use Rattle.core_laws.specs.Running.{running, with_later, IsNoStop, IsBefore}
use Rattle.lf_model.proofs.CourseLemmas.{IsAt, observe_own, observe_others}
use Rattle.lf_model.specs.Course.Core.{Given, Ground, ground_of, is_register_stop, is_stop_at}
use Rattle.lf_model.specs.Course.Course.{up_to, observe, course}
use Rattle.lf_model.specs.Course.LocalStep.{local_step, local_steps}
use Rattle.lf_model.specs.Course.Progress.{Progress, start}
use Rattle.lf_model.specs.Course.Turned.{own_turn}
use Rattle.lf_model.specs.Effect.{Access, operation_kind, Effect}
use Rattle.lf_model.specs.Names.{same_kind}
use Rattle.lf_model.specs.Operation.{kind_reads, entry_reads}
use Rattle.lf_model.specs.Run.{Run, operation, with_access, reads_of, answer_to, effect_at_pc, answered}
use Rattle.lf_model.specs.declared.bus.Entry.{Entry}
use Rattle.lf_model.specs.declared.bus.Transfer.{Transfer}
use Rattle.lf_model.specs.declared.bus.TurnKind.TheVariants.{Atomic}
use Rattle.lf_model.specs.declared.setup.Setup.{Setup}
use Rattle.lf_model.specs.declared.trace.CoreEnd.{CoreEnd}

-- ---- the number that an instruction reads is among those read so far

read_there : (answers more : List ℕ) (a : Access) (ops : List Entry) (reads : Bool) → kind_reads (operation_kind a.kind) ≡ reads
    → (core got : ℕ) → reads_of (with_access core got (Some a) ops) ≤ length answers
    → answer_to (answers ++ more) ops (Some a) ≡ answer_to answers ops (Some a)
read_there answers more a ops true e core got few = rw e (get_or_append_left answers more 0 (reads_of ops)
    (let n : reads_of (with_access core got (Some a) ops) ≡ reads_of ops + 1 = count_append entry_reads ops (operation core (length ops) got a ∷ []) ∙ rw e (omega arith) in
    omega (arith, n, few)))
read_there answers more a ops false e core got few = rw e refl

answer_same : (answers more : List ℕ) (x : Option Access) (ops : List Entry) (core got : ℕ) → reads_of (with_access core got x ops) ≤ length answers
    → answer_to (answers ++ more) ops x ≡ answer_to answers ops x
answer_same answers more None ops core got few = refl
answer_same answers more (Some a) ops core got few = read_there answers more a ops (kind_reads (operation_kind a.kind)) refl core got few

pub answered_same : (core : ℕ) (answers more : List ℕ) (e : Effect) (r : Run) → reads_of (answered core answers r e).ops ≤ length answers
    → answered core (answers ++ more) r e ≡ answered core answers r e
answered_same core answers more e r few =
    ap (λ got. record { state = e.next got; ops = with_access core got e.access r.ops }) (answer_same answers more e.access r.ops core _ few)

-- ---- before the end

module _ (answers : List ℕ) (end : CoreEnd) (steps : ℕ) where
  pub before_earlier : (k j : Progress) → Grows k j → IsBefore answers end steps j → IsBefore answers end steps k
  before_earlier k j grows h = record {
    read = omega (arith, grows.reads, h.read);
    within = omega (arith, grows.steps, h.within);
    last = λ stop. let below : j.steps < steps = h.last stop in omega (arith, grows.steps, below);
  }

  last_by : (stop : Bool) → is_register_stop end ≡ stop → (n : ℕ) → (stop ≡ true → n < steps) → (is_register_stop end && n == steps) ≡ false
  last_by true e n below = rw e (ne_eqb n steps (λ same. absurd (omega (arith, same, below refl))))
  last_by false e n below = rw e refl

  -- the step isn't the last one of a core that a register cell stops
  pub not_last : (n : ℕ) → (is_register_stop end ≡ true → n < steps) → (is_register_stop end && n == steps) ≡ false
  not_last n below = last_by (is_register_stop end) refl n below

  past_by : (limit n : ℕ) (past : Bool) → nat_le limit n ≡ past → steps ≤ limit → (if past then n else n + 1) ≤ steps → nat_le steps n ≡ nat_le limit n
  past_by limit n true e allowed within = rw e (le-leb steps n (omega (arith, leb-true limit n e)))
  past_by limit n false e allowed within = rw e (lt-leb steps n (omega (arith, within)))

  -- a turn is past all steps by both
  pub same_past : (limit n : ℕ) → steps ≤ limit → (if nat_le limit n then n else n + 1) ≤ steps → nat_le steps n ≡ nat_le limit n
  same_past limit n allowed within = past_by limit n (nat_le limit n) refl allowed within

-- early: what a core goes by as it runs; late: what it goes by when more is known
module _ (setup : Setup) (core : ℕ) (given later : Given) (end : CoreEnd) (steps : ℕ) (allowed : steps ≤ setup.config.steps) where
  abbrev pub early : Ground
  early = running setup core given

  abbrev pub late : Ground
  late = ground_of setup core (with_later given later) end steps

  abbrev pub Before : Progress → Type 0
  Before k = IsBefore given.answers end steps k

  abbrev pub NoStop : Transfer → Type 0
  NoStop t = IsNoStop core end t

  step_same : (k : Progress) → (is_register_stop end && k.steps + 1 == steps) ≡ false
      → reads_of (answered core given.answers k.run (effect_at_pc setup core k.run.state)).ops ≤ length given.answers
      → local_step late k ≡ local_step early k
  unfolding local_step
  step_same k not_last few = rw (not_last, answered_same core given.answers later.answers (effect_at_pc setup core k.run.state) k.run few) refl

  reads_in_step : (k : Progress) → Before (local_step early k)
      → reads_of (answered core given.answers k.run (effect_at_pc setup core k.run.state)).ops ≤ length given.answers
  unfolding local_step
  reads_in_step k h = h.read

  pub local_step_same : (k : Progress) → Before (local_step early k) → local_step late k ≡ local_step early k
  unfolding local_step
  local_step_same k h = step_same k (not_last given.answers end steps (k.steps + 1) h.last) (reads_in_step k h)

  pub local_steps_same : (n : ℕ) (k : Progress) → Before (local_steps early n k) → local_steps late n k ≡ local_steps early n k
  local_steps_same zero k h = refl
  local_steps_same (suc n) k h =
      ap (local_steps late n) (local_step_same k (before_earlier given.answers end steps _ _ (grows_local_steps early n (local_step early k)) h))
      ∙ local_steps_same n (local_step early k) h

  turn_by : (t : Transfer) (k : Progress) (retires : Bool) → (same_kind t.kind Atomic && true) ≡ retires
      → nat_le steps k.steps ≡ nat_le setup.config.steps k.steps → is_stop_at t.turn end ≡ false
      → (retires ≡ true → reads_of (answered core given.answers k.run (effect_at_pc setup core k.run.state)).ops ≤ length given.answers)
      → own_turn late t k ≡ own_turn early t k
  unfolding own_turn
  turn_by t k true e past stop few = rw (past, stop, e, answered_same core given.answers later.answers (effect_at_pc setup core k.run.state) k.run (few refl)) refl
  turn_by t k false e past stop few = rw (past, stop, e) refl

  pub own_turn_same : (t : Transfer) (k : Progress) → Before (own_turn early t k) → is_stop_at t.turn end ≡ false → own_turn late t k ≡ own_turn early t k
  unfolding own_turn
  own_turn_same t k h stop =
      turn_by t k (same_kind t.kind Atomic && true) refl (same_past given.answers end steps setup.config.steps k.steps allowed h.within) stop
      (λ retires. rw retires at h.read)

  pub observe_same : (t : Transfer) (k : Progress) → Before (observe early k t) → NoStop t → observe late k t ≡ observe early k t
  observe_same t k h goes_on = elim (cases_Bool (core == t.master)) [
    | inl own ↦
        let now : Before (own_turn early t (up_to early t k)) = subst Before (observe_own early t k own) h in
        let then_ : Before (up_to early t k) = before_earlier given.answers end steps _ _ (grows_own_turn early t (up_to early t k)) now in
        observe_own late t k own
        ∙ (ap (own_turn late t) (local_steps_same (t.step - k.steps) k then_)
        ∙ (own_turn_same t (up_to early t k) now (goes_on own) ∙ sym (observe_own early t k own)))
    | inr other ↦ observe_others late t k other ∙ sym (observe_others early t k other)
  ]

  transfers_same : (k : Progress) (ts : List Transfer) → Before (fold (observe early) k ts) → Each NoStop ts → fold (observe late) k ts ≡ fold (observe early) k ts
  transfers_same k [] h goes_on = refl
  transfers_same k (t ∷ ts) h goes_on =
      ap (λ j. fold (observe late) j ts)
      (observe_same t k (before_earlier given.answers end steps _ _ (grows_transfers early (observe early k t) ts) h) goes_on.0)
      ∙ transfers_same (observe early k t) ts h goes_on.1

  -- the course so far is the same
  pub course_same : (ts : List Transfer) → Each NoStop ts → Before (course early ts) → course late ts ≡ course early ts
  course_same ts goes_on h = transfers_same (start early) ts h goes_on

  -- and so is a core that has made some local steps since
  pub at_same : (ts : List Transfer) (n : ℕ) (k : Progress) → IsAt early ts n k → Each NoStop ts → Before k → IsAt late ts n k
  at_same ts n k h goes_on before =
      let now : Before (local_steps early n (course early ts)) = subst Before h.at before in
      let then_ : Before (course early ts) = before_earlier given.answers end steps _ _ (grows_local_steps early n (course early ts)) now in
      record { at = h.at ∙ sym (ap (local_steps late n) (course_same ts goes_on then_) ∙ local_steps_same n (course early ts) now) }
