-- A turn that a core may make is the one that its step needs, a drain by the schedule, or one after the last step: its transfer is right.
use Rattle.std.proofs.Common.{◌≡◌, ◌∙◌, ◌+◌, ◌<◌, ◌≤◌, ◌==◌, ℕ, Bool, true, false, nat_lt, List, length, refl, ap, sym, subst, arith, inl, inr}
use Rattle.std.proofs.lemmas.Bool.{cases_lt, lt-ltb, lt-leb, le-leb, ltb-false, eqb-false, eq-eqb}
use Rattle.core_parts.specs.CoreValue.{CoreValue}
use Rattle.core_parts.specs.Needs.{kind_of, why_of}
use Rattle.core_parts.specs.Phases.{state_by}
use Rattle.core_parts.specs.PortState.{arrays_in}
use Rattle.core_parts.specs.Seat.{ArraysAre}
use Rattle.core_parts.specs.declared.phase.CoreState.TheVariants as states
use Rattle.core_parts.specs.declared.phase.Phase.{Phase}
use Rattle.core_parts.specs.declared.phase.Phase.TheVariants.{Between, Begun, Needs, Ended}
use Rattle.core_course.proofs.LocalGround.{place_of}
use Rattle.core_course.proofs.RightTurn.{Drains, right_sched, right_last, right_needed}
use Rattle.core_course.proofs.Running.{ground_running, IsUnended, RunsOn}
use Rattle.core_course.proofs.TurnGround.{turn_place, some_wait}
use Rattle.core_course.proofs.TurnTargets.{Front, front_is}
use Rattle.core_course.specs.Calls.{MayTurnBy, MayTurn}
use Rattle.core_course.specs.CoreOk.{buffer_of, LeftBy}
use Rattle.core_parts.specs.Makes.{IsOfFront, Makes}
use Rattle.lf_model.specs.Course.Core.{Ground}
use Rattle.lf_model.specs.Course.Course.{stored_at}
use Rattle.lf_model.specs.Course.Progress.{Progress, store_waits}
use Rattle.lf_model.specs.Ledger.Steps.{is_last_drain}
use Rattle.lf_model.specs.Records.OwnTurns.{IsRightTurn}
use Rattle.lf_model.specs.Start.{initial_byte}
use Rattle.lf_model.specs.declared.bus.Entry.{Entry}
use Rattle.lf_model.specs.declared.bus.Transfer.{Transfer}
use Rattle.lf_model.specs.declared.bus.TurnKind.TheVariants.{Store}
use Rattle.lf_model.specs.declared.bus.Why.TheVariants.{End, Sched}
use Rattle.lf_model.specs.declared.step.Turn.{Turn}
use Rattle.lf_model.specs.declared.step.Turn.TheVariants.{Fetch, Load, Atomic, Drain, Snoop}
use Rattle.lf_model.specs.declared.trace.CoreEnd.TheVariants.{Limit}
use Rattle.std.specs.List.{flat_map}

-- ---- a core that drains has made all steps, and a store waits

pub record IsDraining (v : CoreValue) : Type 0 where
  pub all_made : v.setup.config.steps ≤ v.steps
  pub some : 0 < length v.ports.waiting

drains_by : (v : CoreValue) (left none : Bool) → nat_lt v.steps v.setup.config.steps ≡ left → (length v.ports.waiting == 0) ≡ none
    → state_by v Between ≡ states.Draining → IsDraining v
drains_by v true none is is' h = let no : states.Running ≡ states.Draining = rw is at h in absurd (cc)
drains_by v false true is is' h = let no : states.Ended Limit ≡ states.Draining = rw (is, is') at h in absurd (cc)
drains_by v false false is is' h = record {
  all_made = ltb-false v.steps v.setup.config.steps is;
  some = let not_none = eqb-false (length v.ports.waiting) 0 is' in positive (length v.ports.waiting) not_none;
}
  where
    positive : (n : ℕ) → (n ≡ 0 → ⊥) → 0 < n
    positive n f = elim (cases_lt 0 n) [
      | inl some ↦ some
      | inr none ↦ absurd (f (omega (arith, none)))
    ]

pub is_draining : (v : CoreValue) → state_by v Between ≡ states.Draining → IsDraining v
is_draining v h = drains_by v (nat_lt v.steps v.setup.config.steps) (length v.ports.waiting == 0) refl refl h

-- ---- its transfer is right

module _ (v : CoreValue) (log : List Entry) (ts us : List Transfer) (t : Transfer) (h : RunsOn v log ts) (left : LeftBy v v.phase) where
  abbrev g : Ground
  g = ground_running v

  abbrev k : Progress
  k = place_of v ts

  abbrev at : Progress
  at = turn_place v ts us

  waiting_count : IsUnended v.phase → k.drained + length v.ports.waiting ≡ k.stored
  waiting_count unended = some_wait (length v.ports.waiting) k v.phase unended h.is_seat.waits

  front : IsUnended v.phase → IsOfFront t v.ports.waiting → Front k.drained g.given.stores t
  front unended is = front_is (initial_byte v.setup.image) v.arch.core v.ops v.seen_by log (buffer_of v) v.ports.waiting h.goes_on.has_seen h.goes_on.waits t k.drained
      (waiting_count unended ∙ h.is_seat.stored) is

  waits : IsUnended v.phase → 0 < length v.ports.waiting → store_waits k ≡ true
  waits unended some = lt-ltb k.drained k.stored (omega (arith, some, waiting_count unended))

  drain_front : IsUnended v.phase → (turn : Turn) → Makes g at v turn t → Drains g k (flat_map stored_at us) v t turn
  drain_front unended (Fetch line why) m = tt
  drain_front unended (Load addr len why) m = tt
  drain_front unended (Atomic addr len new rd) m = tt
  drain_front unended (Drain why) m = front unended m.aimed
  drain_front unended Snoop m = tt

  right_by : (turn : Turn) (phase : Phase) → v.phase ≡ phase → IsUnended phase → ArraysAre g k (arrays_in v.ports) phase → LeftBy v phase → MayTurnBy v turn phase → Makes g at v turn t → IsRightTurn g t at
  right_by turn (Needs asked) is unended arrays below may m =
      right_needed g k (flat_map stored_at us) v t asked (arrays_in v.ports) arrays (subst (λ (u : Turn). Makes g at v u t) may m)
      (drain_front (subst IsUnended (sym is) unended) asked (subst (λ (u : Turn). Makes g at v u t) may m))
  right_by turn Begun is unended arrays below may m =
      let made : Makes g at v (Drain Sched) t = subst (λ (u : Turn). Makes g at v u t) may.0 m in
      let on = subst IsUnended (sym is) unended in
      right_sched g k (flat_map stored_at us) v t (waits on may.1) (front on made.aimed) (lt-leb v.setup.config.steps k.steps (omega (arith, below, h.is_seat.steps))) made
  right_by turn Between is unended arrays below may m =
      let made : Makes g at v (Drain End) t = subst (λ (u : Turn). Makes g at v u t) may.0 m in
      let on = subst IsUnended (sym is) unended in
      let draining : IsDraining v = is_draining v (ap (state_by v) (sym is) ∙ may.1) in
      right_last g k (flat_map stored_at us) v t (waits on draining.some) (front on made.aimed) (le-leb v.setup.config.steps k.steps (omega (arith, draining.all_made, h.is_seat.steps))) made
  right_by turn (Ended end) is unended arrays below may m = absurd may

  pub may_right : (turn : Turn) → IsUnended v.phase → MayTurn v turn → Makes g at v turn t → IsRightTurn g t at
  may_right turn unended may m = right_by turn v.phase refl unended h.is_seat.arrays left may m

-- ---- a turn after the last step

last_by : (v : CoreValue) (turn : Turn) (t : Transfer) (phase : Phase) → LeftBy v phase → MayTurnBy v turn phase → v.phase ≡ phase → v.setup.config.steps ≤ v.steps → turn ≡ Drain End × IsDraining v
last_by v turn t (Needs asked) below may is past = absurd (omega (arith, below, past))
last_by v turn t Begun below may is past = absurd (omega (arith, below, past))
last_by v turn t Between below may is past = (may.0, is_draining v (ap (state_by v) (sym is) ∙ may.1))
last_by v turn t (Ended end) below may is past = absurd may

-- is the drain of a store
pub last_drains : (v : CoreValue) (turn : Turn) (t : Transfer) → LeftBy v v.phase → MayTurn v turn → v.setup.config.steps ≤ v.steps → turn ≡ Drain End × IsDraining v
last_drains v turn t left may past = last_by v turn t v.phase left may refl past

pub drain_last : (v : CoreValue) (turn : Turn) (t : Transfer) → turn ≡ Drain End → t.kind ≡ kind_of turn → t.why ≡ why_of turn → t.step ≡ v.setup.config.steps → is_last_drain v.setup.config.steps t ≡ true
drain_last v turn t is kind why step =
    let store : t.kind ≡ Store = kind ∙ ap kind_of is in
    let end : t.why ≡ End = why ∙ ap why_of is in
    rw (store, end, eq-eqb t.step v.setup.config.steps step) refl

-- so any other turn is in a step
pub in_a_step : (v : CoreValue) (turn : Turn) (t : Transfer) → LeftBy v v.phase → MayTurn v turn → (turn ≡ Drain End → ⊥) → v.steps < v.setup.config.steps
in_a_step v turn t left may other = elim (cases_lt v.steps v.setup.config.steps) [
  | inl less ↦ less
  | inr past ↦ absurd (other (last_drains v turn t left may past).0)
]
