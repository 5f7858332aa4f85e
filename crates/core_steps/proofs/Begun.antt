-- A core in a step that is begun, at its seat of the course: its instruction, what that comes to and what the step needs are
-- those of the course.
use Rattle.std.proofs.Common.{◌≡◌, ◌∙◌, ◌+◌, ◌-◌, ℕ, false, nat_lt, length, refl, ap, sym, arith, inl, inr}
use Rattle.std.proofs.lemmas.Bool.{cases_lt, lt-ltb, le-ltb}
use Rattle.core_parts.specs.CoreValue.{CoreValue, seen_of}
use Rattle.core_parts.specs.Moves.{tried_at}
use Rattle.core_parts.specs.Phases.{halt_by}
use Rattle.core_parts.specs.PortState.{arrays_in}
use Rattle.core_parts.specs.Seat.{IsSeat}
use Rattle.core_parts.specs.declared.phase.Phase.{Phase}
use Rattle.core_parts.specs.declared.phase.Phase.TheVariants.{Begun}
use Rattle.core_steps.specs.Tries.{state_here, effect_here, window_over, try_here, need_here}
use Rattle.lf_model.specs.Course.Arrays.{begun}
use Rattle.lf_model.specs.Course.Core.{Ground}
use Rattle.lf_model.specs.Course.Outcome.{Outcome}
use Rattle.lf_model.specs.Course.Progress.{Progress, next_needs}
use Rattle.lf_model.specs.Records.OwnTurns.{next_effect}
use Rattle.lf_model.specs.Run.{Run}
use Rattle.lf_model.specs.Step.{run_seen}

-- the core's step is begun, at this seat
pub record Begins (g : Ground) (k : Progress) (v : CoreValue) : Type 0 where
  pub seat : IsSeat v g k
  pub phase : v.phase ≡ Begun
  pub setup : g.setup ≡ v.setup
  pub core : g.core ≡ v.arch.core
  pub depth : v.ports.depth ≡ v.setup.config.buffer

-- stores that were made and didn't drain wait
waits_same : (drained waiting : ℕ) → nat_lt drained (drained + waiting) ≡ nat_lt 0 waiting
waits_same drained waiting = elim (cases_lt 0 waiting) [
  | inl some ↦ lt-ltb drained (drained + waiting) (omega (arith, some)) ∙ sym (lt-ltb 0 waiting some)
  | inr none ↦ le-ltb drained (drained + waiting) (omega (arith, none)) ∙ sym (le-ltb 0 waiting none)
]

module _ (g : Ground) (k : Progress) (v : CoreValue) (b : Begins g k v) where
  abbrev run_in : Phase → Run
  run_in phase = record { state = record (state_here v) { halt = halt_by phase }; ops = (seen_of v).ops }

  pub run_is : k.run ≡ run_seen v.arch (seen_of v)
  run_is = b.seat.run ∙ ap run_in b.phase

  pub arrays_are : begun g.flips k.steps k.arrays ≡ arrays_in v.ports
  arrays_are = sym (rw b.phase at b.seat.arrays)

  pub effect_is : next_effect g k ≡ effect_here v
  effect_is = rw (b.setup, b.core, run_is) refl

  -- the instruction is tried
  pub tried_is : window_over v ≡ false → tried_at g k ≡ try_here v
  tried_is open_ = rw (open_, effect_is, b.setup, run_is, arrays_are) refl

  pub drained : k.drained + length v.ports.waiting ≡ k.stored
  drained = rw b.phase at b.seat.waits

  -- what the step needs
  pub needs_are : (outcome : Outcome) → next_needs g k outcome ≡ need_here v outcome
  needs_are outcome =
      let quiet : k.quiet ≡ v.quiet = b.seat.quiet in
      let waits : nat_lt k.drained k.stored ≡ nat_lt 0 (length v.ports.waiting) = ap (nat_lt k.drained) (sym drained) ∙ waits_same k.drained (length v.ports.waiting) in
      let left : k.stored - k.drained ≡ length v.ports.waiting = omega (arith, drained) in
      rw (waits, left, b.setup, quiet, run_is, b.depth) refl
