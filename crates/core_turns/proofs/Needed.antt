-- The drain that a schedule asks for in a step that is begun, and one after the last step, is the turn that the step needs.
use Rattle.std.proofs.Common.{◌≡◌, ◌+◌, ◌<◌, true, false, length, refl, arith}
use Rattle.std.proofs.lemmas.Bool.{lt-ltb}
use Rattle.core_parts.specs.CoreValue.{CoreValue}
use Rattle.core_parts.specs.PortState.{arrays_in}
use Rattle.core_parts.specs.Seat.{NeedsTurn, IsSeat}
use Rattle.core_parts.specs.declared.phase.Phase.TheVariants.{Between, Begun, Needs}
use Rattle.lf_model.specs.Course.Core.{Ground}
use Rattle.lf_model.specs.Course.Progress.{Progress, store_waits}
use Rattle.lf_model.specs.Course.Turn.{is_past_steps}
use Rattle.lf_model.specs.declared.bus.Why.TheVariants.{Sched, End}
use Rattle.lf_model.specs.declared.step.Turn.{Turn}
use Rattle.lf_model.specs.declared.step.Turn.TheVariants.{Drain}

module _ (g : Ground) (seat : Progress) (v : CoreValue) (s : IsSeat v g seat) where
  -- a turn that the step asked for
  pub asked : (turn : Turn) → v.phase ≡ Needs turn → NeedsTurn g seat turn (arrays_in v.ports)
  asked turn phase = rw phase at s.arrays

  module _ (some : 0 < length v.ports.waiting) where
    one_waits : seat.drained + length v.ports.waiting ≡ seat.stored → store_waits seat ≡ true
    one_waits waits = lt-ltb seat.drained seat.stored (omega (arith, some, waits))

    pub by_schedule : v.phase ≡ Begun → is_past_steps g seat ≡ false → NeedsTurn g seat (Drain Sched) (arrays_in v.ports)
    by_schedule phase left = record {
      needed = rw (left, one_waits (rw phase at s.waits)) refl;
      aimed = tt;
      tried = rw left (rw phase at s.arrays);
    }

    pub after_steps : v.phase ≡ Between → is_past_steps g seat ≡ true → NeedsTurn g seat (Drain End) (arrays_in v.ports)
    after_steps phase past = record {
      needed = rw (past, one_waits (rw phase at s.waits)) refl;
      aimed = tt;
      tried = rw past (rw phase at s.arrays);
    }
