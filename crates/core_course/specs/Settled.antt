-- How a step of a core begins, and what it is once its instruction was tried: it ends, or waits for its turn.
use Rattle.std.specs.Prelude.{ℕ, ◌≡◌, ◌^◌, ◌<◌, ◌≤◌, ◌∷◌}
use Rattle.core_parts.specs.CoreValue.{CoreValue}
use Rattle.core_parts.specs.PortState.{touch}
use Rattle.core_parts.specs.Strikes.{own_flips}
use Rattle.core_parts.specs.declared.phase.Phase.{Phase}
use Rattle.core_parts.specs.declared.phase.Phase.TheVariants.{Between, Begun, Needs, Ended}
use Rattle.core_steps.specs.Tries.{Tries, ended}
use Rattle.lf_model.specs.Caches.Slot.{befalls}
use Rattle.lf_model.specs.Flips.Moment.{Named}
use Rattle.lf_model.specs.Start.{initial_byte}
use Rattle.lf_model.specs.declared.step.Did.{Did}
use Rattle.lf_model.specs.declared.step.Did.TheVariants.{Retired, Turned, Need, Halt, Stop}
use Rattle.lf_model.specs.declared.touch.Touch.TheVariants.{StartStep}
use Rattle.lf_model.specs.declared.trace.CoreEnd.TheVariants.{Halt as Halted, Stop as StoppedBy}

-- ---- it begins

-- the script's flips for the step strike its arrays
abbrev pub started : CoreValue → CoreValue
started v = record v { ports = touch (own_flips v.arch.core v.setup.flips) v.ports (StartStep v.steps); phase = Begun }

-- ---- it was tried

-- the phase once it came to this: a step that needs a turn waits for it
abbrev pub phase_after : Did → Phase
phase_after Retired = Between
phase_after Turned = Between
phase_after (Need turn) = Needs turn
phase_after (Halt tt_) = Ended (Halted tt_)
phase_after (Stop tt_ place syn) = Ended (StoppedBy tt_ place syn)

-- an error trap names the register cell
abbrev pub with_named : ℕ → CoreValue → CoreValue
with_named cell v = record v { ports = record v.ports { cells = befalls (λ h. Named ∷ h) cell v.ports.cells } }

abbrev pub settled : Did → CoreValue → CoreValue
settled Retired v = ended (phase_after Retired) v
settled Turned v = ended (phase_after Turned) v
settled (Need turn) v = record v { phase = phase_after (Need turn) }
settled (Halt tt_) v = ended (phase_after (Halt tt_)) v
settled (Stop tt_ cell syn) v = with_named cell (ended (phase_after (Stop tt_ cell syn)) v)

-- what a try asks of a core besides its course: its store buffer is as deep as the setup says, with at most 8 places, and the image has
-- bytes
pub record MayTry (v : CoreValue) : Type 0 where
  pub depth : v.ports.depth ≡ v.setup.config.buffer
  pub few : v.setup.config.buffer ≤ 8
  pub bytes : (a : ℕ) → initial_byte v.setup.image a < 2 ^ 8

-- a step that is begun is tried, and comes to this
pub record Settles (did : Did) (old new : CoreValue) : Type 0 where
  pub tried : CoreValue
  pub tries : Tries did old tried
  pub settled_so : new ≡ settled did tried
