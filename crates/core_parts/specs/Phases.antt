-- What the phase of a core says: how it ended, what its course goes by so far, and what became of the step that is begun.
use Rattle.std.specs.Prelude.{ℕ, nat_lt, ◌==◌, Bool, false, length, Option, Some, None, if◌then◌else◌}
use Rattle.core_laws.specs.Running.{running}
use Rattle.core_parts.specs.CoreValue.{CoreValue}
use Rattle.core_parts.specs.declared.phase.CoreState.{CoreState}
use Rattle.core_parts.specs.declared.phase.CoreState.TheVariants as states
use Rattle.core_parts.specs.declared.phase.Phase.{Phase}
use Rattle.core_parts.specs.declared.phase.Phase.TheVariants.{Between, Begun, Needs, Ended}
use Rattle.lf_model.specs.Course.Core.{Ground, given_by, ground_of}
use Rattle.lf_model.specs.declared.trace.CoreEnd.TheVariants.{Halt, Stop, Limit}

-- ---- its end

-- all steps are made and nothing waits
abbrev pub is_drained : CoreValue → Bool
is_drained v = if nat_lt v.steps v.setup.config.steps then false else length v.ports.waiting == 0

abbrev pub state_by : CoreValue → Phase → CoreState
state_by v (Ended end) = states.Ended end
state_by v Between = if nat_lt v.steps v.setup.config.steps then states.Running else if is_drained v then states.Ended Limit else states.Draining
state_by v Begun = states.Running
state_by v (Needs turn) = states.Running

-- whether it goes on
abbrev pub state_of_core : CoreValue → CoreState
state_of_core v = state_by v v.phase

-- ---- its course

-- what its course goes by: so far, or up to its end
abbrev pub ground_by : CoreValue → Phase → Ground
ground_by v (Ended end) = ground_of v.setup v.arch.core (given_by v.ops) end v.steps
ground_by v Between = running v.setup v.arch.core (given_by v.ops)
ground_by v Begun = running v.setup v.arch.core (given_by v.ops)
ground_by v (Needs turn) = running v.setup v.arch.core (given_by v.ops)

abbrev pub ground_so_far : CoreValue → Ground
ground_so_far v = ground_by v v.phase

-- the trap type by which it entered error mode
abbrev pub halt_by : Phase → Option ℕ
halt_by (Ended (Halt tt_)) = Some tt_
halt_by (Ended (Stop tt_ place syn)) = None
halt_by (Ended Limit) = None
halt_by Between = None
halt_by Begun = None
halt_by (Needs turn) = None
