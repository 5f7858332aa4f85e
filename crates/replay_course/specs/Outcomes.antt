-- What the instruction of a step comes to, and what the step needs, as the course has them.
use Rattle.std.specs.Prelude.{ℕ, Option, Some, None}
use Rattle.lf_model.specs.Caches.Look.{LookUp}
use Rattle.lf_model.specs.Caches.Look.LookUp.{Hit, Miss}
use Rattle.lf_model.specs.Course.Outcome.{Outcome as Comes, Need as Needs}
use Rattle.replay_caches.specs.declared.answer.LookUp.{LookUp as Found}
use Rattle.replay_caches.specs.declared.answer.LookUp.TheVariants as found
use Rattle.replay_course.specs.declared.need.Need.{Need}
use Rattle.replay_course.specs.declared.need.Need.TheVariants.{NoTurn, Turn, RegisterStop}
use Rattle.replay_effects.specs.Attempts.{outcome_of}
use Rattle.replay_effects.specs.declared.outcome.Outcome.{Outcome}
use Rattle.replay_effects.specs.declared.outcome.Outcome.TheVariants as outcomes

-- what an instruction comes to that is tried, or isn't
abbrev pub came_to : Option Outcome → Comes
came_to None = Comes.NotTried
came_to (Some outcome) = outcome_of outcome

abbrev pub need_of : Need → Needs
need_of NoTurn = Needs.NoTurn
need_of (Turn kind why) = Needs.Turn kind why
need_of (RegisterStop cell) = Needs.RegisterStop cell

abbrev pub found_of : Found → LookUp
found_of (found.Hit slot) = Hit slot
found_of (found.Miss why) = Miss why

-- the bad register cell that it comes to, if it does
abbrev pub bad_cell : Outcome → Option ℕ
bad_cell (outcomes.BadRegister cell) = Some cell
bad_cell outcomes.NoText = None
bad_cell (outcomes.FetchMiss why) = None
bad_cell outcomes.OrdinaryTrap = None
bad_cell (outcomes.LoadMiss why) = None
bad_cell (outcomes.LoadHit slot) = None
bad_cell outcomes.Store = None
bad_cell outcomes.Atomic = None
bad_cell (outcomes.Barrier why) = None
bad_cell outcomes.Other = None

abbrev pub cell_of_outcome : Comes → Option ℕ
cell_of_outcome (Comes.BadRegister cell) = Some cell
cell_of_outcome Comes.NotTried = None
cell_of_outcome Comes.NoText = None
cell_of_outcome (Comes.FetchMiss why) = None
cell_of_outcome Comes.OrdinaryTrap = None
cell_of_outcome (Comes.LoadMiss why) = None
cell_of_outcome (Comes.LoadHit slot) = None
cell_of_outcome Comes.Store = None
cell_of_outcome Comes.Atomic = None
cell_of_outcome (Comes.Barrier why) = None
cell_of_outcome Comes.Other = None

-- the cell of the stop that it needs, if it does
abbrev pub stop_cell : Need → Option ℕ
stop_cell NoTurn = None
stop_cell (Turn kind why) = None
stop_cell (RegisterStop cell) = Some cell
