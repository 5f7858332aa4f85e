-- How a core is kept, and what its users see of it.
use Rattle.std.specs.Prelude.{ℕ, ◌≡◌, ◌+◌, ◌%◌, ◌^◌, ◌<◌, ◌≤◌, List, [], length}
use Rattle.ahb_bus.specs.BusState.{most_transfers}
use Rattle.core_parts.specs.CanRun.{CanRun}
use Rattle.core_parts.specs.CoreValue.{CoreValue}
use Rattle.core_parts.specs.Inside.{value_of}
use Rattle.core_parts.specs.IsCore.{IsCore}
use Rattle.core_parts.specs.declared.parts.Parts.{Parts}
use Rattle.core_parts.specs.declared.phase.Phase.{Phase}
use Rattle.core_parts.specs.declared.phase.Phase.TheVariants.{Between, Begun, Needs, Ended}
use Rattle.core_turns.specs.CanTurn.{CanTurn}
use Rattle.flip_ledger.specs.Plan.{IsPlanned}
use Rattle.flip_ledger.specs.declared.plan.Owner.TheVariants as owners
use Rattle.leon_core.specs.RoomInside.{IsReserved}
use Rattle.leon_core.specs.declared.one_core.Core.TheInside.{Inside}
use Rattle.lf_model.specs.Start.{ram_first, initial_byte, IsLoadable}
use Rattle.lf_model.specs.declared.control.Arch.{Arch}
use Rattle.lf_model.specs.declared.setup.Setup.{Setup}
use Rattle.lf_model.specs.declared.step.Turn.{Turn}
use Rattle.lf_model.specs.declared.step.Turn.TheVariants.{Fetch, Load, Atomic, Drain, Snoop}
use Rattle.lf_model.specs.declared.trace.Word2.{Word2}

abbrev pub core_seen : Inside → CoreValue
core_seen c = value_of c.arch c.parts c.quiet c.room.named.items c.phase

-- 1 in a step that is begun, whose flips have struck
abbrev pub in_step : Phase → ℕ
in_step Between = 0
in_step Begun = 1
in_step (Needs turn) = 1
in_step (Ended end) = 0

-- how often that step may have used the fetch cache: before its fetch is filled, not at all
abbrev pub looked_by : Turn → ℕ
looked_by (Fetch line why) = 0
looked_by (Load addr len why) = 1
looked_by (Atomic addr len new rd) = 1
looked_by (Drain why) = 1
looked_by Snoop = 1

abbrev pub looked_in : Phase → ℕ
looked_in Between = 0
looked_in Begun = 0
looked_in (Needs turn) = looked_by turn
looked_in (Ended end) = 0

-- only a core that has ended names a word
abbrev pub NamesBy : List Word2 → Phase → Type 0
NamesBy named Between = named ≡ []
NamesBy named Begun = named ≡ []
NamesBy named (Needs turn) = named ≡ []
NamesBy named (Ended end) = Unit {0}

-- a core that waits for its turn can make it
abbrev pub AskedBy : Arch → Parts → Phase → Type 0
AskedBy arch parts Between = Unit {0}
AskedBy arch parts Begun = Unit {0}
AskedBy arch parts (Needs turn) = CanTurn turn arch parts
AskedBy arch parts (Ended end) = Unit {0}

-- the image has bytes and lies in RAM, which is whole lines of the 32-bit addresses; a store can wait; and the transfers of all masters
-- can be counted
pub record IsRunnable (setup : Setup) : Type 0 where
  pub image : IsLoadable setup.config.ram setup.image
  pub bytes : (a : ℕ) → initial_byte setup.image a < 2 ^ 8
  pub ram : setup.config.ram % 32 ≡ 0
  pub ram_end : ram_first + setup.config.ram ≤ 2 ^ 32
  pub some_place : 1 ≤ setup.config.buffer
  pub transfers : most_transfers setup.config < 2 ^ 32

-- setup, number: its cores can run, and it is one of them; window, limit, flips: as the setup has them; core: its state registers and
-- parts; planned, runs: the flips of the steps to come are still in the plan, and the parts are ready for these steps; within, counted,
-- made_few, quiet_few: it makes no more steps than are allowed, and no more instructions, operations and steps without a turn than steps;
-- room, names: of what it leaves at its end nothing is put but the word that its stop names; asked: it can make the turn that its step
-- needs
pub record IsKept (c : Inside) : Type 0 where
  pub setup : IsRunnable c.parts.site
  pub number : c.arch.core < c.parts.site.config.cores
  pub window : c.window ≡ c.parts.site.config.window
  pub limit : c.limit ≡ c.parts.site.config.steps
  pub flips : c.flips ≡ length c.parts.site.flips
  pub core : IsCore c.arch c.parts
  pub planned : IsPlanned (owners.Core c.parts.«record».core) c.parts.site.flips (c.parts.«record».steps + in_step c.phase) c.plan
  pub runs : CanRun (c.parts.«record».steps + in_step c.phase) (looked_in c.phase) c.parts
  pub within : c.parts.«record».steps + in_step c.phase ≤ c.parts.site.config.steps
  pub counted : c.arch.n ≤ c.parts.«record».steps
  pub made_few : c.arch.k ≤ c.parts.«record».steps
  pub quiet_few : c.quiet ≤ c.parts.«record».steps
  pub room : IsReserved c.flips c.room
  pub names : NamesBy c.room.named.items c.phase
  pub asked : AskedBy c.arch c.parts c.phase
