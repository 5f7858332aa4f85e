-- What holds of a core that has seen these entries of the log and these transfers on the bus, as its last turn ended.
use Rattle.std.specs.Prelude.{ℕ, ◌≡◌, ◌-◌, ◌<◌, ◌≤◌, ◌++◌, true, false, List, [], length, map, drop, filter}
use Rattle.std.specs.List.{AllByRecursion, list_all}
use Rattle.core_laws.specs.RunSoFar.{HasRun}
use Rattle.core_laws.specs.SeenSoFar.{HasSeenSoFar}
use Rattle.core_laws.specs.StepsSoFar.{HasStepsSoFar}
use Rattle.core_parts.specs.CoreValue.{CoreValue}
use Rattle.core_course.specs.Lines.{LinesAre}
use Rattle.core_parts.specs.Phases.{ground_so_far}
use Rattle.core_parts.specs.PortState.{Waiting}
use Rattle.core_course.specs.Result.{result_of}
use Rattle.core_parts.specs.Seat.{seat, IsSeat}
use Rattle.core_parts.specs.declared.phase.Phase.{Phase}
use Rattle.core_parts.specs.declared.phase.Phase.TheVariants.{Between, Begun, Needs, Ended}
use Rattle.lf_model.specs.Course.Core.{is_store, is_store_stop}
use Rattle.lf_model.specs.Ledger.CoreAccount.{stores_lost, lost_reported}
use Rattle.lf_model.specs.Ledger.Steps.{own_transfers, in_steps, past_steps, HasSteps}
use Rattle.lf_model.specs.Operation.{stores, is_lost, made}
use Rattle.lf_model.specs.Records.BusRecord.{is_in_memory}
use Rattle.lf_model.specs.Records.OwnTurns.{OwnTurnAt, words_named}
use Rattle.lf_model.specs.Records.SeenOrder.{HasSeen}
use Rattle.lf_model.specs.Results.{IsEnd}
use Rattle.lf_model.specs.Start.{initial_byte}
use Rattle.lf_model.specs.declared.bus.Entry.{Entry}
use Rattle.lf_model.specs.declared.bus.Transfer.{Transfer}
use Rattle.lf_model.specs.declared.trace.CoreEnd.{CoreEnd}

-- the last n of a list
abbrev pub last_of : ℕ → List Entry → List Entry
last_of n entries = drop (length entries - n) entries

-- the stores that wait, as they will enter the log: the last of those that it made
abbrev pub buffer_of : CoreValue → List Entry
buffer_of v = last_of (length v.ports.waiting) (map made (filter stores v.ops))

abbrev pub waiting_of : Entry → Waiting
waiting_of e = record { addr = e.addr; len = e.len; value = e.put }

-- ---- a core that goes on

abbrev pub within_steps : CoreValue → List Transfer → List Transfer
within_steps v transfers = in_steps v.steps (own_transfers v.arch.core transfers)

abbrev pub past_its_steps : CoreValue → List Transfer → List Transfer
past_its_steps v transfers = past_steps v.steps (own_transfers v.arch.core transfers)

-- its steps and transfers, the stores that wait, what it has seen of memory order, and the lines of its caches; no stop names a word yet
pub record GoesOn (v : CoreValue) (log : List Entry) (transfers : List Transfer) : Type 0 where
  pub in_order : own_transfers v.arch.core transfers ≡ within_steps v transfers ++ past_its_steps v transfers
  pub has_steps : HasStepsSoFar v.setup.config.steps v.steps v.arch.n (length v.ports.waiting) (within_steps v transfers) (past_its_steps v transfers)
  pub waits : v.ports.waiting ≡ map waiting_of (buffer_of v)
  pub has_seen : HasSeenSoFar (initial_byte v.setup.image) v.arch.core v.ops v.seen_by log (buffer_of v)
  pub lines : LinesAre v log (buffer_of v)
  pub unnamed : v.named ≡ []

-- ---- a core that has ended

-- its end is right, after no more steps than are allowed, and no store waits; its operations, what it saw and its transfers are those
-- of its record; the stores that are lost are those that its course loses, and it names the word that its end does
pub record HasEnded (v : CoreValue) (end : CoreEnd) (log : List Entry) (transfers : List Transfer) : Type 0 where
  pub is_end : IsEnd v.setup v.steps end
  pub within : v.steps ≤ v.setup.config.steps
  pub none_wait : v.ports.waiting ≡ []
  pub has_steps : HasSteps v.setup (result_of v end) (own_transfers v.arch.core transfers)
  pub has_seen : HasSeen (initial_byte v.setup.image) v.arch.core v.ops v.seen_by log
  pub none_lost : is_store_stop end ≡ false → AllByRecursion (λ o. is_lost o ≡ false) v.ops
  pub lost : stores_lost (ground_so_far v) (seat (ground_so_far v) transfers v.steps) ≡ lost_reported (filter is_store v.ops)
  pub named : v.named ≡ words_named (ground_so_far v) transfers

abbrev pub StandsBy : CoreValue → List Entry → List Transfer → Phase → Type 0
StandsBy v log transfers Between = GoesOn v log transfers
StandsBy v log transfers Begun = GoesOn v log transfers
StandsBy v log transfers (Needs turn) = GoesOn v log transfers
StandsBy v log transfers (Ended end) = HasEnded v end log transfers

-- ---- a step that is begun

abbrev pub LeftBy : CoreValue → Phase → Type 0
LeftBy v Between = Unit {0}
LeftBy v Begun = v.steps < v.setup.config.steps
LeftBy v (Needs turn) = v.steps < v.setup.config.steps
LeftBy v (Ended end) = Unit {0}

-- ---- the whole

-- the lists are as long as the core remembers, and the transfers lie in memory; its parts are its seat of the course; its run is
-- that of the image's code; each of its transfers is the one that its step needed; a step is begun only where one is left
pub record CoreOk (v : CoreValue) (log : List Entry) (transfers : List Transfer) : Type 0 where
  pub log_length : length log ≡ v.log_seen
  pub turns : length transfers ≡ v.turns_seen
  pub in_memory : list_all (is_in_memory v.setup.config.ram) transfers ≡ true
  pub is_seat : IsSeat v (ground_so_far v) (seat (ground_so_far v) transfers v.steps)
  pub has_run : HasRun (ground_so_far v) (seat (ground_so_far v) transfers v.steps)
  pub right_turns : (turn : ℕ) → turn < length transfers → OwnTurnAt (ground_so_far v) transfers turn
  pub stands : StandsBy v log transfers v.phase
  pub left : LeftBy v v.phase
