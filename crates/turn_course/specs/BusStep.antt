-- A core once its turn on the bus has ended: it has caught up with the log and its transfer is made, and either the step that is
-- begun ends, or a bad word stops the core.
use Rattle.std.specs.Prelude.{ℕ, ◌≡◌, ◌+◌, ◌^◌, ◌<◌, ◌==◌, ◌||◌, ◌++◌, Bool, true, false, IsTrue, List, [], ◌∷◌, length, map, drop, Some, Result, Ok, Err}
use Rattle.std.specs.List.{AllByRecursion, list_all}
use Rattle.ahb_bus.specs.BusOk.{BusOk}
use Rattle.ahb_bus.specs.BusState.{BusState}
use Rattle.core_course.specs.Calls.{Joins, MayTurn}
use Rattle.core_parts.specs.CoreValue.{CoreValue}
use Rattle.core_parts.specs.IsCore.{CanStore, Waits}
use Rattle.core_parts.specs.Needs.{kind_of, why_of}
use Rattle.core_parts.specs.Work.{waiting_in}
use Rattle.core_parts.specs.declared.phase.Phase.{Phase}
use Rattle.core_parts.specs.declared.phase.Phase.TheVariants.{Between, Ended}
use Rattle.core_turns.specs.AfterTurn.{snooping, turn_ended}
use Rattle.core_turns.specs.AskedTurn.{transfer_of, turn_answer}
use Rattle.core_turns.specs.MakesTurn.{core_after, next_atomic}
use Rattle.lf_model.specs.Caches.Slot.{line_of}
use Rattle.lf_model.specs.Course.Syndromes.{enters_log}
use Rattle.lf_model.specs.Course.Turned.{turn_trap}
use Rattle.lf_model.specs.Promise.Regular.{is_regular_op}
use Rattle.lf_model.specs.Start.{is_in_ram}
use Rattle.lf_model.specs.declared.bus.Bad.{Bad}
use Rattle.lf_model.specs.declared.bus.Entry.{Entry}
use Rattle.lf_model.specs.declared.bus.Pending.{Pending}
use Rattle.lf_model.specs.declared.bus.Transfer.{Transfer}
use Rattle.lf_model.specs.declared.step.Did.{Did}
use Rattle.lf_model.specs.declared.step.Turn.{Turn}
use Rattle.lf_model.specs.declared.step.Turn.TheVariants.{Fetch, Load, Atomic, Drain, Snoop}
use Rattle.lf_model.specs.declared.trace.CoreEnd.TheVariants.{Stop}
use Rattle.lf_model.specs.declared.trace.Word2.{Word2}
use Rattle.order_log.specs.LogState.{IsLogEntry}

-- ---- what the turn asks and comes to

-- its transfer, as memory answers it, once the core has caught up
abbrev pub transfer_at : BusState → Turn → CoreValue → Transfer
transfer_at bus turn v = transfer_of (snooping bus.log v) bus turn

-- its answer: what it does, or the lowest bad word of those that it wants
abbrev pub answer_of : BusState → Turn → CoreValue → Result Did Bad
answer_of bus turn v = turn_answer v.arch.ctl.pc turn (transfer_at bus turn v)

-- ---- the end of the turn, by its answer

-- a bad word stops the core by the error trap of the turn, whose transfer has this number
abbrev pub phase_by : Turn → ℕ → Result Did Bad → Phase
phase_by turn number (Ok did) = Between
phase_by turn number (Err bad) = Ended (Stop (turn_trap (kind_of turn)) number bad.syn)

-- and its stop names that word
abbrev pub named_by : ℕ → List Word2 → Result Did Bad → List Word2
named_by number named (Ok did) = named
named_by number named (Err bad) = record { addr = bad.addr; value = Some number } ∷ []

-- the core with its transfer made, once the step that is begun has ended so. pending: its stores that wait, with their numbers
abbrev pub ended_by : BusState → Turn → List Pending → CoreValue → Result Did Bad → CoreValue
ended_by bus turn pending v answer =
    turn_ended (phase_by turn (length bus.transfers) answer) (named_by (length bus.transfers) v.named answer) (length bus.transfers + 1) (core_after bus turn pending v)

-- the core after the whole turn
abbrev pub turned : BusState → Turn → List Pending → CoreValue → CoreValue
turned bus turn pending v = ended_by bus turn pending v (answer_of bus turn v)

-- ---- what it takes

-- by the kind of the turn: a fill is of a line in RAM; an atomic is of a byte or a word, and it and the stores that wait can reach memory
abbrev pub IsInRam : CoreValue → BusState → Turn → List Pending → Type 0
IsInRam v bus (Fetch line why) pending = (line < 2 ^ 32) × IsTrue (is_in_ram bus.setup.config.ram line 32)
IsInRam v bus (Load addr len why) pending = (addr < 2 ^ 32) × IsTrue (is_in_ram bus.setup.config.ram (line_of addr) 32)
IsInRam v bus (Atomic addr len new rd) pending = IsTrue (len == 1 || len == 4) × CanStore bus.setup (next_atomic addr len new v)
IsInRam v bus (Drain why) pending = (0 < length pending) × AllByRecursion (CanStore bus.setup) pending
IsInRam v bus Snoop pending = Unit {0}

-- the core and the bus that it joins, as the turn begins. entries: those that the core has not seen are such as the log keeps; waiting,
-- waits: the stores that wait are the last of those that it made; counted, ops_fit: its operations are counted, and a report can show them
pub record TakesTurn (v : CoreValue) (bus : BusState) (turn : Turn) (pending : List Pending) : Type 0 where
  pub joins : Joins v bus.log bus.transfers
  pub may : MayTurn v turn
  pub setup : v.setup ≡ bus.setup
  pub ok : BusOk bus
  pub entries : AllByRecursion IsLogEntry (drop v.log_seen bus.log)
  pub waiting : v.ports.waiting ≡ map waiting_in pending
  pub waits : Waits v.ops pending
  pub counted : v.arch.k ≡ length v.ops
  pub ops_fit : list_all is_regular_op v.ops ≡ true
  pub in_ram : IsInRam v bus turn pending

-- ---- what it leaves of the bus

-- a store or an atomic that met no bad word has its entry at the end of the log, and the log is as before after another turn
abbrev pub IsEntered : CoreValue → List Entry → List Entry → Bool → Type 0
IsEntered v before after true = (e : Entry) × ((e.core ≡ v.arch.core) × (after ≡ before ++ e ∷ []))
IsEntered v before after false = after ≡ before

-- one transfer more, of this core and of the turn's kind and cause; the setup stays, and no turn is begun then
pub record AddsTransfer (turn : Turn) (v : CoreValue) (before after : BusState) (t : Transfer) : Type 0 where
  pub made : after.transfers ≡ before.transfers ++ t ∷ []
  pub own : t.master ≡ v.arch.core
  pub step : t.step ≡ v.steps
  pub kind : t.kind ≡ kind_of turn
  pub why : t.why ≡ why_of turn
  pub entry : IsEntered v before.log after.log (enters_log t)
  pub setup : after.setup ≡ before.setup
  pub idle : after.begun ≡ false
