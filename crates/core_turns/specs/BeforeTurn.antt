-- A core as its turn on the bus begins.
use Rattle.std.specs.Prelude.{ℕ, ◌≡◌, ◌≤◌, List, length, Some, None, slice_index}
use Rattle.core_parts.specs.CoreValue.{CoreValue}
use Rattle.core_parts.specs.Phases.{halt_by}
use Rattle.core_parts.specs.PortState.{arrays_in}
use Rattle.core_parts.specs.Seat.{IsSeat}
use Rattle.lf_model.specs.Course.Core.{Ground}
use Rattle.lf_model.specs.Course.Course.{with_unseen}
use Rattle.lf_model.specs.Course.Progress.{Progress}
use Rattle.lf_model.specs.Course.Turn.{turn_attempt}
use Rattle.lf_model.specs.Effect.{cell_written}
use Rattle.lf_model.specs.Records.OwnTurns.{next_effect}
use Rattle.lf_model.specs.Run.{reads_of}
use Rattle.lf_model.specs.State.{with_register, advanced}
use Rattle.lf_model.specs.declared.bus.Entry.{Entry}
use Rattle.lf_model.specs.declared.bus.Why.{Why}
use Rattle.v8_exec.specs.Accesses.{atomic_access}
use Rattle.core_turns.specs.AfterTurn.{unseen_in}

-- its seat as the turn begins, with the stores of others in the log that it has not yet seen
abbrev pub seat_at_turn : List Entry → CoreValue → Progress → Progress
seat_at_turn log v seat = with_unseen (unseen_in log v) seat

-- seat: that of the core, which goes on, by a ground of its setup and its number. It has seen a part of the log, and its arrays are those
-- of a step with a turn for this cause, before the turn.
pub record BeforeTurn (g : Ground) (seat : Progress) (v : CoreValue) (log : List Entry) (why : Why) : Type 0 where
  pub is_seat : IsSeat v g seat
  pub setup : g.setup ≡ v.setup
  pub core : g.core ≡ v.arch.core
  pub going : halt_by v.phase ≡ None
  pub within : v.log_seen ≤ length log
  pub tried : arrays_in v.ports ≡ (turn_attempt g why (next_effect g seat) seat).arrays

-- the instruction at PC is LDSTUB or SWAP with this operation. It reads this number, which goes to its register.
pub record ReadsAtomic (g : Ground) (seat : Progress) (addr len new rd got : ℕ) : Type 0 where
  pub access : (next_effect g seat).access ≡ Some (atomic_access addr len new rd)
  pub next : (next_effect g seat).next got ≡ advanced (with_register rd got seat.run.state)
  pub writes : (next_effect g seat).writes ≡ cell_written seat.run.state rd
  pub read : slice_index g.given.answers (reads_of seat.run.ops) ≡ got
