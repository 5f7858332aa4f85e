-- What a step or a turn of a core leaves of its parts, as the seat of its course needs it.
use Rattle.std.specs.Prelude.{ℕ, ◌≡◌, ◌+◌, ◌++◌, nat_le, List, length, map, filter, slice_index, false, None, if◌then◌else◌}
use Rattle.std.specs.Int.{from_bool}
use Rattle.std.specs.List.{zip}
use Rattle.core_parts.specs.CoreValue.{CoreValue}
use Rattle.core_parts.specs.PortState.{arrays_in}
use Rattle.core_parts.specs.Seat.{run_of_core}
use Rattle.lf_model.specs.Course.Attempt.{Attempt, attempt}
use Rattle.lf_model.specs.Course.Arrays.{begun}
use Rattle.lf_model.specs.Course.Core.{Ground, is_store, is_store_stop}
use Rattle.lf_model.specs.Caches.Slot.{history_at}
use Rattle.lf_model.specs.Course.LocalStep.{retired_arrays, named_cell, way_hit}
use Rattle.lf_model.specs.Course.Progress.{Progress, Completion, completed, stores_made}
use Rattle.lf_model.specs.Course.Syndromes.{syndromes_of, enters_log}
use Rattle.lf_model.specs.Course.Turned.{own_turn, turn_trap}
use Rattle.lf_model.specs.Flips.{syndrome}
use Rattle.lf_model.specs.Names.{same_kind}
use Rattle.lf_model.specs.Records.CoreRecord.{completion_reported}
use Rattle.lf_model.specs.Records.OwnTurns.{next_effect}
use Rattle.lf_model.specs.Run.{answered}
use Rattle.lf_model.specs.declared.bus.Transfer.{Transfer}
use Rattle.lf_model.specs.declared.bus.TurnKind.TheVariants.{Store}
use Rattle.lf_model.specs.declared.trace.CoreEnd.TheVariants.{Stop}
use Rattle.lf_model.specs.declared.trace.Op.{Op}

-- what the instruction of the next step comes to, and the arrays then
abbrev pub tried_at : Ground → Progress → Attempt
tried_at g k = attempt g.setup.image k.run.state (next_effect g k) (begun g.flips k.steps k.arrays)

-- the operations of a core as its record shows them completed
abbrev pub completions_of : CoreValue → List Completion
completions_of v = map (λ (o : Op × ℕ). completion_reported o.0 o.1) (zip v.ops v.seen_by)

-- how many stores it made
abbrev pub stores_in : CoreValue → ℕ
stores_in v = length (filter is_store v.ops)

-- a step without a turn, in which the instruction at PC retired: the core before, and after it
pub record Retires (g : Ground) (k : Progress) (old new : CoreValue) : Type 0 where
  pub steps : new.steps ≡ old.steps + 1
  pub quiet : new.quiet ≡ old.quiet + 1
  pub counted : new.arch.n ≡ old.arch.n + 1
  pub run : run_of_core new ≡ answered g.core g.given.answers k.run (next_effect g k)
  pub arrays : arrays_in new.ports ≡ retired_arrays (next_effect g k) (tried_at g k).arrays
  pub seen : new.log_seen ≡ old.log_seen
  pub completions : completions_of new ≡ completions_of old ++ completed k.steps (way_hit (tried_at g k).arrays.data_cache (tried_at g k).outcome) k.seen (next_effect g k).access
  pub stored : stores_in new ≡ stores_in old + stores_made (next_effect g k).access
  pub waits : length new.ports.waiting ≡ length old.ports.waiting + stores_made (next_effect g k).access

-- how many steps a core has made once its turn ends: a turn ends the step that needed it, but a drain after the last step ends none
abbrev pub step_ended : CoreValue → ℕ
step_ended v = if nat_le v.setup.config.steps v.steps then v.steps else v.steps + 1

-- the entries of the log that a core has seen once it has made this transfer
abbrev pub seen_with : Transfer → Progress → ℕ
seen_with t k = k.seen + length k.unseen + from_bool (enters_log t)

-- a turn on the bus that retires no instruction and meets no bad word that it wants: a fill, a drain, or a snoop
pub record Turns (g : Ground) (k : Progress) (t : Transfer) (old new : CoreValue) : Type 0 where
  pub steps : new.steps ≡ step_ended old
  pub quiet : new.quiet ≡ 0
  pub counted : new.arch.n ≡ old.arch.n
  pub run : run_of_core new ≡ k.run
  pub arrays : arrays_in new.ports ≡ (own_turn g t k).arrays
  pub seen : new.log_seen ≡ seen_with t k
  pub completions : completions_of new ≡ completions_of old
  pub stored : stores_in new ≡ stores_in old
  pub waits : length new.ports.waiting + from_bool (same_kind t.kind Store) ≡ length old.ports.waiting

-- the turn of LDSTUB or SWAP, which retires with it
pub record Exchanges (g : Ground) (k : Progress) (t : Transfer) (old new : CoreValue) : Type 0 where
  pub steps : new.steps ≡ step_ended old
  pub quiet : new.quiet ≡ 0
  pub counted : new.arch.n ≡ old.arch.n + 1
  pub run : run_of_core new ≡ answered g.core g.given.answers k.run (next_effect g k)
  pub arrays : arrays_in new.ports ≡ (own_turn g t k).arrays
  pub seen : new.log_seen ≡ seen_with t k
  pub completions : completions_of new ≡ completions_of old ++ completed k.steps None (seen_with t k) (next_effect g k).access
  pub stored : stores_in new ≡ stores_in old + stores_made (next_effect g k).access
  pub waits : length new.ports.waiting + from_bool (same_kind t.kind Store) ≡ length old.ports.waiting + stores_made (next_effect g k).access

-- a step without a turn in which a bad register cell, with this syndrome, stops the core
pub record Stops (g : Ground) (k : Progress) (cell syn : ℕ) (old new : CoreValue) : Type 0 where
  pub steps : new.steps ≡ old.steps + 1
  pub quiet : new.quiet ≡ old.quiet + 1
  pub counted : new.arch.n ≡ old.arch.n
  pub run : run_of_core new ≡ k.run
  pub arrays : arrays_in new.ports ≡ named_cell (tried_at g k).outcome (tried_at g k).arrays
  pub met : syndrome (history_at cell (tried_at g k).arrays.cells) ≡ syn
  pub seen : new.log_seen ≡ old.log_seen
  pub completions : completions_of new ≡ completions_of old
  pub stored : stores_in new ≡ stores_in old
  pub waits : length new.ports.waiting ≡ length old.ports.waiting

-- a turn that stops the core with trap type tt_: it wanted word j, which was bad with this syndrome. Where it is a store, the stores
-- that wait are lost.
pub record StopsAtTurn (g : Ground) (k : Progress) (t : Transfer) (j tt_ syn : ℕ) (old new : CoreValue) : Type 0 where
  pub steps : new.steps ≡ step_ended old
  pub quiet : new.quiet ≡ 0
  pub counted : new.arch.n ≡ old.arch.n
  pub run : run_of_core new ≡ k.run
  pub arrays : arrays_in new.ports ≡ (own_turn g t k).arrays
  pub trap_type : turn_trap t.kind ≡ tt_
  pub met : slice_index (syndromes_of t) j ≡ syn
  pub seen : new.log_seen ≡ seen_with t k
  pub completions : completions_of new ≡ completions_of old
  pub stored : stores_in new ≡ stores_in old
  pub waits : is_store_stop (Stop tt_ t.turn syn) ≡ false → length new.ports.waiting + from_bool (same_kind t.kind Store) ≡ length old.ports.waiting
