-- What there is to account for of one core: that it owes no turn, the error traps that it met, its lost stores, its counters of
-- parity errors, and the registers without a value.
use Rattle.std.specs.Prelude.{ℕ, ◌+◌, ◌-◌, ◌==◌, ◌&&◌, not, Bool, List, [], ◌∷◌, length, map, filter, is_none, Option, Some, None, if◌then◌else◌}
use Rattle.std.specs.List.{range_with_len, zip}
use Rattle.lf_model.specs.Caches.Slot.{history_at}
use Rattle.lf_model.specs.Course.Arrays.{Arrays}
use Rattle.lf_model.specs.Course.Core.{Ground, is_store, is_store_stop, is_register_stop}
use Rattle.lf_model.specs.Course.Progress.{ErrorTrap, Progress}
use Rattle.lf_model.specs.Flips.{Moment, is_bad_word}
use Rattle.lf_model.specs.Ledger.Steps.{own_transfers}
use Rattle.lf_model.specs.Operation.{is_lost}
use Rattle.lf_model.specs.State.{cell}
use Rattle.lf_model.specs.declared.bus.Transfer.{Transfer}
use Rattle.lf_model.specs.declared.trace.CoreEnd.{CoreEnd}
use Rattle.lf_model.specs.declared.trace.CoreEnd.TheVariants.{Halt, Stop, Limit}
use Rattle.lf_model.specs.declared.trace.CoreResult.{CoreResult}
use Rattle.lf_model.specs.declared.trace.Four.{Four}
use Rattle.lf_model.specs.declared.trace.Op.{Op}

-- owed: the turns that it needed and didn't make; errors: the error traps that it met; lost: which of its stores, counted from 0,
-- never reached memory; blank: which of the 32 registers of its window have no value
pub record CoreAccount : Type 0 where
  pub owed : ℕ
  pub errors : List ErrorTrap
  pub lost : List ℕ
  pub parity : Four
  pub blank : List Bool

-- ---- by the course

-- where an error trap met a store, that one is lost, and so are those that wait behind it. No other end loses a store.
abbrev pub stores_lost : Ground → Progress → List ℕ
stores_lost g k = if is_store_stop g.end then range_with_len (k.drained - 1) (k.stored - (k.drained - 1)) else []

-- the stores that still wait at the end and aren't lost: each of them owes its drain
abbrev pub drains_owed : Ground → Progress → ℕ
drains_owed g k = if is_store_stop g.end then 0 else k.stored - k.drained

abbrev pub parity_errors : Arrays → Four
parity_errors a = record {
  fetch_tag = a.fetch_cache.tag_errors;
  fetch_byte = a.fetch_cache.byte_errors;
  data_tag = a.data_cache.tag_errors;
  data_byte = a.data_cache.byte_errors;
}

-- register n of a window is bad; register 0 never is
abbrev pub is_blank : List (List Moment) → ℕ → ℕ → Bool
is_blank cells window n = not (n == 0) && is_bad_word (history_at (cell window n) cells)

abbrev pub blank_registers : Progress → List Bool
blank_registers k = map (is_blank k.arrays.cells k.run.state.ctl.cwp) (range_with_len 0 32)

-- of a core at its end
abbrev pub core_by_course : Ground → Progress → CoreAccount
core_by_course g k = record {
  owed = k.owed + drains_owed g k;
  errors = k.errors;
  lost = stores_lost g k;
  parity = parity_errors k.arrays;
  blank = blank_registers k;
}

-- ---- as reported

-- with which of these turns an error trap of this end comes: the last one, or none where it is by a register cell
abbrev pub turns_reported : CoreEnd → ℕ → Option ℕ
turns_reported end turns = if is_register_stop end then None else Some turns

-- the error trap that an end names, which comes with the last of these steps and, if it is at a turn, with the last of these turns
abbrev pub errors_reported : CoreEnd → ℕ → ℕ → List ErrorTrap
errors_reported (Stop tt_ place syn) steps turns = record {
  trap_type = tt_;
  place = place;
  syndrome = syn;
  steps = steps;
  turns = turns_reported (Stop tt_ place syn) turns;
} ∷ []
errors_reported (Halt tt_) steps turns = []
errors_reported Limit steps turns = []

-- which of a core's stores are reported as lost
abbrev pub lost_reported : List Op → List ℕ
lost_reported stores = map (λ (o : ℕ × Op). o.0) (filter (λ (o : ℕ × Op). is_lost o.1) (zip (range_with_len 0 (length stores)) stores))

-- by a core's result, its operations in program order, and all transfers
abbrev pub core_as_reported : ℕ → CoreResult → List Op → List Transfer → CoreAccount
core_as_reported core r ops transfers = record {
  owed = 0;
  errors = errors_reported r.end r.steps (length (own_transfers core transfers));
  lost = lost_reported (filter is_store ops);
  parity = r.parity;
  blank = map is_none r.regs;
}
