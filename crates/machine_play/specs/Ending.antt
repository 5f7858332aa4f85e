-- What is read off a machine that has ended.
use Rattle.std.specs.Prelude.{ℕ, List, [], ◌∷◌}
use Rattle.ahb_bus.specs.BusState.{BusState, memory_of}
use Rattle.bus_memory.specs.MemoryState.{value_shown}
use Rattle.core_course.specs.Calls.{Joins}
use Rattle.core_parts.specs.CoreValue.{CoreValue}
use Rattle.leon_core.specs.Ends.{Leaves}
use Rattle.lf_model.specs.Records.CoreRecord.{RecordOk}
use Rattle.lf_model.specs.declared.bus.Entry.{Entry}
use Rattle.lf_model.specs.declared.bus.Transfer.{Transfer}
use Rattle.lf_model.specs.declared.record.CoreRecord.{CoreRecord}
use Rattle.lf_model.specs.declared.trace.Word2.{Word2}

-- a watched word with the value that memory shows
abbrev pub watched_on : BusState → ℕ → Word2
watched_on bus addr = record { addr = addr; value = value_shown (memory_of bus) addr }

-- the words that a record names
abbrev pub named_of : CoreRecord → List Word2
named_of kept = kept.named

-- the core leaves this record, which is right beside each log and all transfers that the core joins
pub record LeavesOk (v : CoreValue) (kept : CoreRecord) : Type 0 where
  pub leaves : Leaves v kept
  pub ok : (log : List Entry) (transfers : List Transfer) → Joins v log transfers → RecordOk v.setup v.arch.core kept log transfers

-- each of these cores leaves its own
abbrev pub AllLeave : List CoreValue → List CoreRecord → Type 0
AllLeave [] [] = Unit {0}
AllLeave [] (kept ∷ records) = ⊥
AllLeave (v ∷ vs) [] = ⊥
AllLeave (v ∷ vs) (kept ∷ records) = LeavesOk v kept × AllLeave vs records
