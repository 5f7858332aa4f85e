-- What the course of a core goes by: the setup, the core's number, the numbers that its operations read and the stores that it
-- makes, and how and when it ends.
use Rattle.std.specs.Prelude.{ℕ, ◌==◌, ◌&&◌, ◌||◌, Bool, true, false, List, filter, map}
use Rattle.lf_model.specs.ProgramOrder.{answers_of}
use Rattle.lf_model.specs.Operation.{made}
use Rattle.lf_model.specs.NumberedFlips.{numbered_flips}
use Rattle.lf_model.specs.Traps.{instruction_access_exception, data_access_exception}
use Rattle.lf_model.specs.declared.bus.Entry.{Entry}
use Rattle.lf_model.specs.declared.bus.OpKind.{OpKind}
use Rattle.lf_model.specs.declared.bus.OpKind.TheVariants.{Load, Store, Atomic, Lost}
use Rattle.lf_model.specs.declared.flip.Flip.{Flip}
use Rattle.lf_model.specs.declared.flip.Flip.TheVariants.{Mem, Reg, Tag, Line}
use Rattle.lf_model.specs.declared.setup.Setup.{Setup}
use Rattle.lf_model.specs.declared.trace.CoreEnd.{CoreEnd}
use Rattle.lf_model.specs.declared.trace.CoreEnd.TheVariants.{Halt, Stop, Limit}
use Rattle.lf_model.specs.declared.trace.Op.{Op}

-- what a core is given: the numbers that its loads and atomics read, and its stores, lost ones among them, in program order
pub record Given : Type 0 where
  pub answers : List ℕ
  pub stores : List Entry

-- what a core runs on. flips: those of the script that strike it, with their numbers; end and steps: how it ends, and how many
-- steps it makes
pub record Ground : Type 0 where
  pub setup : Setup
  pub core : ℕ
  pub flips : List (ℕ × Flip)
  pub given : Given
  pub end : CoreEnd
  pub steps : ℕ

-- the flip strikes this core
abbrev pub strikes_core : ℕ → Flip → Bool
strikes_core core (Mem turn addr bit) = false
strikes_core core (Reg c step cell bit) = c == core
strikes_core core (Tag c step fetch way set byte bit) = c == core
strikes_core core (Line c step fetch way set byte bit) = c == core

-- the operation is a store, which reached memory or was lost
abbrev pub is_store_kind : OpKind → Bool
is_store_kind Load = false
is_store_kind Store = true
is_store_kind Atomic = false
is_store_kind Lost = true

abbrev pub is_store : Op → Bool
is_store o = is_store_kind o.kind

-- what a core with these operations, in program order, is given
abbrev pub given_by : List Op → Given
given_by ops = record { answers = answers_of ops; stores = map made (filter is_store ops) }

abbrev pub ground_of : Setup → ℕ → Given → CoreEnd → ℕ → Ground
ground_of setup core given end steps = record {
  setup = setup;
  core = core;
  flips = filter (λ flip. strikes_core core flip.1) (numbered_flips setup.flips);
  given = given;
  end = end;
  steps = steps;
}

-- ---- the error traps that end a core: by a register cell, by a fetch (`instruction_access_exception`), by a load or an atomic
-- (`data_access_exception`), and by a store. Which error gives which trap type is this machine's own.

abbrev pub r_register_access_error : ℕ
r_register_access_error = 0x20

abbrev pub data_store_error : ℕ
data_store_error = 0x2b

-- the end is a stop by a register cell
abbrev pub is_register_stop : CoreEnd → Bool
is_register_stop (Stop tt_ place syn) = tt_ == r_register_access_error
is_register_stop (Halt tt_) = false
is_register_stop Limit = false

-- the end is a stop at the transfer of this turn
abbrev pub is_stop_at : ℕ → CoreEnd → Bool
is_stop_at turn (Stop tt_ place syn) = place == turn && (tt_ == instruction_access_exception || tt_ == data_access_exception || tt_ == data_store_error)
is_stop_at turn (Halt tt_) = false
is_stop_at turn Limit = false

-- the end is a stop by a store, with which the stores that wait are lost
abbrev pub is_store_stop : CoreEnd → Bool
is_store_stop (Stop tt_ place syn) = tt_ == data_store_error
is_store_stop (Halt tt_) = false
is_store_stop Limit = false
