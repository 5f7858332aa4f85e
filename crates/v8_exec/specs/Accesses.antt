-- What loads, stores and atomics need of the fields of their instruction, read from its registers, and ask of the bus.
use Rattle.std.specs.Prelude.{ℕ, ◌≡◌, ◌*◌, ◌^◌, ◌<◌, ⊤, ◌++◌, List, Some, None, Result, Ok, Err, false, true, Bool, ◌==◌, ◌||◌}
use Rattle.lf_model.specs.Start.{touches_text}
use Rattle.lf_model.specs.State.{State}
use Rattle.lf_model.specs.Instructions.{operand_registers, stored_registers}
use Rattle.lf_model.specs.Effect.{Site, AccessKind, Access, sum_of_operands}
use Rattle.lf_model.specs.Memory.{stored_number}
use Rattle.lf_model.specs.Effects.{effect}
use Rattle.lf_model.specs.Run.{performed}
use Rattle.lf_model.specs.Step.{Seen, Parts, state_of, run_seen, first_bad, access_row, looked, recorded, came_to}
use Rattle.lf_model.specs.declared.instruction.MemName.{MemName}
use Rattle.lf_model.specs.declared.control.Arch.{Arch}
use Rattle.lf_model.specs.declared.instruction.Instr.{Instr}
use Rattle.lf_model.specs.declared.instruction.Instr.TheVariants.{Illegal, AltIllegal, FpOff, CpOff, FpQueue, CpQueue, Stbar, Call, Sethi, Bicc, Calc, Ticc, ReadState, ReadAsr, WriteState, WriteAsr, Jmpl, Rett, Flush, Save, Restore, Mem, Alternate}
use Rattle.lf_model.specs.declared.instruction.Src.{Src}
use Rattle.lf_model.specs.declared.step.Did.{Did}
use Rattle.lf_model.specs.declared.step.Did.TheVariants.{Retired, Turned, Need, Halt, Stop}
use Rattle.lf_model.specs.declared.step.RegBad.{RegBad}
use Rattle.lf_model.specs.declared.step.Turn.{Turn}
use Rattle.lf_model.specs.declared.step.Turn.TheVariants.{Fetch, Load, Atomic, Drain, Snoop}
use Rattle.v8_exec.specs.Reading.{IsAccess}
use Rattle.v8_exec.specs.declared.operands.Request.{Request}

-- these registers are read, and make this number, or the first that reads bad is answered
abbrev pub ReadsNumber : Parts → State → List ℕ → ℕ → Result ℕ RegBad → Type 0
ReadsNumber parts s registers number (Ok value) = (value ≡ number) × (first_bad parts s.ctl.cwp registers ≡ None)
ReadsNumber parts s registers number (Err bad) = first_bad parts s.ctl.cwp registers ≡ Some bad

-- an access reads its operands and then what it stores
abbrev pub ReadsRequest : Parts → State → MemName → ℕ → ℕ → Src → Result Request RegBad → Type 0
ReadsRequest parts s name rd rs1 src (Ok x) = (x.addr ≡ sum_of_operands s rs1 src) × (x.value ≡ stored_number name rd s)
    × (first_bad parts s.ctl.cwp (operand_registers rs1 src ++ stored_registers name rd) ≡ None)
ReadsRequest parts s name rd rs1 src (Err bad) =
    first_bad parts s.ctl.cwp (operand_registers rs1 src ++ stored_registers name rd) ≡ Some bad

-- the operation of a load
abbrev pub load_access : ℕ → ℕ → ℕ → Access
load_access addr len rd = record { kind = AccessKind.Load; addr = addr; len = len; put = 0; rd = rd }

-- a load reads these bytes, and is recorded
pub record Reads (parts : Parts) (addr len : ℕ) (before after : Seen) (value : ℕ) : Type 0 where
  pub read : looked (parts.look addr len) ≡ value
  pub hit : (rd : ℕ) → access_row parts (Some (load_access addr len rd)) ≡ None
  pub made : (rd : ℕ) → after ≡ recorded value (load_access addr len rd) before

-- a turn is needed
abbrev pub IsNeed : Did → Type 0
IsNeed (Need turn) = ⊤
IsNeed Retired = ⊥
IsNeed Turned = ⊥
IsNeed (Halt tt_) = ⊥
IsNeed (Stop tt_ place syn) = ⊥

-- a load comes to this, and leaves all as it was
pub record Misses (parts : Parts) (addr len : ℕ) (before after : Seen) (did : Did) : Type 0 where
  pub miss : (rd : ℕ) → access_row parts (Some (load_access addr len rd)) ≡ Some did
  pub same : after ≡ before
  pub need : IsNeed did

abbrev pub Looks : Parts → ℕ → ℕ → Seen → Seen → Result ℕ Did → Type 0
Looks parts addr len before after (Ok value) = Reads parts addr len before after value
Looks parts addr len before after (Err did) = Misses parts addr len before after did

-- the operation of LDSTUB or SWAP
abbrev pub atomic_access : ℕ → ℕ → ℕ → ℕ → Access
atomic_access addr len new rd = record { kind = AccessKind.Atomic; addr = addr; len = len; put = new; rd = rd }

-- an atomic is of a byte or a word
abbrev pub is_atomic_size : ℕ → Bool
is_atomic_size len = len == 1 || len == 4

-- a turn on the bus that is asked for is of an access to RAM; an atomic changes no text, and has a number of so many bytes
-- and a register
abbrev pub AsksTurn : Site → Turn → Type 0
AsksTurn site (Load addr len why) = IsAccess site addr len
AsksTurn site (Atomic addr len new rd) =
    IsAccess site addr len × (is_atomic_size len ≡ true) × (touches_text site.image.text addr len ≡ false)
    × (new < 2 ^ (8 * len)) × (rd < 32)
AsksTurn site (Fetch line why) = ⊤
AsksTurn site (Drain why) = ⊤
AsksTurn site Snoop = ⊤

abbrev pub Asks : Site → Did → Type 0
Asks site (Need turn) = AsksTurn site turn
Asks site Retired = ⊤
Asks site Turned = ⊤
Asks site (Halt tt_) = ⊤
Asks site (Stop tt_ place syn) = ⊤

-- a load, store or atomic
abbrev pub IsAccessing : Instr → Type 0
IsAccessing (Mem name rd rs1 src) = ⊤
IsAccessing (Alternate name rd rs1 rs2 asi) = ⊤
IsAccessing Illegal = ⊥
IsAccessing AltIllegal = ⊥
IsAccessing FpOff = ⊥
IsAccessing CpOff = ⊥
IsAccessing FpQueue = ⊥
IsAccessing CpQueue = ⊥
IsAccessing Stbar = ⊥
IsAccessing (Call disp30) = ⊥
IsAccessing (Sethi rd imm22) = ⊥
IsAccessing (Bicc cond a disp22) = ⊥
IsAccessing (Calc name rd rs1 src) = ⊥
IsAccessing (Ticc cond rs1 src) = ⊥
IsAccessing (ReadState name rd) = ⊥
IsAccessing (ReadAsr rd rs1) = ⊥
IsAccessing (WriteState name rs1 src) = ⊥
IsAccessing (WriteAsr rd rs1 src) = ⊥
IsAccessing (Jmpl rd rs1 src) = ⊥
IsAccessing (Rett rs1 src) = ⊥
IsAccessing (Flush rs1 src) = ⊥
IsAccessing (Save rd rs1 src) = ⊥
IsAccessing (Restore rd rs1 src) = ⊥

-- LDSTUB or SWAP, which needed this turn of an atomic: once its operation is recorded, it is performed with the number that the
-- turn read
abbrev pub Finishes : Instr → Parts → Access → ℕ → Arch → Arch → Seen → Seen → Type 0
Finishes i parts x got old next before after =
    came_to parts (state_of old before) (effect before.site (state_of old before) i) ≡ Need (Atomic x.addr x.len x.put x.rd)
    → run_seen next (recorded got x after) ≡ performed before.site.core got (effect before.site (state_of old before) i) (run_seen old before)
