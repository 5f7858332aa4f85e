-- What reading registers through the ports answers: the values, or the first register that reads bad.
use Rattle.std.specs.Prelude.{ℕ, ◌≡◌, ◌<◌, ◌≤◌, ◌%◌, ◌==◌, ◌||◌, Bool, true, ◌+◌, ◌*◌, ◌^◌, ⊤, Some, None, Result, Ok, Err}
use Rattle.lf_model.specs.State.{State, register, operand}
use Rattle.lf_model.specs.Start.{is_in_ram}
use Rattle.lf_model.specs.Instructions.{operand_registers}
use Rattle.lf_model.specs.Effect.{Site}
use Rattle.lf_model.specs.Step.{Parts, bad_register, first_bad}
use Rattle.lf_model.specs.declared.instruction.Src.{Src}
use Rattle.lf_model.specs.declared.instruction.Src.TheVariants.{Reg, Imm}
use Rattle.lf_model.specs.declared.instruction.MemName.{MemName}
use Rattle.lf_model.specs.declared.instruction.MemName.TheVariants.{Ld, Ldub, Lduh, Ldd, St, Stb, Sth, Std, Ldsb, Ldsh, Ldstub, Swap}
use Rattle.lf_model.specs.declared.instruction.Instr.{Instr}
use Rattle.lf_model.specs.declared.instruction.Instr.TheVariants.{Illegal, AltIllegal, FpOff, CpOff, FpQueue, CpQueue, Stbar, Call, Sethi, Bicc, Calc, Ticc, ReadState, ReadAsr, WriteState, WriteAsr, Jmpl, Rett, Flush, Save, Restore, Mem, Alternate}
use Rattle.lf_model.specs.declared.step.RegBad.{RegBad}
use Rattle.v8_exec.specs.declared.operands.Operands.{Operands}
use Rattle.lf_model.specs.declared.step.Look.{Look}
use Rattle.lf_model.specs.declared.step.Look.TheVariants.{Hit, Miss}

-- the fields of a second operand are as an instruction word has them
abbrev pub IsSource : Src → Type 0
IsSource (Reg n) = n < 32
IsSource (Imm i) = i < 2 ^ 13

-- the doubleword forms have a register after rd
abbrev pub HasPair : MemName → ℕ → Type 0
HasPair Ldd rd = rd + 1 < 32
HasPair Std rd = rd + 1 < 32
HasPair Ld rd = ⊤
HasPair Ldub rd = ⊤
HasPair Lduh rd = ⊤
HasPair St rd = ⊤
HasPair Stb rd = ⊤
HasPair Sth rd = ⊤
HasPair Ldsb rd = ⊤
HasPair Ldsh rd = ⊤
HasPair Ldstub rd = ⊤
HasPair Swap rd = ⊤

-- the fields of an instruction are as an instruction word has them
abbrev pub IsInstruction : Instr → Type 0
IsInstruction (Call disp30) = disp30 < 2 ^ 30
IsInstruction (Sethi rd imm22) = (rd < 32) × (imm22 < 2 ^ 22)
IsInstruction (Bicc cond a disp22) = disp22 < 2 ^ 22
IsInstruction (Calc name rd rs1 src) = (rd < 32) × (rs1 < 32) × IsSource src
IsInstruction (Ticc cond rs1 src) = (rs1 < 32) × IsSource src
IsInstruction (ReadState name rd) = rd < 32
IsInstruction (ReadAsr rd rs1) = rd < 32
IsInstruction (WriteState name rs1 src) = (rs1 < 32) × IsSource src
IsInstruction (WriteAsr rd rs1 src) = (rs1 < 32) × IsSource src
IsInstruction (Jmpl rd rs1 src) = (rd < 32) × (rs1 < 32) × IsSource src
IsInstruction (Rett rs1 src) = (rs1 < 32) × IsSource src
IsInstruction (Flush rs1 src) = (rs1 < 32) × IsSource src
IsInstruction (Save rd rs1 src) = (rd < 32) × (rs1 < 32) × IsSource src
IsInstruction (Restore rd rs1 src) = (rd < 32) × (rs1 < 32) × IsSource src
IsInstruction (Mem name rd rs1 src) = (rd < 32) × (rs1 < 32) × IsSource src × HasPair name rd
IsInstruction (Alternate name rd rs1 rs2 asi) = (rd < 32) × (rs1 < 32) × (rs2 < 32) × HasPair name rd
IsInstruction Illegal = ⊤
IsInstruction AltIllegal = ⊤
IsInstruction FpOff = ⊤
IsInstruction CpOff = ⊤
IsInstruction FpQueue = ⊤
IsInstruction CpQueue = ⊤
IsInstruction Stbar = ⊤

abbrev pub ReadsRegister : Parts → State → ℕ → Result ℕ RegBad → Type 0
ReadsRegister parts s n (Ok value) = (value ≡ register s n) × (bad_register parts s.ctl.cwp n ≡ None)
ReadsRegister parts s n (Err bad) = bad_register parts s.ctl.cwp n ≡ Some bad

abbrev pub ReadsOperands : Parts → State → ℕ → Src → Result Operands RegBad → Type 0
ReadsOperands parts s rs1 src (Ok x) = (x.a ≡ register s rs1) × (x.b ≡ operand s src)
    × (first_bad parts s.ctl.cwp (operand_registers rs1 src) ≡ None)
ReadsOperands parts s rs1 src (Err bad) = first_bad parts s.ctl.cwp (operand_registers rs1 src) ≡ Some bad

-- the second operand is read when rs1 was read well
abbrev pub ReadsSource : Parts → State → Src → Result ℕ RegBad → Type 0
ReadsSource parts s (Reg n) result = ReadsRegister parts s n result
ReadsSource parts s (Imm i) result = result ≡ Ok (operand s (Imm i))

-- a look-up answers a number of so many bytes
abbrev pub FitsLook : ℕ → Look → Type 0
FitsLook len (Hit value way) = value < 2 ^ (8 * len)
FitsLook len (Miss why) = ⊤

-- a byte, half, word or doubleword
abbrev pub is_access_size : ℕ → Bool
is_access_size len = len == 1 || len == 2 || len == 4 || len == 8

-- an access to RAM: so many bytes, at a multiple of their number, all of them in RAM
pub record IsAccess (site : Site) (addr len : ℕ) : Type 0 where
  pub size : is_access_size len ≡ true
  pub short : len ≤ 8
  pub aligned : addr % len ≡ 0
  pub within : is_in_ram site.ram addr len ≡ true
