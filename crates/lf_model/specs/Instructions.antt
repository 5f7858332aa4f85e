-- The instruction that a word is: the opcode tables (SPARC V8, appendix F, opcodes and condition codes), and of each
-- instruction the ranges of its fields, the registers that it reads and whether it is privileged.
-- This machine has no floating-point unit and no coprocessor, and of the ancillary state registers only 17 and 19.
use Rattle.std.specs.Prelude.{ℕ, ◌+◌, ◌%◌, ◌^◌, ◌==◌, Bool, true, false, ◌&&◌, ◌||◌, if◌then◌else◌, nat_lt, List, [], ◌∷◌, ◌++◌, Option, Some, None}
use Rattle.std.specs.List.{list_all}
use Rattle.lf_model.specs.Fields.{op_of, op2_of, op3_of, rd_of, rs1_of, rs2_of, cond_of, a_of, i_of, asi_of, imm22_of, disp22_of, disp30_of, src_of}
use Rattle.lf_model.specs.declared.instruction.Src.{Src}
use Rattle.lf_model.specs.declared.instruction.Src.TheVariants.{Reg, Imm}
use Rattle.lf_model.specs.declared.instruction.StateName.{StateName}
use Rattle.lf_model.specs.declared.instruction.StateName.TheVariants.{Y, Psr, Wim, Tbr}
use Rattle.lf_model.specs.declared.instruction.CalcName.{CalcName}
use Rattle.lf_model.specs.declared.instruction.CalcName.TheVariants as calculations
use Rattle.lf_model.specs.declared.instruction.MemName.{MemName}
use Rattle.lf_model.specs.declared.instruction.MemName.TheVariants.{Ld, Ldub, Lduh, Ldd, St, Stb, Sth, Std, Ldsb, Ldsh, Ldstub, Swap}
use Rattle.lf_model.specs.declared.instruction.Instr.{Instr}
use Rattle.lf_model.specs.declared.instruction.Instr.TheVariants.{Illegal, AltIllegal, FpOff, CpOff, FpQueue, CpQueue, Stbar, Call, Sethi, Bicc, Calc, Ticc, ReadState, ReadAsr, WriteState, WriteAsr, Jmpl, Rett, Flush, Save, Restore, Mem, Alternate}

-- ---- how a table is read

-- the entry of a number in a table: that of the first row with the number
abbrev pub row : {X : Type 0} → List (ℕ × X) → ℕ → Option X
row [] number = None
row (x ∷ xs) number = if number == x.0 then Some x.1 else row xs number

-- what a row makes of a word; where there is no row, the word is no instruction
abbrev pub made : Option (ℕ → Instr) → ℕ → Instr
made (Some instruction) w = instruction w
made None w = Illegal

-- the instruction of a word by one of its fields, whose number picks a row of the table
abbrev pub by_field : (ℕ → ℕ) → List (ℕ × (ℕ → Instr)) → ℕ → Instr
by_field field rows w = made (row rows (field w)) w

-- ---- what the rows make of a word

-- the same instruction whatever the other bits are
abbrev pub always : Instr → ℕ → Instr
always instruction w = instruction

abbrev pub call : ℕ → Instr
call w = Call (disp30_of w)

abbrev pub sethi : ℕ → Instr
sethi w = Sethi (rd_of w) (imm22_of w)

abbrev pub bicc : ℕ → Instr
bicc w = Bicc (cond_of w) (a_of w) (disp22_of w)

abbrev pub calc : CalcName → ℕ → Instr
calc name w = Calc name (rd_of w) (rs1_of w) (src_of w)

abbrev pub ticc : ℕ → Instr
ticc w = Ticc (cond_of w) (rs1_of w) (src_of w)

abbrev pub read_state : StateName → ℕ → Instr
read_state name w = ReadState name (rd_of w)

abbrev pub read_asr : ℕ → Instr
read_asr w = ReadAsr (rd_of w) (rs1_of w)

abbrev pub write_state : StateName → ℕ → Instr
write_state name w = WriteState name (rs1_of w) (src_of w)

abbrev pub write_asr : ℕ → Instr
write_asr w = WriteAsr (rd_of w) (rs1_of w) (src_of w)

abbrev pub jmpl : ℕ → Instr
jmpl w = Jmpl (rd_of w) (rs1_of w) (src_of w)

abbrev pub rett : ℕ → Instr
rett w = Rett (rs1_of w) (src_of w)

abbrev pub flush : ℕ → Instr
flush w = Flush (rs1_of w) (src_of w)

abbrev pub save : ℕ → Instr
save w = Save (rd_of w) (rs1_of w) (src_of w)

abbrev pub restore : ℕ → Instr
restore w = Restore (rd_of w) (rs1_of w) (src_of w)

-- the doubleword forms take an even rd, all others any rd
abbrev pub rd_fits : MemName → ℕ → Bool
rd_fits Ldd rd = rd % 2 == 0
rd_fits Std rd = rd % 2 == 0
rd_fits Ld rd = true
rd_fits Ldub rd = true
rd_fits Lduh rd = true
rd_fits St rd = true
rd_fits Stb rd = true
rd_fits Sth rd = true
rd_fits Ldsb rd = true
rd_fits Ldsh rd = true
rd_fits Ldstub rd = true
rd_fits Swap rd = true

abbrev pub mem : MemName → ℕ → Instr
mem name w = if rd_fits name (rd_of w) then Mem name (rd_of w) (rs1_of w) (src_of w) else Illegal

-- an alternate form has no immediate operand
abbrev pub alternate : MemName → ℕ → Instr
alternate name w =
    if i_of w == 0 && rd_fits name (rd_of w)
    then Alternate name (rd_of w) (rs1_of w) (rs2_of w) (asi_of w)
    else AltIllegal

-- ---- the tables

-- op = 0, by op2: Bicc, SETHI, FBfcc, CBccc
abbrev pub branch_rows : List (ℕ × (ℕ → Instr))
branch_rows = (2, bicc) ∷ (4, sethi) ∷ (6, always FpOff) ∷ (7, always CpOff) ∷ []

-- op = 2 and op3 = 0x28, by rs1: RDY, STBAR, RDASR
abbrev pub read_rows : List (ℕ × (ℕ → Instr))
read_rows =
    (0, read_state Y)
    ∷ (15, by_field rd_of ((0, always Stbar) ∷ []))
    ∷ (17, read_asr) ∷ (19, read_asr) ∷ []

-- op = 2 and op3 = 0x30, by rd: WRY, WRASR
abbrev pub write_rows : List (ℕ × (ℕ → Instr))
write_rows = (0, write_state Y) ∷ (17, write_asr) ∷ (19, write_asr) ∷ []

-- op = 2, by op3
abbrev pub arithmetic_rows : List (ℕ × (ℕ → Instr))
arithmetic_rows =
    (0x00, calc calculations.Add) ∷ (0x10, calc calculations.AddCc)
    ∷ (0x01, calc calculations.And) ∷ (0x11, calc calculations.AndCc)
    ∷ (0x02, calc calculations.Or) ∷ (0x12, calc calculations.OrCc)
    ∷ (0x03, calc calculations.Xor) ∷ (0x13, calc calculations.XorCc)
    ∷ (0x04, calc calculations.Sub) ∷ (0x14, calc calculations.SubCc)
    ∷ (0x05, calc calculations.AndN) ∷ (0x15, calc calculations.AndNCc)
    ∷ (0x06, calc calculations.OrN) ∷ (0x16, calc calculations.OrNCc)
    ∷ (0x07, calc calculations.XNor) ∷ (0x17, calc calculations.XNorCc)
    ∷ (0x08, calc calculations.AddX) ∷ (0x18, calc calculations.AddXCc)
    ∷ (0x0a, calc calculations.UMul) ∷ (0x1a, calc calculations.UMulCc)
    ∷ (0x0b, calc calculations.SMul) ∷ (0x1b, calc calculations.SMulCc)
    ∷ (0x0c, calc calculations.SubX) ∷ (0x1c, calc calculations.SubXCc)
    ∷ (0x0e, calc calculations.UDiv) ∷ (0x1e, calc calculations.UDivCc)
    ∷ (0x0f, calc calculations.SDiv) ∷ (0x1f, calc calculations.SDivCc)
    ∷ (0x20, calc calculations.TAddCc) ∷ (0x21, calc calculations.TSubCc)
    ∷ (0x22, calc calculations.TAddCcTv) ∷ (0x23, calc calculations.TSubCcTv)
    ∷ (0x24, calc calculations.MulScc)
    ∷ (0x25, calc calculations.Sll) ∷ (0x26, calc calculations.Srl) ∷ (0x27, calc calculations.Sra)
    ∷ (0x28, by_field rs1_of read_rows)
    ∷ (0x29, read_state Psr) ∷ (0x2a, read_state Wim) ∷ (0x2b, read_state Tbr)
    ∷ (0x30, by_field rd_of write_rows)
    ∷ (0x31, write_state Psr) ∷ (0x32, write_state Wim) ∷ (0x33, write_state Tbr)
    -- FPop1, FPop2, CPop1, CPop2
    ∷ (0x34, always FpOff) ∷ (0x35, always FpOff) ∷ (0x36, always CpOff) ∷ (0x37, always CpOff)
    ∷ (0x38, jmpl) ∷ (0x39, rett) ∷ (0x3a, ticc) ∷ (0x3b, flush) ∷ (0x3c, save) ∷ (0x3d, restore) ∷ []

-- op = 3, by op3
abbrev pub memory_rows : List (ℕ × (ℕ → Instr))
memory_rows =
    (0x00, mem Ld) ∷ (0x10, alternate Ld)
    ∷ (0x01, mem Ldub) ∷ (0x11, alternate Ldub)
    ∷ (0x02, mem Lduh) ∷ (0x12, alternate Lduh)
    ∷ (0x03, mem Ldd) ∷ (0x13, alternate Ldd)
    ∷ (0x04, mem St) ∷ (0x14, alternate St)
    ∷ (0x05, mem Stb) ∷ (0x15, alternate Stb)
    ∷ (0x06, mem Sth) ∷ (0x16, alternate Sth)
    ∷ (0x07, mem Std) ∷ (0x17, alternate Std)
    ∷ (0x09, mem Ldsb) ∷ (0x19, alternate Ldsb)
    ∷ (0x0a, mem Ldsh) ∷ (0x1a, alternate Ldsh)
    ∷ (0x0d, mem Ldstub) ∷ (0x1d, alternate Ldstub)
    ∷ (0x0f, mem Swap) ∷ (0x1f, alternate Swap)
    -- LDF, LDFSR, LDDF, STF, STFSR, STDFQ, STDF
    ∷ (0x20, always FpOff) ∷ (0x21, always FpOff) ∷ (0x23, always FpOff)
    ∷ (0x24, always FpOff) ∷ (0x25, always FpOff) ∷ (0x26, always FpQueue) ∷ (0x27, always FpOff)
    -- LDC, LDCSR, LDDC, STC, STCSR, STDCQ, STDC
    ∷ (0x30, always CpOff) ∷ (0x31, always CpOff) ∷ (0x33, always CpOff)
    ∷ (0x34, always CpOff) ∷ (0x35, always CpOff) ∷ (0x36, always CpQueue) ∷ (0x37, always CpOff) ∷ []

unfoldable pub branch : ℕ → Instr
branch w = by_field op2_of branch_rows w

unfoldable pub arithmetic : ℕ → Instr
arithmetic w = by_field op3_of arithmetic_rows w

unfoldable pub memory : ℕ → Instr
memory w = by_field op3_of memory_rows w

-- by op
abbrev pub op_rows : List (ℕ × (ℕ → Instr))
op_rows = (0, branch) ∷ (1, call) ∷ (2, arithmetic) ∷ (3, memory) ∷ []

-- the instruction that a word is
unfoldable pub instruction_of : ℕ → Instr
instruction_of w = by_field op_of op_rows w

-- ---- the ranges of the fields

-- the register of the second operand, where it is one
abbrev pub src_registers : Src → List ℕ
src_registers (Reg rs2) = rs2 ∷ []
src_registers (Imm simm13) = []

-- the register numbers of an instruction; the number of an ancillary state register is none of them
abbrev pub register_fields : Instr → List ℕ
register_fields (Sethi rd imm22) = rd ∷ []
register_fields (Calc name rd rs1 src) = rd ∷ rs1 ∷ src_registers src
register_fields (Ticc cond rs1 src) = rs1 ∷ src_registers src
register_fields (ReadState name rd) = rd ∷ []
register_fields (ReadAsr rd rs1) = rd ∷ []
register_fields (WriteState name rs1 src) = rs1 ∷ src_registers src
register_fields (WriteAsr rd rs1 src) = rs1 ∷ src_registers src
register_fields (Jmpl rd rs1 src) = rd ∷ rs1 ∷ src_registers src
register_fields (Rett rs1 src) = rs1 ∷ src_registers src
register_fields (Flush rs1 src) = rs1 ∷ src_registers src
register_fields (Save rd rs1 src) = rd ∷ rs1 ∷ src_registers src
register_fields (Restore rd rs1 src) = rd ∷ rs1 ∷ src_registers src
register_fields (Mem name rd rs1 src) = rd ∷ rs1 ∷ src_registers src
register_fields (Alternate name rd rs1 rs2 asi) = rd ∷ rs1 ∷ rs2 ∷ []
register_fields Illegal = []
register_fields AltIllegal = []
register_fields FpOff = []
register_fields CpOff = []
register_fields FpQueue = []
register_fields CpQueue = []
register_fields Stbar = []
register_fields (Call disp30) = []
register_fields (Bicc cond a disp22) = []

-- the register numbers are below 32
abbrev pub registers_fit : Instr → Bool
registers_fit instruction = list_all (λ register. nat_lt register 32) (register_fields instruction)

-- an immediate operand has 13 bits
abbrev pub imm_fits : Src → Bool
imm_fits (Reg rs2) = true
imm_fits (Imm simm13) = nat_lt simm13 (2 ^ 13)

-- the ancillary state registers of this machine
abbrev pub asr_fits : ℕ → Bool
asr_fits number = number == 17 || number == 19

-- the other fields have no more bits than the word gives them, and name what this machine has
abbrev pub numbers_fit : Instr → Bool
numbers_fit (Call disp30) = nat_lt disp30 (2 ^ 30)
numbers_fit (Sethi rd imm22) = nat_lt imm22 (2 ^ 22)
numbers_fit (Bicc cond a disp22) = nat_lt cond 16 && nat_lt disp22 (2 ^ 22)
numbers_fit (Calc name rd rs1 src) = imm_fits src
numbers_fit (Ticc cond rs1 src) = nat_lt cond 16 && imm_fits src
numbers_fit (ReadAsr rd rs1) = asr_fits rs1
numbers_fit (WriteState name rs1 src) = imm_fits src
numbers_fit (WriteAsr rd rs1 src) = asr_fits rd && imm_fits src
numbers_fit (Jmpl rd rs1 src) = imm_fits src
numbers_fit (Rett rs1 src) = imm_fits src
numbers_fit (Flush rs1 src) = imm_fits src
numbers_fit (Save rd rs1 src) = imm_fits src
numbers_fit (Restore rd rs1 src) = imm_fits src
numbers_fit (Mem name rd rs1 src) = rd_fits name rd && imm_fits src
numbers_fit (Alternate name rd rs1 rs2 asi) = rd_fits name rd && nat_lt asi (2 ^ 8)
numbers_fit Illegal = true
numbers_fit AltIllegal = true
numbers_fit FpOff = true
numbers_fit CpOff = true
numbers_fit FpQueue = true
numbers_fit CpQueue = true
numbers_fit Stbar = true
numbers_fit (ReadState name rd) = true

-- each field is in its range
abbrev pub in_range : Instr → Bool
in_range instruction = numbers_fit instruction && registers_fit instruction

-- ---- the registers that an instruction reads, in order

-- the operands: rs1, then rs2 where the second operand is a register
abbrev pub operand_registers : ℕ → Src → List ℕ
operand_registers rs1 src = rs1 ∷ src_registers src

-- what is stored: rd of a store and of SWAP, rd and rd + 1 of a doubleword store
abbrev pub stored_registers : MemName → ℕ → List ℕ
stored_registers St rd = rd ∷ []
stored_registers Stb rd = rd ∷ []
stored_registers Sth rd = rd ∷ []
stored_registers Std rd = rd ∷ (rd + 1) ∷ []
stored_registers Swap rd = rd ∷ []
stored_registers Ld rd = []
stored_registers Ldub rd = []
stored_registers Lduh rd = []
stored_registers Ldd rd = []
stored_registers Ldsb rd = []
stored_registers Ldsh rd = []
stored_registers Ldstub rd = []

abbrev pub registers_read : Instr → List ℕ
registers_read (Calc name rd rs1 src) = operand_registers rs1 src
registers_read (Ticc cond rs1 src) = operand_registers rs1 src
registers_read (WriteState name rs1 src) = operand_registers rs1 src
registers_read (WriteAsr rd rs1 src) = operand_registers rs1 src
registers_read (Jmpl rd rs1 src) = operand_registers rs1 src
registers_read (Rett rs1 src) = operand_registers rs1 src
registers_read (Flush rs1 src) = operand_registers rs1 src
registers_read (Save rd rs1 src) = operand_registers rs1 src
registers_read (Restore rd rs1 src) = operand_registers rs1 src
registers_read (Mem name rd rs1 src) = operand_registers rs1 src ++ stored_registers name rd
registers_read (Alternate name rd rs1 rs2 asi) = operand_registers rs1 (Reg rs2) ++ stored_registers name rd
registers_read Illegal = []
registers_read AltIllegal = []
registers_read FpOff = []
registers_read CpOff = []
registers_read FpQueue = []
registers_read CpQueue = []
registers_read Stbar = []
registers_read (Call disp30) = []
registers_read (Sethi rd imm22) = []
registers_read (Bicc cond a disp22) = []
registers_read (ReadState name rd) = []
registers_read (ReadAsr rd rs1) = []

-- ---- privilege

-- PSR, WIM and TBR are for the supervisor, Y for all
abbrev pub is_privileged_state : StateName → Bool
is_privileged_state Y = false
is_privileged_state Psr = true
is_privileged_state Wim = true
is_privileged_state Tbr = true

-- an instruction that is for the supervisor alone: in user mode it traps privileged_instruction
abbrev pub is_privileged : Instr → Bool
is_privileged AltIllegal = true
is_privileged FpQueue = true
is_privileged CpQueue = true
is_privileged (ReadState name rd) = is_privileged_state name
is_privileged (WriteState name rs1 src) = is_privileged_state name
is_privileged (Rett rs1 src) = true
is_privileged (Alternate name rd rs1 rs2 asi) = true
is_privileged Illegal = false
is_privileged FpOff = false
is_privileged CpOff = false
is_privileged Stbar = false
is_privileged (Call disp30) = false
is_privileged (Sethi rd imm22) = false
is_privileged (Bicc cond a disp22) = false
is_privileged (Calc name rd rs1 src) = false
is_privileged (Ticc cond rs1 src) = false
is_privileged (ReadAsr rd rs1) = false
is_privileged (WriteAsr rd rs1 src) = false
is_privileged (Jmpl rd rs1 src) = false
is_privileged (Flush rs1 src) = false
is_privileged (Save rd rs1 src) = false
is_privileged (Restore rd rs1 src) = false
is_privileged (Mem name rd rs1 src) = false
