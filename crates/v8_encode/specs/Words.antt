-- The fields that a word has, those that its instruction does not name, and the words of the instructions without
-- fields.
use Rattle.std.specs.Prelude.{ℕ, ◌≡◌, ⊤, Option, Some, None}
use Rattle.lf_model.specs.Fields.{bits_of, op_of, op3_of, rd_of, rs1_of, rs2_of, i_of, asi_of, src_of}
use Rattle.lf_model.specs.declared.instruction.Src.{Src}
use Rattle.lf_model.specs.declared.instruction.Src.TheVariants.{Reg, Imm}
use Rattle.lf_model.specs.declared.instruction.Instr.{Instr}
use Rattle.lf_model.specs.declared.instruction.Instr.TheVariants.{Illegal, AltIllegal, FpOff, CpOff, FpQueue, CpQueue, Stbar, Calc, Ticc, ReadState, ReadAsr, WriteState, WriteAsr, Jmpl, Rett, Flush, Save, Restore, Mem}

-- a word of format 3 with these fields
pub record HasFields (op rd op3 rs1 : ℕ) (src : Src) (w : ℕ) : Type 0 where
  pub has_op : op_of w ≡ op
  pub has_rd : rd_of w ≡ rd
  pub has_op3 : op3_of w ≡ op3
  pub has_rs1 : rs1_of w ≡ rs1
  pub has_src : src_of w ≡ src

-- a word with register rs2 as its second operand, and an address space
pub record HasSpace (rs2 asi : ℕ) (w : ℕ) : Type 0 where
  pub has_i : i_of w ≡ 0
  pub has_rs2 : rs2_of w ≡ rs2
  pub has_asi : asi_of w ≡ asi

-- the bits between i and rs2, which a register operand leaves unnamed, are 0
abbrev pub SrcUnnamedAreZero : Src → ℕ → Type 0
SrcUnnamedAreZero (Reg rs2) w = asi_of w ≡ 0
SrcUnnamedAreZero (Imm simm13) w = ⊤

-- the whole second operand is unnamed, and 0
abbrev pub NoOperand : ℕ → Type 0
NoOperand w = (src_of w ≡ Reg 0) × (asi_of w ≡ 0)

-- the bits of a word that its instruction does not name are 0
abbrev pub UnnamedAreZero : Instr → ℕ → Type 0
UnnamedAreZero Stbar w = NoOperand w
UnnamedAreZero (Calc name rd rs1 src) w = SrcUnnamedAreZero src w
UnnamedAreZero (Ticc cond rs1 src) w = (bits_of w 29 29 ≡ 0) × SrcUnnamedAreZero src w
UnnamedAreZero (ReadState name rd) w = (rs1_of w ≡ 0) × NoOperand w
UnnamedAreZero (ReadAsr rd rs1) w = NoOperand w
UnnamedAreZero (WriteState name rs1 src) w = (rd_of w ≡ 0) × SrcUnnamedAreZero src w
UnnamedAreZero (WriteAsr rd rs1 src) w = SrcUnnamedAreZero src w
UnnamedAreZero (Jmpl rd rs1 src) w = SrcUnnamedAreZero src w
UnnamedAreZero (Rett rs1 src) w = (rd_of w ≡ 0) × SrcUnnamedAreZero src w
UnnamedAreZero (Flush rs1 src) w = (rd_of w ≡ 0) × SrcUnnamedAreZero src w
UnnamedAreZero (Save rd rs1 src) w = SrcUnnamedAreZero src w
UnnamedAreZero (Restore rd rs1 src) w = SrcUnnamedAreZero src w
UnnamedAreZero (Mem name rd rs1 src) w = SrcUnnamedAreZero src w
UnnamedAreZero _ w = ⊤

-- the word of an instruction without fields, of which other words are forms too: UNIMP 0, LDA with an immediate
-- operand, FPop1, CPop1, STDFQ and STDCQ
abbrev pub fieldless_word : Instr → Option ℕ
fieldless_word Illegal = Some 0x00000000
fieldless_word AltIllegal = Some 0xc0802000
fieldless_word FpOff = Some 0x81a00000
fieldless_word CpOff = Some 0x81b00000
fieldless_word FpQueue = Some 0xc1300000
fieldless_word CpQueue = Some 0xc1b00000
fieldless_word _ = None
