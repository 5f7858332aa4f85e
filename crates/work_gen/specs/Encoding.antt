-- The words of the instructions that generated programs have (SPARC V8, chapter 5, instruction formats, and appendix F, opcodes and
-- condition codes), and their bytes. Bits that an instruction does not name are 0.
use Rattle.std.specs.Prelude.{ℕ, ◌≡◌, ◌+◌, ◌*◌, ◌^◌, ◌<◌, List, Option, Some, None, true, IsSome, IsSomeAnd}
use Rattle.std.specs.Int.{to_be_bytes, w32}
use Rattle.std.specs.List.{flat_map, filter_map}
use Rattle.lf_model.specs.Instructions.{instruction_of, in_range}
use Rattle.lf_model.specs.declared.instruction.Src.{Src}
use Rattle.lf_model.specs.declared.instruction.Src.TheVariants.{Reg, Imm}
use Rattle.lf_model.specs.declared.instruction.CalcName.{CalcName}
use Rattle.lf_model.specs.declared.instruction.CalcName.TheVariants as calculations
use Rattle.lf_model.specs.declared.instruction.MemName.{MemName}
use Rattle.lf_model.specs.declared.instruction.MemName.TheVariants.{Ld, Ldub, Lduh, Ldd, St, Stb, Sth, Std, Ldsb, Ldsh, Ldstub, Swap}
use Rattle.lf_model.specs.declared.instruction.Instr.{Instr}
use Rattle.lf_model.specs.declared.instruction.Instr.TheVariants.{Sethi, Calc, Ticc, Mem}

-- op3 of the instructions that calculate
abbrev pub calc_op3 : CalcName → ℕ
calc_op3 calculations.Add = 0x00
calc_op3 calculations.And = 0x01
calc_op3 calculations.Or = 0x02
calc_op3 calculations.Xor = 0x03
calc_op3 calculations.Sub = 0x04
calc_op3 calculations.AndN = 0x05
calc_op3 calculations.OrN = 0x06
calc_op3 calculations.XNor = 0x07
calc_op3 calculations.AddX = 0x08
calc_op3 calculations.UMul = 0x0a
calc_op3 calculations.SMul = 0x0b
calc_op3 calculations.SubX = 0x0c
calc_op3 calculations.UDiv = 0x0e
calc_op3 calculations.SDiv = 0x0f
calc_op3 calculations.AddCc = 0x10
calc_op3 calculations.AndCc = 0x11
calc_op3 calculations.OrCc = 0x12
calc_op3 calculations.XorCc = 0x13
calc_op3 calculations.SubCc = 0x14
calc_op3 calculations.AndNCc = 0x15
calc_op3 calculations.OrNCc = 0x16
calc_op3 calculations.XNorCc = 0x17
calc_op3 calculations.AddXCc = 0x18
calc_op3 calculations.UMulCc = 0x1a
calc_op3 calculations.SMulCc = 0x1b
calc_op3 calculations.SubXCc = 0x1c
calc_op3 calculations.UDivCc = 0x1e
calc_op3 calculations.SDivCc = 0x1f
calc_op3 calculations.TAddCc = 0x20
calc_op3 calculations.TSubCc = 0x21
calc_op3 calculations.TAddCcTv = 0x22
calc_op3 calculations.TSubCcTv = 0x23
calc_op3 calculations.MulScc = 0x24
calc_op3 calculations.Sll = 0x25
calc_op3 calculations.Srl = 0x26
calc_op3 calculations.Sra = 0x27

-- op3 of loads, stores and atomics
abbrev pub mem_op3 : MemName → ℕ
mem_op3 Ld = 0x00
mem_op3 Ldub = 0x01
mem_op3 Lduh = 0x02
mem_op3 Ldd = 0x03
mem_op3 St = 0x04
mem_op3 Stb = 0x05
mem_op3 Sth = 0x06
mem_op3 Std = 0x07
mem_op3 Ldsb = 0x09
mem_op3 Ldsh = 0x0a
mem_op3 Ldstub = 0x0d
mem_op3 Swap = 0x0f

-- the second operand: register rs2, or i = 1 and simm13
abbrev pub operand_bits : Src → ℕ
operand_bits (Reg rs2) = rs2
operand_bits (Imm simm13) = 2 ^ 13 + simm13

-- a word of format 3
abbrev pub format3 : (op rd op3 rs1 : ℕ) → Src → ℕ
format3 op rd op3 rs1 src = op * 2 ^ 30 + rd * 2 ^ 25 + op3 * 2 ^ 19 + rs1 * 2 ^ 14 + operand_bits src

-- the word of an instruction, None for those that generated programs do not have
abbrev pub word_of : Instr → Option ℕ
word_of (Sethi rd imm22) = Some (rd * 2 ^ 25 + 4 * 2 ^ 22 + imm22)
word_of (Calc name rd rs1 src) = Some (format3 2 rd (calc_op3 name) rs1 src)
word_of (Ticc cond rs1 src) = Some (format3 2 cond 0x3a rs1 src)
word_of (Mem name rd rs1 src) = Some (format3 3 rd (mem_op3 name) rs1 src)
word_of _ = None

-- the words of a list of instructions, and their bytes, big-endian
abbrev pub words_of : List Instr → List ℕ
words_of instructions = filter_map word_of instructions

unfoldable pub bytes_of : List Instr → List ℕ
bytes_of instructions = flat_map (to_be_bytes w32) (words_of instructions)

-- the instruction has a word here, and each of its fields is in its range
pub record IsEncodable (instruction : Instr) : Type 0 where
  pub word : IsSome (word_of instruction)
  pub range : in_range instruction ≡ true

-- the instruction has a word of 32 bits, which is that instruction again
abbrev pub IsEncoded : Instr → Type 0
IsEncoded instruction = IsSomeAnd (word_of instruction) (λ word. (word < 2 ^ 32) × (instruction_of word ≡ instruction))
