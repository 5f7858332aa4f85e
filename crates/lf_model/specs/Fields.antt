-- The fields of an instruction word (SPARC V8, chapter 5, instruction formats).
use Rattle.std.specs.Prelude.{ℕ, ◌+◌, ◌-◌, ◌/◌, ◌%◌, ◌^◌, ◌==◌, Bool, if◌then◌else◌}
use Rattle.lf_model.specs.declared.instruction.Src.{Src}
use Rattle.lf_model.specs.declared.instruction.Src.TheVariants.{Reg, Imm}

-- bits high to low of a word, as a number
abbrev pub bits_of : ℕ → ℕ → ℕ → ℕ
bits_of w high low = w / 2 ^ low % 2 ^ (high + 1 - low)

abbrev pub op_of : ℕ → ℕ
op_of w = bits_of w 31 30

abbrev pub op2_of : ℕ → ℕ
op2_of w = bits_of w 24 22

abbrev pub op3_of : ℕ → ℕ
op3_of w = bits_of w 24 19

abbrev pub rd_of : ℕ → ℕ
rd_of w = bits_of w 29 25

abbrev pub rs1_of : ℕ → ℕ
rs1_of w = bits_of w 18 14

abbrev pub rs2_of : ℕ → ℕ
rs2_of w = bits_of w 4 0

abbrev pub cond_of : ℕ → ℕ
cond_of w = bits_of w 28 25

-- the annul bit of a branch
abbrev pub a_of : ℕ → Bool
a_of w = bits_of w 29 29 == 1

-- 0 where the second operand is register rs2
abbrev pub i_of : ℕ → ℕ
i_of w = bits_of w 13 13

-- the address space of an alternate form
abbrev pub asi_of : ℕ → ℕ
asi_of w = bits_of w 12 5

abbrev pub imm22_of : ℕ → ℕ
imm22_of w = bits_of w 21 0

abbrev pub disp22_of : ℕ → ℕ
disp22_of w = bits_of w 21 0

abbrev pub disp30_of : ℕ → ℕ
disp30_of w = bits_of w 29 0

abbrev pub simm13_of : ℕ → ℕ
simm13_of w = bits_of w 12 0

-- the second operand: register rs2 where i is 0, else simm13
abbrev pub src_of : ℕ → Src
src_of w = if bits_of w 13 13 == 0 then Reg (rs2_of w) else Imm (simm13_of w)
