-- The instructions of a generated program. Start-up code puts the address of the data into %g1 and six numbers into %g2 to %g7;
-- the body works on these registers and on the data, an instruction for each draw; a trap ends the program.
use Rattle.std.specs.Prelude.{ℕ, ◌+◌, ◌*◌, ◌/◌, ◌%◌, ◌^◌, ◌==◌, if◌then◌else◌, List, [], ◌∷◌, ◌++◌, map}
use Rattle.std.specs.List.{range_with_len}
use Rattle.lf_model.specs.Instructions.{by_field}
use Rattle.lf_model.specs.declared.instruction.Src.TheVariants.{Reg, Imm}
use Rattle.lf_model.specs.declared.instruction.CalcName.{CalcName}
use Rattle.lf_model.specs.declared.instruction.CalcName.TheVariants as calculations
use Rattle.lf_model.specs.declared.instruction.MemName.{MemName}
use Rattle.lf_model.specs.declared.instruction.MemName.TheVariants.{Ld, St, Stb, Swap, Ldstub}
use Rattle.lf_model.specs.declared.instruction.Instr.{Instr}
use Rattle.lf_model.specs.declared.instruction.Instr.TheVariants.{Sethi, Calc, Ticc, Mem}
use Rattle.work_gen.specs.Draws.{draws}

-- ---- the fields of a draw

-- which instruction it makes
abbrev pub kind_of : ℕ → ℕ
kind_of draw = draw % 8

-- the registers, each of %g2 to %g7: the result or what is stored, and the two operands
abbrev pub result_of : ℕ → ℕ
result_of draw = 2 + draw / 8 % 6

abbrev pub left_of : ℕ → ℕ
left_of draw = 2 + draw / 64 % 6

abbrev pub right_of : ℕ → ℕ
right_of draw = 2 + draw / 512 % 6

-- the number of a word or byte of the data
abbrev pub place_of : ℕ → ℕ
place_of draw = draw / 4096 % 256

-- ---- the instruction that a draw makes

-- a calculation with two registers
abbrev pub calculation : CalcName → ℕ → Instr
calculation name draw = Calc name (result_of draw) (left_of draw) (Reg (right_of draw))

-- an access to a word of the data, whose address is in %g1
abbrev pub word_access : MemName → ℕ → Instr
word_access name draw = Mem name (result_of draw) 1 (Imm (4 * place_of draw))

-- an access to a byte of the data
abbrev pub byte_access : MemName → ℕ → Instr
byte_access name draw = Mem name (result_of draw) 1 (Imm (place_of draw))

-- an atomic: SWAP of a word with an even number, LDSTUB of a byte with an odd one
abbrev pub atomic : ℕ → Instr
atomic draw = if place_of draw % 2 == 0 then word_access Swap draw else byte_access Ldstub draw

-- by the kind of the draw
abbrev pub body_rows : List (ℕ × (ℕ → Instr))
body_rows =
    (0, calculation calculations.Add) ∷ (1, calculation calculations.Xor)
    ∷ (2, calculation calculations.UMul) ∷ (3, calculation calculations.Sub)
    ∷ (4, word_access Ld) ∷ (5, word_access St) ∷ (6, byte_access Stb) ∷ (7, atomic) ∷ []

unfoldable pub body_instruction : ℕ → Instr
body_instruction draw = by_field kind_of body_rows draw

-- ---- the program

-- SETHI of the address of the data, a multiple of 4096, to %g1
abbrev pub set_data : ℕ → Instr
set_data address = Sethi 1 (address / 2 ^ 10)

-- `add %o0, n, %g(2 + n)`: %o0 has the number of the core at reset
abbrev pub set_number : ℕ → Instr
set_number n = Calc calculations.Add (2 + n) 8 (Imm n)

abbrev pub start_up : ℕ → List Instr
start_up address = set_data address ∷ map set_number (range_with_len 0 6)

abbrev pub body : ℕ → ℕ → List Instr
body start size = map body_instruction (draws size start)

-- `ta 0`, which ends a core's run
abbrev pub trap_always : Instr
trap_always = Ticc 8 0 (Imm 0)

-- the program of a start and a size, whose data lie at this address
unfoldable pub program : ℕ → ℕ → ℕ → List Instr
program address start size = start_up address ++ body start size ++ trap_always ∷ []
