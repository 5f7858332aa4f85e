-- Control transfer: CALL, JMPL, Bicc and Ticc (SPARC V8, chapter 5, control-transfer instructions, and appendix B, their
-- definitions).
use Rattle.std.specs.Prelude.{ℕ, ◌+◌, ◌*◌, ◌%◌, ◌^◌, ◌==◌, Bool, not, ◌&&◌, [], Option, if◌then◌else◌}
use Rattle.lf_num.specs.Bits.{sign_extended}
use Rattle.lf_model.specs.State.{State, with_register, advanced}
use Rattle.lf_model.specs.Effect.{Effect, cell_written, sum_of_operands, changes}
use Rattle.lf_model.specs.Traps.{when}
use Rattle.lf_model.specs.Conditions.{condition_holds}
use Rattle.lf_model.specs.declared.instruction.Src.{Src}

-- a delayed transfer: PC becomes nPC, whose instruction stands in the delay slot, and nPC the target
abbrev pub transferred : ℕ → State → State
transferred target s = record s { ctl = record s.ctl { pc = s.ctl.npc; npc = target } }

-- the delay slot is annulled: PC becomes this address, and nPC the next word
abbrev pub annulled : ℕ → State → State
annulled addr s = record s { ctl = record s.ctl { pc = addr; npc = (addr + 4) % 2 ^ 32 } }

-- ---- CALL and JMPL, which keep their own address

-- the target of CALL is disp30 words from PC
abbrev pub call_target : State → ℕ → ℕ
call_target s disp30 = (s.ctl.pc + 4 * disp30) % 2 ^ 32

-- CALL: PC goes to register 15
abbrev pub call_effect : ℕ → State → Effect
call_effect disp30 s =
    changes (cell_written s 15) (transferred (call_target s disp30) (with_register 15 s.ctl.pc s))

-- JMPL: PC goes to register rd, and the target is the sum of the operands
abbrev pub jmpl_effect : ℕ → ℕ → Src → State → Effect
jmpl_effect rd rs1 src s =
    changes (cell_written s rd) (transferred (sum_of_operands s rs1 src) (with_register rd s.ctl.pc s))

-- the target of JMPL is no multiple of 4
abbrev pub target_misaligned : State → ℕ → Src → Bool
target_misaligned s rs1 src = not (sum_of_operands s rs1 src % 4 == 0)

-- ---- Bicc

-- the target of a branch is disp22 words from PC, by disp22 with its sign extended
abbrev pub branch_target : State → ℕ → ℕ
branch_target s disp22 = (s.ctl.pc + 4 * sign_extended disp22 22) % 2 ^ 32

-- taken: a delayed transfer; but BA with the annul bit annuls its delay slot
abbrev pub taken : ℕ → Bool → ℕ → State → State
taken cond a disp22 s = if a && cond == 8 then annulled (branch_target s disp22) s else transferred (branch_target s disp22) s

-- not taken: the annul bit annuls the delay slot, so that the word behind it is next
abbrev pub not_taken : Bool → State → State
not_taken a s = if a then annulled ((s.ctl.npc + 4) % 2 ^ 32) s else advanced s

-- a branch is taken where its condition holds
abbrev pub branched : ℕ → Bool → ℕ → State → State
branched cond a disp22 s = if condition_holds cond s.ctl.icc then taken cond a disp22 s else not_taken a s

-- Bicc reads and writes no register
abbrev pub bicc_effect : ℕ → Bool → ℕ → State → Effect
bicc_effect cond a disp22 s = changes [] (branched cond a disp22 s)

-- ---- Ticc

-- where the condition holds a software trap, 80 to FF by the low seven bits of the operands' sum
abbrev pub software_trap : State → ℕ → ℕ → Src → Option ℕ
software_trap s cond rs1 src = when (condition_holds cond s.ctl.icc) (128 + sum_of_operands s rs1 src % 128)
