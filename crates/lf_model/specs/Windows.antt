-- Register windows: SAVE, RESTORE and RETT (SPARC V8, chapter 4, windowed registers and WIM; appendix B, SAVE and
-- RESTORE, and return from trap instructions). That there are 8 windows is this machine's own.
use Rattle.std.specs.Prelude.{ℕ, ◌+◌, ◌%◌, ◌==◌, Bool, true, ◌&&◌, []}
use Rattle.std.specs.Int.{bit_at}
use Rattle.lf_model.specs.State.{State}
use Rattle.lf_model.specs.Effect.{Effect, sum_of_operands, changes, sets}
use Rattle.lf_model.specs.Traps.{handler_window}
use Rattle.lf_model.specs.Branches.{transferred}
use Rattle.lf_model.specs.declared.instruction.Src.{Src}

-- SAVE enters the window that a trap's handler enters: CWP - 1 modulo 8
abbrev pub window_after_save : ℕ → ℕ
window_after_save cwp = handler_window cwp

-- RESTORE and RETT enter the window CWP + 1 modulo 8
abbrev pub window_after_restore : ℕ → ℕ
window_after_restore cwp = (cwp + 1) % 8

-- a window is invalid where its bit of WIM is 1
abbrev pub is_invalid : ℕ → ℕ → Bool
is_invalid wim window = bit_at wim window == 1

-- ---- their traps

-- the window that SAVE would enter is invalid
abbrev pub save_overflows : State → Bool
save_overflows s = is_invalid s.wim (window_after_save s.ctl.cwp)

-- the window that RESTORE or RETT would enter is invalid
abbrev pub restore_underflows : State → Bool
restore_underflows s = is_invalid s.wim (window_after_restore s.ctl.cwp)

-- RETT is no instruction of a supervisor while traps are enabled
abbrev pub rett_is_illegal : State → Bool
rett_is_illegal s = s.ctl.et && s.ctl.s

-- ---- what they do

-- the state in another window
abbrev pub in_window : ℕ → State → State
in_window window s = record s { ctl = record s.ctl { cwp = window } }

-- the sum of the operands, which are read in the old window, goes to register rd of the new one
abbrev pub window_effect : ℕ → ℕ → ℕ → Src → State → Effect
window_effect window rd rs1 src s = sets rd (sum_of_operands s rs1 src) (in_window window s)

abbrev pub save_effect : ℕ → ℕ → Src → State → Effect
save_effect rd rs1 src s = window_effect (window_after_save s.ctl.cwp) rd rs1 src s

abbrev pub restore_effect : ℕ → ℕ → Src → State → Effect
restore_effect rd rs1 src s = window_effect (window_after_restore s.ctl.cwp) rd rs1 src s

-- back in the window and the mode of the instruction that trapped, with traps enabled
abbrev pub returned : State → State
returned s = record s { ctl = record s.ctl { cwp = window_after_restore s.ctl.cwp; s = s.ctl.ps; et = true } }

-- RETT: a delayed transfer to the sum of the operands
abbrev pub rett_effect : ℕ → Src → State → Effect
rett_effect rs1 src s = changes [] (transferred (sum_of_operands s rs1 src) (returned s))
