-- Entry into the handler of a trap (SPARC V8, chapter 7, traps).
use Rattle.std.specs.Prelude.{◌≡◌, ℕ, ◌+◌, ◌/◌, ◌%◌, ◌^◌, true, false}
use Rattle.lf_model.specs.declared.control.Ctl.{Ctl}
use Rattle.lf_model.specs.State.{State, with_register}
use Rattle.lf_model.specs.Traps.{handler_window}

-- a control state at the first instruction of the handler of a trap type, by the control state before
pub record EntersHandler (trap_type : ℕ) (old new : Ctl) : Type 0 where
  -- traps are disabled, in supervisor mode, and PS keeps the mode before
  pub disabled : new.et ≡ false
  pub supervisor : new.s ≡ true
  pub previous : new.ps ≡ old.s
  -- the window is the handler's
  pub window : new.cwp ≡ handler_window old.cwp
  -- TBR keeps its base in bits 31 to 12, has the trap type in bits 11 to 4, and bits 3 to 0 are 0
  pub base : new.tbr / 2 ^ 12 ≡ old.tbr / 2 ^ 12
  pub type_field : new.tbr / 2 ^ 4 % 2 ^ 8 ≡ trap_type
  pub low_bits : new.tbr % 2 ^ 4 ≡ 0
  -- PC and nPC are the first two words there
  pub first_word : new.pc ≡ new.tbr
  pub second_word : new.npc ≡ new.tbr + 4
  -- the condition codes and the interrupt level stay
  pub codes : new.icc ≡ old.icc
  pub level : new.pil ≡ old.pil

-- the state at the handler: the control state, with the old PC and nPC in registers 17 and 18 of its window
abbrev pub at_handler : State → Ctl → ℕ → ℕ → State
at_handler s control pc npc = with_register 18 npc (with_register 17 pc (record s { ctl = control }))
