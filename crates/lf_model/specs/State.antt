-- The state of a core: its registers, its state registers, its output, and the trap that halted it
-- (SPARC V8, chapter 4, registers and windows). Registers are plain numbers, without check bits.
-- The numbers of the cells and the state at reset are this machine's own.
use Rattle.std.specs.Prelude.{ℕ, ◌+◌, ◌-◌, ◌*◌, ◌%◌, ◌^◌, ◌==◌, true, false, List, [], Option, None, if◌then◌else◌, nat_lt, slice_index, slice_set, replicate}
use Rattle.std.specs.Int.{from_bool}
use Rattle.lf_num.specs.Bits.{sign_extended}
use Rattle.lf_model.specs.declared.control.Ctl.{Ctl}
use Rattle.lf_model.specs.declared.instruction.Src.{Src}
use Rattle.lf_model.specs.declared.instruction.Src.TheVariants.{Reg, Imm}

-- cells: the 8 globals and the 128 registers of the windows, by their cells; ctl: the parts of PSR, TBR,
-- PC and nPC; halt: the trap type that put the core into error mode
pub record State : Type 0 where
  pub cells : List ℕ
  pub ctl : Ctl
  pub wim : ℕ
  pub y : ℕ
  pub out : List ℕ
  pub halt : Option ℕ

-- the cell of register n in a window: the 8 globals, then 16 registers a window, whose ins are the outs of the next
abbrev pub cell : ℕ → ℕ → ℕ
cell window n = if nat_lt n 8 then n else 8 + (16 * window + n - 8) % 128

-- the value of register n in the current window; register 0 is 0
abbrev pub register : State → ℕ → ℕ
register s n = if n == 0 then 0 else slice_index s.cells (cell s.ctl.cwp n)

-- the second operand: register rs2, or simm13 with its sign extended
abbrev pub operand : State → Src → ℕ
operand s (Reg n) = register s n
operand s (Imm i) = sign_extended i 13

-- the state with a value in register n; register 0 has no effect
abbrev pub with_register : ℕ → ℕ → State → State
with_register n value s = if n == 0 then s else record s { cells = slice_set s.cells (cell s.ctl.cwp n) value }

-- PC becomes nPC, and nPC the next word
abbrev pub advanced : State → State
advanced s = record s { ctl = record s.ctl { pc = s.ctl.npc; npc = (s.ctl.npc + 4) % 2 ^ 32 } }

-- PSR: impl is F and ver is 3, then icc, PIL, S, PS, ET and CWP; EC and EF are 0
abbrev pub psr_of : Ctl → ℕ
psr_of c = 0xF3000000 + c.icc * 2 ^ 20 + c.pil * 2 ^ 8 + from_bool c.s * 2 ^ 7 + from_bool c.ps * 2 ^ 6 + from_bool c.et * 2 ^ 5 + c.cwp

-- the control state at reset: supervisor mode, traps disabled, window 0, and PC at the entry
abbrev pub reset_control : ℕ → Ctl
reset_control entry = record { icc = 0; pil = 0; s = true; ps = false; et = false; cwp = 0; tbr = 0; pc = entry; npc = (entry + 4) % 2 ^ 32 }

-- the state at reset: %o0 has the core's number and the other registers 0; window 1 is invalid
unfoldable pub reset : ℕ → ℕ → State
reset entry core = record {
  cells = slice_set (replicate 136 0) (cell 0 8) core;
  ctl = reset_control entry;
  wim = 2;
  y = 0;
  out = [];
  halt = None;
}
