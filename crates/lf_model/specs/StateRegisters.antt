-- Reading and writing Y, PSR, WIM, TBR and the ancillary state registers (SPARC V8, chapter 4, control and status
-- registers; appendix B, read and write state register instructions; GRLIB, LEON3FT, processor configuration register).
-- What is written is there at once, not some instructions later.
use Rattle.std.specs.Prelude.{ℕ, ◌+◌, ◌*◌, ◌%◌, ◌^◌, ◌==◌, Bool, false, [], if◌then◌else◌, nat_lt, bit_xor}
use Rattle.std.specs.Int.{bit_at}
use Rattle.lf_model.specs.Fields.{bits_of}
use Rattle.lf_model.specs.State.{State, register, operand, advanced, psr_of}
use Rattle.lf_model.specs.Effect.{Effect, changes, sets}
use Rattle.lf_model.specs.declared.control.Ctl.{Ctl}
use Rattle.lf_model.specs.declared.instruction.Src.{Src}
use Rattle.lf_model.specs.declared.instruction.StateName.{StateName}
use Rattle.lf_model.specs.declared.instruction.StateName.TheVariants.{Y, Psr, Wim, Tbr}

-- ---- reading

-- register 17 is the configuration: the core's number in bits 31 to 28, 1 in bit 8 for the multiply and divide
-- instructions, and the number of windows less 1 in bits 4 to 0; register 19 is 0
abbrev pub asr_value : ℕ → ℕ → ℕ
asr_value core number = if number == 17 then core * 2 ^ 28 + 2 ^ 8 + 7 else 0

-- what RDY, RDPSR, RDWIM and RDTBR read
abbrev pub state_value : StateName → State → ℕ
state_value Y s = s.y
state_value Psr s = psr_of s.ctl
state_value Wim s = s.wim
state_value Tbr s = s.ctl.tbr

-- a state register goes to register rd
abbrev pub read_state_effect : StateName → ℕ → State → Effect
read_state_effect name rd s = sets rd (state_value name s) s

-- RDASR: an ancillary state register goes to register rd
abbrev pub read_asr_effect : ℕ → ℕ → ℕ → State → Effect
read_asr_effect core rd number s = sets rd (asr_value core number) s

-- ---- writing

-- what the write instructions write: the first operand xor the second
abbrev pub written_value : State → ℕ → Src → ℕ
written_value s rs1 src = bit_xor (register s rs1) (operand s src)

-- the value is none that PSR may get: its CWP field, bits 4 to 0, names none of the 8 windows
abbrev pub names_no_window : StateName → ℕ → Bool
names_no_window Psr value = nat_lt 7 (bits_of value 4 0)
names_no_window Y value = false
names_no_window Wim value = false
names_no_window Tbr value = false

-- the parts of PSR that WRPSR writes; impl and ver stay, and EC and EF stay 0
abbrev pub psr_parts : ℕ → Ctl → Ctl
psr_parts value c = record c {
  icc = bits_of value 23 20;
  pil = bits_of value 11 8;
  s = bit_at value 7 == 1;
  ps = bit_at value 6 == 1;
  et = bit_at value 5 == 1;
  cwp = bits_of value 4 0;
}

-- TBR gets another base address, bits 31 to 12; its trap type, bits 11 to 4, and its bits of 0 stay
abbrev pub with_base : ℕ → State → State
with_base value s = record s { ctl = record s.ctl { tbr = bits_of value 31 12 * 2 ^ 12 + s.ctl.tbr % 2 ^ 12 } }

-- a value in a state register; WIM has one bit for each of the 8 windows
abbrev pub with_state : StateName → ℕ → State → State
with_state Y value s = record s { y = value }
with_state Psr value s = record s { ctl = psr_parts value s.ctl }
with_state Wim value s = record s { wim = bits_of value 7 0 }
with_state Tbr value s = with_base value s

abbrev pub write_state_effect : StateName → ℕ → Src → State → Effect
write_state_effect name rs1 src s = changes [] (advanced (with_state name (written_value s rs1 src) s))
