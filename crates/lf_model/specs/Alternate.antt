-- The alternate forms of loads, stores and atomics, by their address space identifier (SPARC V8, appendix B, load and
-- store from alternate space; GRLIB, LEON3FT, address space identifiers). Which of them this machine has, and that its
-- system control registers read as 0, is its own.
use Rattle.std.specs.Prelude.{ℕ, ◌==◌, Bool, false, true, not, ◌&&◌, ◌||◌, if◌then◌else◌}
use Rattle.lf_model.specs.State.{State}
use Rattle.lf_model.specs.Effect.{Site, Effect, advances, sets}
use Rattle.lf_model.specs.Memory.{access_refused, mem_effect}
use Rattle.lf_model.specs.declared.instruction.MemName.{MemName}
use Rattle.lf_model.specs.declared.instruction.MemName.TheVariants.{Ld, Ldub, Lduh, Ldd, St, Stb, Sth, Std, Ldsb, Ldsh, Ldstub, Swap}

-- forced cache miss, user and supervisor instruction, user and supervisor data: all these are plain memory
abbrev pub is_plain_space : ℕ → Bool
is_plain_space asi = asi == 0x01 || asi == 0x08 || asi == 0x09 || asi == 0x0a || asi == 0x0b

-- the system control registers
abbrev pub is_control_space : ℕ → Bool
is_control_space asi = asi == 0x02

-- LDA and STA
abbrev pub is_word_form : MemName → Bool
is_word_form Ld = true
is_word_form St = true
is_word_form Ldub = false
is_word_form Lduh = false
is_word_form Ldd = false
is_word_form Stb = false
is_word_form Sth = false
is_word_form Std = false
is_word_form Ldsb = false
is_word_form Ldsh = false
is_word_form Ldstub = false
is_word_form Swap = false

-- in a plain space the access has the traps of its plain form; a control register is loaded and stored as a word
abbrev pub alternate_refused : Site → MemName → ℕ → ℕ → Bool
alternate_refused site name asi addr =
    if is_plain_space asi then access_refused site name addr else not (is_control_space asi && is_word_form name)

-- a system control register reads as 0, and a store to it does nothing
abbrev pub control_effect : MemName → ℕ → State → Effect
control_effect Ld rd s = sets rd 0 s
control_effect Ldub rd s = advances s
control_effect Lduh rd s = advances s
control_effect Ldd rd s = advances s
control_effect St rd s = advances s
control_effect Stb rd s = advances s
control_effect Sth rd s = advances s
control_effect Std rd s = advances s
control_effect Ldsb rd s = advances s
control_effect Ldsh rd s = advances s
control_effect Ldstub rd s = advances s
control_effect Swap rd s = advances s

-- the effect where it does not trap
abbrev pub alternate_effect : MemName → ℕ → ℕ → ℕ → State → Effect
alternate_effect name asi addr rd s =
    if is_plain_space asi then mem_effect name addr rd s else control_effect name rd s
