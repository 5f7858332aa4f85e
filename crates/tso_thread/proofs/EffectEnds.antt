-- What the instruction at PC makes beside its trap: with a trap there is no operation, and a trap where traps are disabled puts the
-- core into error mode and changes nothing else.
use Rattle.std.proofs.Common.{◌≡◌, ◌∙◌, ◌==◌, ℕ, Bool, cond, true, false, Option, Some, None, refl, sym, ap}
use Rattle.std.proofs.lemmas.Bool.{false≢true}
use Rattle.lf_model.specs.Alternate.{is_plain_space, control_effect}
use Rattle.lf_model.specs.Effect.{Site, Effect, with_reads, sum_of_operands}
use Rattle.lf_model.specs.Effects.{completed, effect}
use Rattle.lf_model.specs.Instructions.{registers_read, instruction_of}
use Rattle.lf_model.specs.Memory.{mem_effect, output_effect, store_effect}
use Rattle.lf_model.specs.OrdinaryTraps.{ordinary_trap}
use Rattle.lf_model.specs.Run.{site_of, effect_at_pc}
use Rattle.lf_model.specs.Start.{output_word, is_text_word, word_at}
use Rattle.lf_model.specs.State.{State}
use Rattle.lf_model.specs.Traps.{entered, trap_effect, fetch_trap, unless_trap}
use Rattle.lf_model.specs.declared.instruction.Instr.{Instr}
use Rattle.lf_model.specs.declared.instruction.Instr.TheVariants.{Illegal, AltIllegal, FpOff, CpOff, FpQueue, CpQueue, Stbar, Call, Sethi, Bicc, Calc, Ticc, ReadState, ReadAsr, WriteState, WriteAsr, Jmpl, Rett, Flush, Save, Restore, Mem, Alternate}
use Rattle.lf_model.specs.declared.instruction.MemName.{MemName}
use Rattle.lf_model.specs.declared.instruction.MemName.TheVariants.{Ld, Ldub, Lduh, Ldd, St, Stb, Sth, Std, Ldsb, Ldsh, Ldstub, Swap}
use Rattle.lf_model.specs.declared.instruction.Src.TheVariants.{Reg}
use Rattle.lf_model.specs.declared.setup.Setup.{Setup}

-- ---- an instruction that is completed has no trap

output_trap : (s : State) (addr rd : ℕ) (b : Bool) → (cond b (output_effect rd s) (store_effect St addr rd s)).trap ≡ None
output_trap s addr rd true = refl
output_trap s addr rd false = refl

mem_trap : (s : State) (name : MemName) (addr rd : ℕ) → (mem_effect name addr rd s).trap ≡ None
mem_trap s St addr rd = output_trap s addr rd (addr == output_word)
mem_trap s Ld addr rd = refl
mem_trap s Ldub addr rd = refl
mem_trap s Lduh addr rd = refl
mem_trap s Ldd addr rd = refl
mem_trap s Stb addr rd = refl
mem_trap s Sth addr rd = refl
mem_trap s Std addr rd = refl
mem_trap s Ldsb addr rd = refl
mem_trap s Ldsh addr rd = refl
mem_trap s Ldstub addr rd = refl
mem_trap s Swap addr rd = refl

control_trap : (s : State) (name : MemName) (rd : ℕ) → (control_effect name rd s).trap ≡ None
control_trap s St rd = refl
control_trap s Ld rd = refl
control_trap s Ldub rd = refl
control_trap s Lduh rd = refl
control_trap s Ldd rd = refl
control_trap s Stb rd = refl
control_trap s Sth rd = refl
control_trap s Std rd = refl
control_trap s Ldsb rd = refl
control_trap s Ldsh rd = refl
control_trap s Ldstub rd = refl
control_trap s Swap rd = refl

space_trap : (s : State) (name : MemName) (addr rd : ℕ) (b : Bool) → (cond b (mem_effect name addr rd s) (control_effect name rd s)).trap ≡ None
space_trap s name addr rd true = mem_trap s name addr rd
space_trap s name addr rd false = control_trap s name rd

completed_trap : (site : Site) (s : State) (i : Instr) → (completed site s i).trap ≡ None
completed_trap site s (Mem name rd rs1 src) = mem_trap s name (sum_of_operands s rs1 src) rd
completed_trap site s (Alternate name rd rs1 rs2 asi) = space_trap s name (sum_of_operands s rs1 (Reg rs2)) rd (is_plain_space asi)
completed_trap site s Illegal = refl
completed_trap site s AltIllegal = refl
completed_trap site s FpOff = refl
completed_trap site s CpOff = refl
completed_trap site s FpQueue = refl
completed_trap site s CpQueue = refl
completed_trap site s Stbar = refl
completed_trap site s (Call disp30) = refl
completed_trap site s (Sethi rd imm22) = refl
completed_trap site s (Bicc c a disp22) = refl
completed_trap site s (Calc name rd rs1 src) = refl
completed_trap site s (Ticc c rs1 src) = refl
completed_trap site s (ReadState name rd) = refl
completed_trap site s (ReadAsr rd rs1) = refl
completed_trap site s (WriteState name rs1 src) = refl
completed_trap site s (WriteAsr rd rs1 src) = refl
completed_trap site s (Jmpl rd rs1 src) = refl
completed_trap site s (Rett rs1 src) = refl
completed_trap site s (Flush rs1 src) = refl
completed_trap site s (Save rd rs1 src) = refl
completed_trap site s (Restore rd rs1 src) = refl

-- ---- the instruction at PC

pub record EndsSo (s : State) (e : Effect) : Type 0 where
  pub trapped : (tt_ : ℕ) → e.trap ≡ Some tt_ → e.access ≡ None
  pub halted : (tt_ : ℕ) → e.trap ≡ Some tt_ → s.ctl.et ≡ false → (got : ℕ) → e.next got ≡ record s { halt = Some tt_ }

same_trap : (s : State) (m n : ℕ) → ◌≡◌ {A = Option ℕ} (Some m) (Some n) → ◌≡◌ {A = State} (record s { halt = Some m }) (record s { halt = Some n })
same_trap s m n is = ap (λ (halt : Option ℕ). record s { halt = halt }) is

halted_by : (s : State) (m tt_ : ℕ) → (trap_effect m s).trap ≡ Some tt_ → s.ctl.et ≡ false → (got : ℕ) → (trap_effect m s).next got ≡ record s { halt = Some tt_ }
halted_by s m tt_ is disabled got = by_et s.ctl.et disabled
  where
    by_et : (et : Bool) → et ≡ false → cond et (entered m s) (record s { halt = Some m }) ≡ record s { halt = Some tt_ }
    by_et true e = absurd (false≢true (sym e))
    by_et false e = same_trap s m tt_ is

none_not : (tt_ : ℕ) → ◌≡◌ {A = Option ℕ} None (Some tt_) → ⊥
none_not tt_ e = cc

unless : (site : Site) (s : State) (i : Instr) (trap : Option ℕ) → EndsSo s (unless_trap trap s (with_reads (registers_read i) (completed site s i)))
unless site s i None = record {
  trapped = λ tt_ is. absurd (none_not tt_ (sym (completed_trap site s i) ∙ is));
  halted = λ tt_ is. absurd (none_not tt_ (sym (completed_trap site s i) ∙ is));
}
unless site s i (Some m) = record { trapped = λ tt_ is. refl; halted = halted_by s m }

of_instruction : (site : Site) (s : State) (i : Instr) → EndsSo s (effect site s i)
unfolding effect
of_instruction site s i = unless site s i (ordinary_trap site s i)

by_text : (setup : Setup) (core : ℕ) (s : State) (is_text : Bool)
    → EndsSo s (cond is_text (effect (site_of setup core) s (instruction_of (word_at setup.image s.ctl.pc))) (fetch_trap s))
by_text setup core s true = of_instruction (site_of setup core) s (instruction_of (word_at setup.image s.ctl.pc))
by_text setup core s false = record { trapped = λ tt_ is. refl; halted = halted_by s 0x01 }

pub ends_so : (setup : Setup) (core : ℕ) (s : State) → EndsSo s (effect_at_pc setup core s)
unfolding effect_at_pc
ends_so setup core s = by_text setup core s (is_text_word setup.image.text s.ctl.pc)
