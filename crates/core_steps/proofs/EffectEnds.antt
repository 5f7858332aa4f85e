-- What the instruction at PC makes besides its operation: a barrier is STBAR or FLUSH, and a trap where traps are disabled puts the
-- core into error mode and changes nothing else; a load stores nothing.
use Rattle.std.proofs.Common.{◌≡◌, ◌∙◌, ◌==◌, ℕ, Bool, cond, true, false, Option, Some, None, refl, sym, ap}
use Rattle.std.specs.Prelude.{⊤}
use Rattle.std.proofs.lemmas.Bool.{false≢true}
use Rattle.lf_model.specs.Alternate.{is_plain_space, control_effect}
use Rattle.lf_model.specs.Course.Turn.{leaves_instruction}
use Rattle.lf_model.specs.Effect.{Site, AccessKind, Access, Effect, with_reads, sum_of_operands}
use Rattle.lf_model.specs.Effects.{completed, effect}
use Rattle.lf_model.specs.Instructions.{registers_read, instruction_of}
use Rattle.lf_model.specs.Memory.{mem_effect, output_effect, store_effect}
use Rattle.lf_model.specs.OrdinaryTraps.{ordinary_trap}
use Rattle.lf_model.specs.Run.{site_of, effect_at_pc}
use Rattle.lf_model.specs.Start.{output_word, is_text_word, word_at}
use Rattle.lf_model.specs.State.{State}
use Rattle.lf_model.specs.Traps.{entered, trap_effect, fetch_trap, unless_trap}
use Rattle.lf_model.specs.declared.bus.Why.{Why}
use Rattle.lf_model.specs.declared.instruction.Instr.{Instr}
use Rattle.lf_model.specs.declared.instruction.Instr.TheVariants.{Illegal, AltIllegal, FpOff, CpOff, FpQueue, CpQueue, Stbar, Call, Sethi, Bicc, Calc, Ticc, ReadState, ReadAsr, WriteState, WriteAsr, Jmpl, Rett, Flush, Save, Restore, Mem, Alternate}
use Rattle.lf_model.specs.declared.instruction.MemName.{MemName}
use Rattle.lf_model.specs.declared.instruction.MemName.TheVariants.{Ld, Ldub, Lduh, Ldd, St, Stb, Sth, Std, Ldsb, Ldsh, Ldstub, Swap}
use Rattle.lf_model.specs.declared.instruction.Src.TheVariants.{Reg}
use Rattle.lf_model.specs.declared.setup.Setup.{Setup}
use Rattle.v8_exec.proofs.EffectShape.{IsApart, effect_apart, fetch_trap_apart}

-- a barrier for which the step would leave its instruction untried
abbrev pub leaves_by : Option Why → Bool
leaves_by None = false
leaves_by (Some why) = leaves_instruction why

-- a load stores nothing
abbrev pub StoresIf : ℕ → AccessKind → Type 0
StoresIf put AccessKind.Load = put ≡ 0
StoresIf put AccessKind.Store = ⊤
StoresIf put AccessKind.Atomic = ⊤

abbrev pub StoresBy : Option Access → Type 0
StoresBy None = ⊤
StoresBy (Some x) = StoresIf x.put x.kind

-- ---- an instruction without a trap

record Plain (e : Effect) : Type 0 where
  trap : e.trap ≡ None
  barrier : leaves_by e.barrier ≡ false
  load : StoresBy e.access

output_plain : (s : State) (addr rd : ℕ) (b : Bool) → Plain (cond b (output_effect rd s) (store_effect St addr rd s))
output_plain s addr rd true = record { trap = refl; barrier = refl; load = tt }
output_plain s addr rd false = record { trap = refl; barrier = refl; load = tt }

mem_plain : (s : State) (name : MemName) (addr rd : ℕ) → Plain (mem_effect name addr rd s)
mem_plain s St addr rd = output_plain s addr rd (addr == output_word)
mem_plain s Ld addr rd = record { trap = refl; barrier = refl; load = refl }
mem_plain s Ldub addr rd = record { trap = refl; barrier = refl; load = refl }
mem_plain s Lduh addr rd = record { trap = refl; barrier = refl; load = refl }
mem_plain s Ldd addr rd = record { trap = refl; barrier = refl; load = refl }
mem_plain s Stb addr rd = record { trap = refl; barrier = refl; load = tt }
mem_plain s Sth addr rd = record { trap = refl; barrier = refl; load = tt }
mem_plain s Std addr rd = record { trap = refl; barrier = refl; load = tt }
mem_plain s Ldsb addr rd = record { trap = refl; barrier = refl; load = refl }
mem_plain s Ldsh addr rd = record { trap = refl; barrier = refl; load = refl }
mem_plain s Ldstub addr rd = record { trap = refl; barrier = refl; load = tt }
mem_plain s Swap addr rd = record { trap = refl; barrier = refl; load = tt }

control_plain : (s : State) (name : MemName) (rd : ℕ) → Plain (control_effect name rd s)
control_plain s St rd = record { trap = refl; barrier = refl; load = tt }
control_plain s Ld rd = record { trap = refl; barrier = refl; load = tt }
control_plain s Ldub rd = record { trap = refl; barrier = refl; load = tt }
control_plain s Lduh rd = record { trap = refl; barrier = refl; load = tt }
control_plain s Ldd rd = record { trap = refl; barrier = refl; load = tt }
control_plain s Stb rd = record { trap = refl; barrier = refl; load = tt }
control_plain s Sth rd = record { trap = refl; barrier = refl; load = tt }
control_plain s Std rd = record { trap = refl; barrier = refl; load = tt }
control_plain s Ldsb rd = record { trap = refl; barrier = refl; load = tt }
control_plain s Ldsh rd = record { trap = refl; barrier = refl; load = tt }
control_plain s Ldstub rd = record { trap = refl; barrier = refl; load = tt }
control_plain s Swap rd = record { trap = refl; barrier = refl; load = tt }

space_plain : (s : State) (name : MemName) (addr rd : ℕ) (b : Bool) → Plain (cond b (mem_effect name addr rd s) (control_effect name rd s))
space_plain s name addr rd true = mem_plain s name addr rd
space_plain s name addr rd false = control_plain s name rd

completed_plain : (site : Site) (s : State) (i : Instr) → Plain (completed site s i)
completed_plain site s (Mem name rd rs1 src) = mem_plain s name (sum_of_operands s rs1 src) rd
completed_plain site s (Alternate name rd rs1 rs2 asi) = space_plain s name (sum_of_operands s rs1 (Reg rs2)) rd (is_plain_space asi)
completed_plain site s Illegal = record { trap = refl; barrier = refl; load = tt }
completed_plain site s AltIllegal = record { trap = refl; barrier = refl; load = tt }
completed_plain site s FpOff = record { trap = refl; barrier = refl; load = tt }
completed_plain site s CpOff = record { trap = refl; barrier = refl; load = tt }
completed_plain site s FpQueue = record { trap = refl; barrier = refl; load = tt }
completed_plain site s CpQueue = record { trap = refl; barrier = refl; load = tt }
completed_plain site s Stbar = record { trap = refl; barrier = refl; load = tt }
completed_plain site s (Call disp30) = record { trap = refl; barrier = refl; load = tt }
completed_plain site s (Sethi rd imm22) = record { trap = refl; barrier = refl; load = tt }
completed_plain site s (Bicc c a disp22) = record { trap = refl; barrier = refl; load = tt }
completed_plain site s (Calc name rd rs1 src) = record { trap = refl; barrier = refl; load = tt }
completed_plain site s (Ticc c rs1 src) = record { trap = refl; barrier = refl; load = tt }
completed_plain site s (ReadState name rd) = record { trap = refl; barrier = refl; load = tt }
completed_plain site s (ReadAsr rd rs1) = record { trap = refl; barrier = refl; load = tt }
completed_plain site s (WriteState name rs1 src) = record { trap = refl; barrier = refl; load = tt }
completed_plain site s (WriteAsr rd rs1 src) = record { trap = refl; barrier = refl; load = tt }
completed_plain site s (Jmpl rd rs1 src) = record { trap = refl; barrier = refl; load = tt }
completed_plain site s (Rett rs1 src) = record { trap = refl; barrier = refl; load = tt }
completed_plain site s (Flush rs1 src) = record { trap = refl; barrier = refl; load = tt }
completed_plain site s (Save rd rs1 src) = record { trap = refl; barrier = refl; load = tt }
completed_plain site s (Restore rd rs1 src) = record { trap = refl; barrier = refl; load = tt }

-- ---- the instruction at PC

pub record EndsSo (s : State) (e : Effect) : Type 0 where
  pub apart : IsApart s e
  pub barrier : leaves_by e.barrier ≡ false
  pub load : StoresBy e.access
  pub halted : (tt_ : ℕ) → e.trap ≡ Some tt_ → s.ctl.et ≡ false → (got : ℕ) → e.next got ≡ record s { halt = Some tt_ }

same_trap : (s : State) (m n : ℕ) → ◌≡◌ {A = Option ℕ} (Some m) (Some n) → ◌≡◌ {A = State} (record s { halt = Some m }) (record s { halt = Some n })
same_trap s m n is = ap (λ (halt : Option ℕ). record s { halt = halt }) is

halted_by : (s : State) (m tt_ : ℕ) → (trap_effect m s).trap ≡ Some tt_ → s.ctl.et ≡ false → (got : ℕ) → (trap_effect m s).next got ≡ record s { halt = Some tt_ }
halted_by s m tt_ is disabled got = by_et s.ctl.et disabled
  where
    by_et : (et : Bool) → et ≡ false → cond et (entered m s) (record s { halt = Some m }) ≡ record s { halt = Some tt_ }
    by_et true e = absurd (false≢true (sym e))
    by_et false e = same_trap s m tt_ is

unless : (site : Site) (s : State) (i : Instr) (trap : Option ℕ) → IsApart s (unless_trap trap s (with_reads (registers_read i) (completed site s i)))
    → EndsSo s (unless_trap trap s (with_reads (registers_read i) (completed site s i)))
unless site s i None apart = record {
  apart = apart;
  barrier = (completed_plain site s i).barrier;
  load = (completed_plain site s i).load;
  halted = λ tt_ is. absurd (none_not tt_ (sym (completed_plain site s i).trap ∙ is));
}
  where
    none_not : (tt_ : ℕ) → ◌≡◌ {A = Option ℕ} None (Some tt_) → ⊥
    none_not tt_ e = cc
unless site s i (Some m) apart = record { apart = apart; barrier = refl; load = tt; halted = halted_by s m }

of_instruction : (site : Site) (s : State) (i : Instr) → EndsSo s (effect site s i)
unfolding effect
of_instruction site s i = unless site s i (ordinary_trap site s i) (effect_apart site s i)

by_text : (setup : Setup) (core : ℕ) (s : State) (is_text : Bool)
    → EndsSo s (cond is_text (effect (site_of setup core) s (instruction_of (word_at setup.image s.ctl.pc))) (fetch_trap s))
by_text setup core s true = of_instruction (site_of setup core) s (instruction_of (word_at setup.image s.ctl.pc))
by_text setup core s false = record { apart = fetch_trap_apart s; barrier = refl; load = tt; halted = halted_by s 0x01 }

pub ends_so : (setup : Setup) (core : ℕ) (s : State) → EndsSo s (effect_at_pc setup core s)
unfolding effect_at_pc
ends_so setup core s = by_text setup core s (is_text_word setup.image.text s.ctl.pc)
