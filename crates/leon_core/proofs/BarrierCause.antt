-- A barrier drains for a cause of a drain: STBAR or FLUSH.
use Rattle.std.proofs.Common.{◌≡◌, ◌==◌, ℕ, Bool, cond, true, false, Option, Some, None, refl, subst}
use Rattle.std.specs.List.{list_any}
use Rattle.lf_model.specs.Alternate.{is_plain_space, control_effect}
use Rattle.lf_model.specs.Effect.{Site, with_reads, sum_of_operands}
use Rattle.lf_model.specs.Effects.{completed, effect}
use Rattle.lf_model.specs.Instructions.{registers_read, instruction_of}
use Rattle.lf_model.specs.Memory.{mem_effect, output_effect, store_effect}
use Rattle.lf_model.specs.OrdinaryTraps.{ordinary_trap}
use Rattle.lf_model.specs.Names.{same_why}
use Rattle.lf_model.specs.Promise.RegularTransfer.{causes_of_drain}
use Rattle.lf_model.specs.Run.{site_of, effect_at_pc}
use Rattle.lf_model.specs.Start.{output_word, is_text_word, word_at}
use Rattle.lf_model.specs.State.{State}
use Rattle.lf_model.specs.Traps.{fetch_trap, unless_trap}
use Rattle.lf_model.specs.declared.bus.Why.{Why}
use Rattle.lf_model.specs.declared.instruction.Instr.{Instr}
use Rattle.lf_model.specs.declared.instruction.Instr.TheVariants.{Illegal, AltIllegal, FpOff, CpOff, FpQueue, CpQueue, Stbar, Call, Sethi, Bicc, Calc, Ticc, ReadState, ReadAsr, WriteState, WriteAsr, Jmpl, Rett, Flush, Save, Restore, Mem, Alternate}
use Rattle.lf_model.specs.declared.instruction.MemName.{MemName}
use Rattle.lf_model.specs.declared.instruction.MemName.TheVariants.{Ld, Ldub, Lduh, Ldd, St, Stb, Sth, Std, Ldsb, Ldsh, Ldstub, Swap}
use Rattle.lf_model.specs.declared.instruction.Src.TheVariants.{Reg}
use Rattle.lf_model.specs.declared.setup.Setup.{Setup}

-- a cause of a drain
abbrev pub IsDrainCause : Why → Type 0
IsDrainCause why = list_any (same_why why) causes_of_drain ≡ true

abbrev DrainsFor : Option Why → Type 0
DrainsFor None = Unit {0}
DrainsFor (Some why) = IsDrainCause why

-- ---- an instruction without a trap

output_drains : (s : State) (addr rd : ℕ) (b : Bool) → DrainsFor (cond b (output_effect rd s) (store_effect St addr rd s)).barrier
output_drains s addr rd true = tt
output_drains s addr rd false = tt

mem_drains : (s : State) (name : MemName) (addr rd : ℕ) → DrainsFor (mem_effect name addr rd s).barrier
mem_drains s St addr rd = output_drains s addr rd (addr == output_word)
mem_drains s Ld addr rd = tt
mem_drains s Ldub addr rd = tt
mem_drains s Lduh addr rd = tt
mem_drains s Ldd addr rd = tt
mem_drains s Stb addr rd = tt
mem_drains s Sth addr rd = tt
mem_drains s Std addr rd = tt
mem_drains s Ldsb addr rd = tt
mem_drains s Ldsh addr rd = tt
mem_drains s Ldstub addr rd = tt
mem_drains s Swap addr rd = tt

control_drains : (s : State) (name : MemName) (rd : ℕ) → DrainsFor (control_effect name rd s).barrier
control_drains s St rd = tt
control_drains s Ld rd = tt
control_drains s Ldub rd = tt
control_drains s Lduh rd = tt
control_drains s Ldd rd = tt
control_drains s Stb rd = tt
control_drains s Sth rd = tt
control_drains s Std rd = tt
control_drains s Ldsb rd = tt
control_drains s Ldsh rd = tt
control_drains s Ldstub rd = tt
control_drains s Swap rd = tt

space_drains : (s : State) (name : MemName) (addr rd : ℕ) (b : Bool) → DrainsFor (cond b (mem_effect name addr rd s) (control_effect name rd s)).barrier
space_drains s name addr rd true = mem_drains s name addr rd
space_drains s name addr rd false = control_drains s name rd

completed_drains : (site : Site) (s : State) (i : Instr) → DrainsFor (completed site s i).barrier
completed_drains site s (Mem name rd rs1 src) = mem_drains s name (sum_of_operands s rs1 src) rd
completed_drains site s (Alternate name rd rs1 rs2 asi) = space_drains s name (sum_of_operands s rs1 (Reg rs2)) rd (is_plain_space asi)
completed_drains site s Illegal = tt
completed_drains site s AltIllegal = tt
completed_drains site s FpOff = tt
completed_drains site s CpOff = tt
completed_drains site s FpQueue = tt
completed_drains site s CpQueue = tt
completed_drains site s Stbar = refl
completed_drains site s (Call disp30) = tt
completed_drains site s (Sethi rd imm22) = tt
completed_drains site s (Bicc c a disp22) = tt
completed_drains site s (Calc name rd rs1 src) = tt
completed_drains site s (Ticc c rs1 src) = tt
completed_drains site s (ReadState name rd) = tt
completed_drains site s (ReadAsr rd rs1) = tt
completed_drains site s (WriteState name rs1 src) = tt
completed_drains site s (WriteAsr rd rs1 src) = tt
completed_drains site s (Jmpl rd rs1 src) = tt
completed_drains site s (Rett rs1 src) = tt
completed_drains site s (Flush rs1 src) = refl
completed_drains site s (Save rd rs1 src) = tt
completed_drains site s (Restore rd rs1 src) = tt

-- ---- the instruction at PC

unless : (site : Site) (s : State) (i : Instr) (trap : Option ℕ) → DrainsFor (unless_trap trap s (with_reads (registers_read i) (completed site s i))).barrier
unless site s i None = completed_drains site s i
unless site s i (Some m) = tt

of_instruction : (site : Site) (s : State) (i : Instr) → DrainsFor (effect site s i).barrier
unfolding effect
of_instruction site s i = unless site s i (ordinary_trap site s i)

by_text : (setup : Setup) (core : ℕ) (s : State) (is_text : Bool)
    → DrainsFor (cond is_text (effect (site_of setup core) s (instruction_of (word_at setup.image s.ctl.pc))) (fetch_trap s)).barrier
by_text setup core s true = of_instruction (site_of setup core) s (instruction_of (word_at setup.image s.ctl.pc))
by_text setup core s false = tt

drains_for : (setup : Setup) (core : ℕ) (s : State) → DrainsFor (effect_at_pc setup core s).barrier
unfolding effect_at_pc
drains_for setup core s = by_text setup core s (is_text_word setup.image.text s.ctl.pc)

pub barrier_cause : (setup : Setup) (core : ℕ) (s : State) (why : Why) → (effect_at_pc setup core s).barrier ≡ Some why → IsDrainCause why
barrier_cause setup core s why is = subst DrainsFor is (drains_for setup core s)
