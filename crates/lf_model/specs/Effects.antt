-- The effect of each instruction (SPARC V8, appendix B, instruction definitions).
use Rattle.lf_model.specs.Instructions.{registers_read}
use Rattle.lf_model.specs.State.{State}
use Rattle.lf_model.specs.Effect.{Site, Effect, with_reads, sum_of_operands, advances}
use Rattle.lf_model.specs.Traps.{unless_trap}
use Rattle.lf_model.specs.Calculation.{calc_effect, sethi_effect}
use Rattle.lf_model.specs.Branches.{call_effect, jmpl_effect, bicc_effect}
use Rattle.lf_model.specs.Windows.{save_effect, restore_effect, rett_effect}
use Rattle.lf_model.specs.StateRegisters.{read_state_effect, read_asr_effect, write_state_effect}
use Rattle.lf_model.specs.Memory.{mem_effect, barrier_effect}
use Rattle.lf_model.specs.Alternate.{alternate_effect}
use Rattle.lf_model.specs.OrdinaryTraps.{ordinary_trap}
use Rattle.lf_model.specs.declared.bus.Why.TheVariants as whys
use Rattle.lf_model.specs.declared.instruction.Src.TheVariants.{Reg}
use Rattle.lf_model.specs.declared.instruction.Instr.{Instr}
use Rattle.lf_model.specs.declared.instruction.Instr.TheVariants.{Illegal, AltIllegal, FpOff, CpOff, FpQueue, CpQueue, Stbar, Call, Sethi, Bicc, Calc, Ticc, ReadState, ReadAsr, WriteState, WriteAsr, Jmpl, Rett, Flush, Save, Restore, Mem, Alternate}

-- the effect where there is no ordinary trap
abbrev pub completed : Site → State → Instr → Effect
completed site s (Call disp30) = call_effect disp30 s
completed site s (Sethi rd imm22) = sethi_effect rd imm22 s
completed site s (Bicc cond a disp22) = bicc_effect cond a disp22 s
completed site s (Calc name rd rs1 src) = calc_effect name rd rs1 src s
completed site s (Jmpl rd rs1 src) = jmpl_effect rd rs1 src s
completed site s (Rett rs1 src) = rett_effect rs1 src s
completed site s (Save rd rs1 src) = save_effect rd rs1 src s
completed site s (Restore rd rs1 src) = restore_effect rd rs1 src s
completed site s (ReadState name rd) = read_state_effect name rd s
completed site s (ReadAsr rd rs1) = read_asr_effect site.core rd rs1 s
completed site s (WriteState name rs1 src) = write_state_effect name rs1 src s
completed site s (Mem name rd rs1 src) = mem_effect name (sum_of_operands s rs1 src) rd s
completed site s (Alternate name rd rs1 rs2 asi) = alternate_effect name asi (sum_of_operands s rs1 (Reg rs2)) rd s
completed site s Stbar = barrier_effect whys.Stbar s
completed site s (Flush rs1 src) = barrier_effect whys.Flush s
-- WRASR has no effect, and Ticc none but its trap
completed site s (WriteAsr rd rs1 src) = advances s
completed site s (Ticc cond rs1 src) = advances s
-- these always trap
completed site s Illegal = advances s
completed site s AltIllegal = advances s
completed site s FpOff = advances s
completed site s FpQueue = advances s
completed site s CpOff = advances s
completed site s CpQueue = advances s

-- the effect of an instruction: it reads its registers, and is completed unless it traps
unfoldable pub effect : Site → State → Instr → Effect
effect site s i = unless_trap (ordinary_trap site s i) s (with_reads (registers_read i) (completed site s i))
