-- Which ordinary traps an instruction has (SPARC V8, chapter 7, traps; appendix B, traps of each instruction).
use Rattle.std.specs.Prelude.{ℕ, true, not, ◌&&◌, Option}
use Rattle.lf_model.specs.Instructions.{is_privileged}
use Rattle.lf_model.specs.State.{State, register, operand}
use Rattle.lf_model.specs.Effect.{Site, sum_of_operands}
use Rattle.lf_model.specs.Traps.{no_checks, traps_in_order, first_trap}
use Rattle.lf_model.specs.Families.{overflows_tag, divides_by_zero}
use Rattle.lf_model.specs.Branches.{target_misaligned, software_trap}
use Rattle.lf_model.specs.Windows.{save_overflows, restore_underflows, rett_is_illegal}
use Rattle.lf_model.specs.StateRegisters.{written_value, names_no_window}
use Rattle.lf_model.specs.Memory.{access_misaligned, access_refused}
use Rattle.lf_model.specs.Alternate.{alternate_refused}
use Rattle.lf_model.specs.declared.trap.Checks.{Checks}
use Rattle.lf_model.specs.declared.instruction.Src.TheVariants.{Reg}
use Rattle.lf_model.specs.declared.instruction.Instr.{Instr}
use Rattle.lf_model.specs.declared.instruction.Instr.TheVariants.{Illegal, AltIllegal, FpOff, CpOff, FpQueue, CpQueue, Stbar, Call, Sethi, Bicc, Calc, Ticc, ReadState, ReadAsr, WriteState, WriteAsr, Jmpl, Rett, Flush, Save, Restore, Mem, Alternate}

-- the ordinary traps of each instruction, but for `privileged_instruction`. No instruction has `instruction_access_exception`,
-- since its word was fetched.
abbrev pub checks_in_any_mode : Site → State → Instr → Checks
checks_in_any_mode site s Illegal = record no_checks { illegal = true }
checks_in_any_mode site s AltIllegal = record no_checks { illegal = true }
checks_in_any_mode site s FpOff = record no_checks { fp_off = true }
checks_in_any_mode site s FpQueue = record no_checks { fp_off = true }
checks_in_any_mode site s CpOff = record no_checks { cp_off = true }
checks_in_any_mode site s CpQueue = record no_checks { cp_off = true }
checks_in_any_mode site s (Calc name rd rs1 src) = record no_checks {
  tag = overflows_tag name (register s rs1) (operand s src);
  zero = divides_by_zero name (operand s src);
}
checks_in_any_mode site s (Ticc cond rs1 src) = record no_checks { ticc = software_trap s cond rs1 src }
checks_in_any_mode site s (WriteState name rs1 src) = record no_checks { illegal = names_no_window name (written_value s rs1 src) }
checks_in_any_mode site s (Jmpl rd rs1 src) = record no_checks { align = target_misaligned s rs1 src }
checks_in_any_mode site s (Rett rs1 src) = record no_checks {
  illegal = rett_is_illegal s;
  under = restore_underflows s;
  align = target_misaligned s rs1 src;
}
checks_in_any_mode site s (Save rd rs1 src) = record no_checks { over = save_overflows s }
checks_in_any_mode site s (Restore rd rs1 src) = record no_checks { under = restore_underflows s }
checks_in_any_mode site s (Mem name rd rs1 src) = record no_checks {
  align = access_misaligned name (sum_of_operands s rs1 src);
  access = access_refused site name (sum_of_operands s rs1 src);
}
checks_in_any_mode site s (Alternate name rd rs1 rs2 asi) = record no_checks {
  align = access_misaligned name (sum_of_operands s rs1 (Reg rs2));
  access = alternate_refused site name asi (sum_of_operands s rs1 (Reg rs2));
}
-- these have none
checks_in_any_mode site s Stbar = no_checks
checks_in_any_mode site s (Call disp30) = no_checks
checks_in_any_mode site s (Sethi rd imm22) = no_checks
checks_in_any_mode site s (Bicc cond a disp22) = no_checks
checks_in_any_mode site s (ReadState name rd) = no_checks
checks_in_any_mode site s (ReadAsr rd rs1) = no_checks
checks_in_any_mode site s (WriteAsr rd rs1 src) = no_checks
checks_in_any_mode site s (Flush rs1 src) = no_checks

-- the ordinary traps of an instruction; `privileged_instruction` comes in user mode alone
abbrev pub checks_of : Site → State → Instr → Checks
checks_of site s i = record (checks_in_any_mode site s i) { privileged = is_privileged i && not s.ctl.s }

-- the ordinary trap that an instruction takes: the first that it has
abbrev pub ordinary_trap : Site → State → Instr → Option ℕ
ordinary_trap site s i = first_trap (traps_in_order (checks_of site s i))
