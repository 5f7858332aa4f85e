-- What an instruction makes besides its trap: with a trap there is no operation and no barrier, with an operation there is no
-- barrier, and a trap that halts the core writes no cell.
use Rattle.std.proofs.Common.{◌≡◌, ℕ, Bool, cond, true, false, List, [], Option, Some, None, refl, inl, inr, ◌⊎◌, ◌==◌}
use Rattle.lf_model.specs.Alternate.{is_plain_space, control_effect}
use Rattle.lf_model.specs.Course.Touches.{retire_touches}
use Rattle.lf_model.specs.Effect.{Site, Access, Effect, with_reads, sum_of_operands}
use Rattle.lf_model.specs.Effects.{completed, effect}
use Rattle.lf_model.specs.Instructions.{registers_read}
use Rattle.lf_model.specs.Memory.{mem_effect, output_effect, store_effect}
use Rattle.lf_model.specs.OrdinaryTraps.{ordinary_trap}
use Rattle.lf_model.specs.Start.{output_word}
use Rattle.lf_model.specs.State.{State}
use Rattle.lf_model.specs.Traps.{trap_effect, fetch_trap, unless_trap}
use Rattle.lf_model.specs.declared.instruction.Instr.{Instr}
use Rattle.lf_model.specs.declared.instruction.Instr.TheVariants.{Illegal, AltIllegal, FpOff, CpOff, FpQueue, CpQueue, Stbar, Call, Sethi, Bicc, Calc, Ticc, ReadState, ReadAsr, WriteState, WriteAsr, Jmpl, Rett, Flush, Save, Restore, Mem, Alternate}
use Rattle.lf_model.specs.declared.instruction.MemName.{MemName}
use Rattle.lf_model.specs.declared.instruction.MemName.TheVariants.{Ld, Ldub, Lduh, Ldd, St, Stb, Sth, Std, Ldsb, Ldsh, Ldstub, Swap}
use Rattle.lf_model.specs.declared.instruction.Src.TheVariants.{Reg}
use Rattle.v8_exec.specs.Accesses.{IsAccessing}
use Rattle.v8_exec.proofs.AtomicLemmas.{completed-access}
use Rattle.v8_exec.proofs.TurnLemmas.{accessing}

pub record IsApart (s : State) (e : Effect) : Type 0 where
  pub trapped : (tt_ : ℕ) → e.trap ≡ Some tt_ → e.access ≡ None
  pub alone : (x : Access) → e.access ≡ Some x → e.barrier ≡ None
  pub halted : (tt_ : ℕ) → e.trap ≡ Some tt_ → s.ctl.et ≡ false → retire_touches e ≡ []

-- a trap
trap_apart : (s : State) (tt_ : ℕ) (registers : List ℕ) → IsApart s (with_reads registers (trap_effect tt_ s))
trap_apart s tt_ registers = record {
  trapped = λ n is. refl;
  alone = λ x is. refl;
  halted = λ n is disabled. rw disabled refl;
}

-- an effect without a trap
untrapped : (s : State) (e : Effect) → e.trap ≡ None → (e.access ≡ None) ⊎ (e.barrier ≡ None) → IsApart s e
untrapped s e none (inl without) = record {
  trapped = λ n is. without;
  alone = λ x is. absurd (cc);
  halted = λ n is disabled. absurd (cc);
}
untrapped s e none (inr without) = record {
  trapped = λ n is. absurd (cc);
  alone = λ x is. without;
  halted = λ n is disabled. absurd (cc);
}

record IsPlain (e : Effect) : Type 0 where
  trap : e.trap ≡ None
  barrier : e.barrier ≡ None

output_plain : (s : State) (addr rd : ℕ) (b : Bool) → IsPlain (cond b (output_effect rd s) (store_effect St addr rd s))
output_plain s addr rd true = record { trap = refl; barrier = refl }
output_plain s addr rd false = record { trap = refl; barrier = refl }

mem_plain : (s : State) (name : MemName) (addr rd : ℕ) → IsPlain (mem_effect name addr rd s)
mem_plain s St addr rd = output_plain s addr rd (addr == output_word)
mem_plain s Ld addr rd = record { trap = refl; barrier = refl }
mem_plain s Ldub addr rd = record { trap = refl; barrier = refl }
mem_plain s Lduh addr rd = record { trap = refl; barrier = refl }
mem_plain s Ldd addr rd = record { trap = refl; barrier = refl }
mem_plain s Stb addr rd = record { trap = refl; barrier = refl }
mem_plain s Sth addr rd = record { trap = refl; barrier = refl }
mem_plain s Std addr rd = record { trap = refl; barrier = refl }
mem_plain s Ldsb addr rd = record { trap = refl; barrier = refl }
mem_plain s Ldsh addr rd = record { trap = refl; barrier = refl }
mem_plain s Ldstub addr rd = record { trap = refl; barrier = refl }
mem_plain s Swap addr rd = record { trap = refl; barrier = refl }

control_plain : (s : State) (name : MemName) (rd : ℕ) → IsPlain (control_effect name rd s)
control_plain s St rd = record { trap = refl; barrier = refl }
control_plain s Ld rd = record { trap = refl; barrier = refl }
control_plain s Ldub rd = record { trap = refl; barrier = refl }
control_plain s Lduh rd = record { trap = refl; barrier = refl }
control_plain s Ldd rd = record { trap = refl; barrier = refl }
control_plain s Stb rd = record { trap = refl; barrier = refl }
control_plain s Sth rd = record { trap = refl; barrier = refl }
control_plain s Std rd = record { trap = refl; barrier = refl }
control_plain s Ldsb rd = record { trap = refl; barrier = refl }
control_plain s Ldsh rd = record { trap = refl; barrier = refl }
control_plain s Ldstub rd = record { trap = refl; barrier = refl }
control_plain s Swap rd = record { trap = refl; barrier = refl }

space_plain : (s : State) (name : MemName) (addr rd : ℕ) (b : Bool) → IsPlain (cond b (mem_effect name addr rd s) (control_effect name rd s))
space_plain s name addr rd true = mem_plain s name addr rd
space_plain s name addr rd false = control_plain s name rd

accessing_plain : (site : Site) (s : State) (i : Instr) → IsAccessing i → IsPlain (completed site s i)
accessing_plain site s (Mem name rd rs1 src) accesses = mem_plain s name (sum_of_operands s rs1 src) rd
accessing_plain site s (Alternate name rd rs1 rs2 asi) accesses = space_plain s name (sum_of_operands s rs1 (Reg rs2)) rd (is_plain_space asi)
accessing_plain site s Illegal accesses = absurd accesses
accessing_plain site s AltIllegal accesses = absurd accesses
accessing_plain site s FpOff accesses = absurd accesses
accessing_plain site s CpOff accesses = absurd accesses
accessing_plain site s FpQueue accesses = absurd accesses
accessing_plain site s CpQueue accesses = absurd accesses
accessing_plain site s Stbar accesses = absurd accesses
accessing_plain site s (Call disp30) accesses = absurd accesses
accessing_plain site s (Sethi rd imm22) accesses = absurd accesses
accessing_plain site s (Bicc c a disp22) accesses = absurd accesses
accessing_plain site s (Calc name rd rs1 src) accesses = absurd accesses
accessing_plain site s (Ticc c rs1 src) accesses = absurd accesses
accessing_plain site s (ReadState name rd) accesses = absurd accesses
accessing_plain site s (ReadAsr rd rs1) accesses = absurd accesses
accessing_plain site s (WriteState name rs1 src) accesses = absurd accesses
accessing_plain site s (WriteAsr rd rs1 src) accesses = absurd accesses
accessing_plain site s (Jmpl rd rs1 src) accesses = absurd accesses
accessing_plain site s (Rett rs1 src) accesses = absurd accesses
accessing_plain site s (Flush rs1 src) accesses = absurd accesses
accessing_plain site s (Save rd rs1 src) accesses = absurd accesses
accessing_plain site s (Restore rd rs1 src) accesses = absurd accesses

-- completed, no instruction traps
completed-trap : (site : Site) (s : State) (i : Instr) → (completed site s i).trap ≡ None
completed-trap site s (Mem name rd rs1 src) = (mem_plain s name (sum_of_operands s rs1 src) rd).trap
completed-trap site s (Alternate name rd rs1 rs2 asi) = (space_plain s name (sum_of_operands s rs1 (Reg rs2)) rd (is_plain_space asi)).trap
completed-trap site s Illegal = refl
completed-trap site s AltIllegal = refl
completed-trap site s FpOff = refl
completed-trap site s CpOff = refl
completed-trap site s FpQueue = refl
completed-trap site s CpQueue = refl
completed-trap site s Stbar = refl
completed-trap site s (Call disp30) = refl
completed-trap site s (Sethi rd imm22) = refl
completed-trap site s (Bicc c a disp22) = refl
completed-trap site s (Calc name rd rs1 src) = refl
completed-trap site s (Ticc c rs1 src) = refl
completed-trap site s (ReadState name rd) = refl
completed-trap site s (ReadAsr rd rs1) = refl
completed-trap site s (WriteState name rs1 src) = refl
completed-trap site s (WriteAsr rd rs1 src) = refl
completed-trap site s (Jmpl rd rs1 src) = refl
completed-trap site s (Rett rs1 src) = refl
completed-trap site s (Flush rs1 src) = refl
completed-trap site s (Save rd rs1 src) = refl
completed-trap site s (Restore rd rs1 src) = refl

completed_apart : (site : Site) (s : State) (i : Instr) (registers : List ℕ) → IsAccessing i ⊎ (IsAccessing i → ⊥) → IsApart s (with_reads registers (completed site s i))
completed_apart site s i registers (inl accesses) = untrapped s (with_reads registers (completed site s i)) (completed-trap site s i) (inr (accessing_plain site s i accesses).barrier)
completed_apart site s i registers (inr other) = untrapped s (with_reads registers (completed site s i)) (completed-trap site s i) (inl (completed-access site s i other))

unless_trap_apart : (s : State) (trap : Option ℕ) (e : Effect) → IsApart s e → IsApart s (unless_trap trap s e)
unless_trap_apart s None e apart = apart
unless_trap_apart s (Some tt_) e apart = trap_apart s tt_ e.reads

-- the effect of an instruction
pub effect_apart : (site : Site) (s : State) (i : Instr) → IsApart s (effect site s i)
unfolding effect
effect_apart site s i = unless_trap_apart s (ordinary_trap site s i) (with_reads (registers_read i) (completed site s i)) (completed_apart site s i (registers_read i) (accessing i))

-- the trap of a PC that is no text word
pub fetch_trap_apart : (s : State) → IsApart s (fetch_trap s)
fetch_trap_apart s = trap_apart s 0x01 []
