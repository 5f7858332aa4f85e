-- PC and nPC of a core stay multiples of 4: an instruction goes on to the next word, to the target of a branch or of CALL, so many words
-- from PC, to that of JMPL or RETT, which traps where it is no multiple of 4, or to the vector of a trap, a multiple of 16.
use Rattle.std.proofs.Common.{◌≡◌, ◌+◌, ◌*◌, ◌/◌, ◌%◌, ◌^◌, ◌==◌, ◌&&◌, not, ℕ, Bool, true, false, [], ◌∷◌, Option, Some, None, refl, sym, subst, arith, if◌then◌else◌}
use Rattle.std.proofs.lemmas.Bool.{eqb-true, not-false}
use Rattle.std.specs.Option.{option_or}
use Rattle.std.specs.Prelude.{slice_set}
use Rattle.lf_model.specs.Alternate.{is_plain_space, control_effect}
use Rattle.lf_model.specs.Branches.{transferred, annulled, branch_target, call_target, taken, not_taken, branched}
use Rattle.lf_model.specs.Calculation.{result_of, icc_after, calculated}
use Rattle.lf_model.specs.Conditions.{condition_holds}
use Rattle.lf_model.specs.Effect.{Site, Effect, with_reads, sum_of_operands}
use Rattle.lf_model.specs.Effects.{completed, effect}
use Rattle.lf_model.specs.Families.{y_after}
use Rattle.lf_model.specs.Instructions.{instruction_of, registers_read}
use Rattle.lf_model.specs.Memory.{extended, mem_effect, output_effect, store_effect}
use Rattle.lf_model.specs.OrdinaryTraps.{checks_of, ordinary_trap}
use Rattle.lf_model.specs.Run.{Run, site_of, effect_at_pc}
use Rattle.lf_model.specs.Start.{output_word, is_text_word, word_at}
use Rattle.lf_model.specs.State.{State, cell, register, operand, with_register, advanced}
use Rattle.lf_model.specs.StateRegisters.{asr_value, state_value, written_value, with_state}
use Rattle.lf_model.specs.Step.{Seen, Parts, state_of, run_seen, answer_of, run_after}
use Rattle.lf_model.specs.Traps.{instruction_access_exception, privileged_instruction, illegal_instruction, fp_disabled, cp_disabled, window_overflow, window_underflow, mem_address_not_aligned, data_access_exception, tag_overflow, division_by_zero, when, traps_in_order, first_trap, entered, trap_effect, unless_trap, fetch_trap}
use Rattle.lf_model.specs.Windows.{window_after_save, window_after_restore, in_window, returned}
use Rattle.lf_model.specs.declared.control.Arch.{Arch}
use Rattle.lf_model.specs.declared.control.Ctl.{Ctl}
use Rattle.lf_model.specs.declared.instruction.Instr.{Instr}
use Rattle.lf_model.specs.declared.instruction.Instr.TheVariants.{Illegal, AltIllegal, FpOff, CpOff, FpQueue, CpQueue, Stbar, Call, Sethi, Bicc, Calc, Ticc, ReadState, ReadAsr, WriteState, WriteAsr, Jmpl, Rett, Flush, Save, Restore, Mem, Alternate}
use Rattle.lf_model.specs.declared.instruction.MemName.{MemName}
use Rattle.lf_model.specs.declared.instruction.MemName.TheVariants.{Ld, Ldub, Lduh, Ldd, St, Stb, Sth, Std, Ldsb, Ldsh, Ldstub, Swap}
use Rattle.lf_model.specs.declared.instruction.Src.TheVariants.{Reg}
use Rattle.lf_model.specs.declared.instruction.StateName.{StateName}
use Rattle.lf_model.specs.declared.instruction.StateName.TheVariants.{Y, Psr, Wim, Tbr}
use Rattle.lf_model.specs.declared.setup.Setup.{Setup}
use Rattle.lf_model.specs.declared.step.Did.{Did}
use Rattle.lf_model.specs.declared.step.Did.TheVariants.{Retired, Turned, Need, Halt, Stop}
use Rattle.lf_model.specs.declared.trap.Checks.{Checks}

-- PC and nPC are multiples of 4
pub record IsAligned (c : Ctl) : Type 0 where
  pub pc : c.pc % 4 ≡ 0
  pub npc : c.npc % 4 ≡ 0

-- they are so in the next state, whatever number the operation reads
abbrev pub GoesOnAligned : Effect → Type 0
GoesOnAligned e = (got : ℕ) → IsAligned (e.next got).ctl

-- ---- each way on

either_state : (b : Bool) (t u : State) → IsAligned t.ctl → IsAligned u.ctl → IsAligned (if b then t else u).ctl
either_state true t u h k = h
either_state false t u h k = k

register_leaves : (n value : ℕ) (s : State) → IsAligned s.ctl → IsAligned (with_register n value s).ctl
register_leaves n value s h = either_state (n == 0) s (record s { cells = slice_set s.cells (cell s.ctl.cwp n) value }) h h

next_word : (s : State) → IsAligned s.ctl → IsAligned (advanced s).ctl
next_word s h = record { pc = h.npc; npc = omega (arith, h.npc) }

after_register : (n value : ℕ) (s : State) → IsAligned s.ctl → IsAligned (advanced (with_register n value s)).ctl
after_register n value s h = next_word (with_register n value s) (register_leaves n value s h)

delayed : (target : ℕ) (s : State) → target % 4 ≡ 0 → IsAligned s.ctl → IsAligned (transferred target s).ctl
delayed target s aligned h = record { pc = h.npc; npc = aligned }

past_slot : (addr : ℕ) (s : State) → addr % 4 ≡ 0 → IsAligned (annulled addr s).ctl
past_slot addr s aligned = record { pc = aligned; npc = omega (arith, aligned) }

to_handler : (tt_ : ℕ) (s : State) → IsAligned (entered tt_ s).ctl
to_handler tt_ s = record { pc = omega arith; npc = omega arith }

-- so many words from PC
words_on : (pc words : ℕ) → pc % 4 ≡ 0 → (pc + 4 * words) % 2 ^ 32 % 4 ≡ 0
words_on pc words aligned = omega (arith, aligned)

-- a trap is entered, or halts the core where it is
trap_goes_on : (tt_ : ℕ) (s : State) → IsAligned s.ctl → GoesOnAligned (trap_effect tt_ s)
trap_goes_on tt_ s h got = either_state s.ctl.et (entered tt_ s) (record s { halt = Some tt_ }) (to_handler tt_ s) h

-- ---- branches

branch_goes_on : (cond : ℕ) (a : Bool) (disp22 : ℕ) (s : State) → IsAligned s.ctl → IsAligned (branched cond a disp22 s).ctl
branch_goes_on cond a disp22 s h =
    let target = branch_target s disp22 in
    let aligned : target % 4 ≡ 0 = words_on s.ctl.pc _ h.pc in
    let behind : (s.ctl.npc + 4) % 2 ^ 32 % 4 ≡ 0 = omega (arith, h.npc) in
    either_state (condition_holds cond s.ctl.icc) (taken cond a disp22 s) (not_taken a s)
    (either_state (a && cond == 8) (annulled target s) (transferred target s) (past_slot target s aligned) (delayed target s aligned h))
    (either_state a (annulled ((s.ctl.npc + 4) % 2 ^ 32) s) (advanced s) (past_slot ((s.ctl.npc + 4) % 2 ^ 32) s behind) (next_word s h))

-- ---- a target that is no multiple of 4 traps

no_first : (test : Bool) (tt_ : ℕ) (others : Option ℕ) → option_or (when test tt_) others ≡ None → test ≡ false
no_first true tt_ others none = absurd (cc)
no_first false tt_ others none = refl

no_other : (test : Bool) (tt_ : ℕ) (others : Option ℕ) → option_or (when test tt_) others ≡ None → others ≡ None
no_other true tt_ others none = absurd (cc)
no_other false tt_ others none = none

-- without a trap no address is misaligned
none_misaligned : (c : Checks) → first_trap (traps_in_order c) ≡ None → c.align ≡ false
none_misaligned c none =
    no_first c.align mem_address_not_aligned (first_trap (when c.access data_access_exception ∷ when c.tag tag_overflow ∷ when c.zero division_by_zero ∷ c.ticc ∷ []))
    (no_other c.under window_underflow _
    (no_other c.over window_overflow _
    (no_other c.cp_off cp_disabled _
    (no_other c.fp_off fp_disabled _
    (no_other c.illegal illegal_instruction _
    (no_other c.privileged privileged_instruction _
    (no_other c.fetch instruction_access_exception _ none)))))))

multiple : (n : ℕ) → not (n % 4 == 0) ≡ false → n % 4 ≡ 0
multiple n h = eqb-true (n % 4) 0 (not-false (n % 4 == 0) h)

-- ---- loads, stores and atomics

either_effect : (b : Bool) (e f : Effect) → GoesOnAligned e → GoesOnAligned f → GoesOnAligned (if b then e else f)
either_effect true e f h k = h
either_effect false e f h k = k

module _ (s : State) (h : IsAligned s.ctl) where
  memory_goes_on : (name : MemName) (addr rd : ℕ) → GoesOnAligned (mem_effect name addr rd s)
  memory_goes_on St addr rd = either_effect (addr == output_word) (output_effect rd s) (store_effect St addr rd s) (λ got. next_word s h) (λ got. next_word s h)
  memory_goes_on Ldd addr rd = λ got. after_register (rd + 1) (got % 2 ^ 32) (with_register rd (got / 2 ^ 32) s) (register_leaves rd (got / 2 ^ 32) s h)
  memory_goes_on Ld addr rd = λ got. after_register rd got s h
  memory_goes_on Ldub addr rd = λ got. after_register rd got s h
  memory_goes_on Lduh addr rd = λ got. after_register rd got s h
  memory_goes_on Ldsb addr rd = λ got. after_register rd (extended Ldsb got) s h
  memory_goes_on Ldsh addr rd = λ got. after_register rd (extended Ldsh got) s h
  memory_goes_on Stb addr rd = λ got. next_word s h
  memory_goes_on Sth addr rd = λ got. next_word s h
  memory_goes_on Std addr rd = λ got. next_word s h
  memory_goes_on Ldstub addr rd = λ got. after_register rd got s h
  memory_goes_on Swap addr rd = λ got. after_register rd got s h

  control_goes_on : (name : MemName) (rd : ℕ) → GoesOnAligned (control_effect name rd s)
  control_goes_on Ld rd = λ got. after_register rd 0 s h
  control_goes_on Ldub rd = λ got. next_word s h
  control_goes_on Lduh rd = λ got. next_word s h
  control_goes_on Ldd rd = λ got. next_word s h
  control_goes_on St rd = λ got. next_word s h
  control_goes_on Stb rd = λ got. next_word s h
  control_goes_on Sth rd = λ got. next_word s h
  control_goes_on Std rd = λ got. next_word s h
  control_goes_on Ldsb rd = λ got. next_word s h
  control_goes_on Ldsh rd = λ got. next_word s h
  control_goes_on Ldstub rd = λ got. next_word s h
  control_goes_on Swap rd = λ got. next_word s h

  -- ---- all instructions

  written_aligned : (name : StateName) (value : ℕ) → IsAligned (with_state name value s).ctl
  written_aligned Y value = h
  written_aligned Psr value = record { pc = h.pc; npc = h.npc }
  written_aligned Wim value = h
  written_aligned Tbr value = record { pc = h.pc; npc = h.npc }

  completed_goes_on : (site : Site) (i : Instr) → (checks_of site s i).align ≡ false → GoesOnAligned (completed site s i)
  completed_goes_on site (Call disp30) fine = λ got.
      delayed (call_target s disp30) (with_register 15 s.ctl.pc s) (words_on s.ctl.pc _ h.pc) (register_leaves 15 s.ctl.pc s h)
  completed_goes_on site (Jmpl rd rs1 src) fine = λ got.
      delayed (sum_of_operands s rs1 src) (with_register rd s.ctl.pc s) (multiple (sum_of_operands s rs1 src) fine) (register_leaves rd s.ctl.pc s h)
  completed_goes_on site (Rett rs1 src) fine = λ got.
      delayed (sum_of_operands s rs1 src) (returned s) (multiple (sum_of_operands s rs1 src) fine) (record { pc = h.pc; npc = h.npc })
  completed_goes_on site (Bicc cond a disp22) fine = λ got. branch_goes_on cond a disp22 s h
  completed_goes_on site (Calc name rd rs1 src) fine = λ got. next_word (calculated name rd (register s rs1) (operand s src) s)
      (register_leaves rd (result_of name (register s rs1) (operand s src) s.ctl.icc s.y)
      (record s { ctl = record s.ctl { icc = icc_after name (register s rs1) (operand s src) s.ctl.icc s.y }; y = y_after name (register s rs1) (operand s src) s.y })
      (record { pc = h.pc; npc = h.npc }))
  completed_goes_on site (Save rd rs1 src) fine = λ got.
      after_register rd (sum_of_operands s rs1 src) (in_window (window_after_save s.ctl.cwp) s) (record { pc = h.pc; npc = h.npc })
  completed_goes_on site (Restore rd rs1 src) fine = λ got.
      after_register rd (sum_of_operands s rs1 src) (in_window (window_after_restore s.ctl.cwp) s) (record { pc = h.pc; npc = h.npc })
  completed_goes_on site (WriteState name rs1 src) fine = λ got.
      next_word (with_state name (written_value s rs1 src) s) (written_aligned name (written_value s rs1 src))
  completed_goes_on site (Mem name rd rs1 src) fine = memory_goes_on name (sum_of_operands s rs1 src) rd
  completed_goes_on site (Alternate name rd rs1 rs2 asi) fine =
      let addr = sum_of_operands s rs1 (Reg rs2) in
      either_effect (is_plain_space asi) (mem_effect name addr rd s) (control_effect name rd s) (memory_goes_on name addr rd) (control_goes_on name rd)
  completed_goes_on site (Sethi rd imm22) fine = λ got. after_register rd (imm22 * 2 ^ 10) s h
  completed_goes_on site (ReadState name rd) fine = λ got. after_register rd (state_value name s) s h
  completed_goes_on site (ReadAsr rd rs1) fine = λ got. after_register rd (asr_value site.core rs1) s h
  completed_goes_on site (WriteAsr rd rs1 src) fine = λ got. next_word s h
  completed_goes_on site (Ticc cond rs1 src) fine = λ got. next_word s h
  completed_goes_on site Stbar fine = λ got. next_word s h
  completed_goes_on site (Flush rs1 src) fine = λ got. next_word s h
  completed_goes_on site Illegal fine = λ got. next_word s h
  completed_goes_on site AltIllegal fine = λ got. next_word s h
  completed_goes_on site FpOff fine = λ got. next_word s h
  completed_goes_on site FpQueue fine = λ got. next_word s h
  completed_goes_on site CpOff fine = λ got. next_word s h
  completed_goes_on site CpQueue fine = λ got. next_word s h

  unless_trap_goes_on : (trap : Option ℕ) (e : Effect) → (trap ≡ None → GoesOnAligned e) → GoesOnAligned (unless_trap trap s e)
  unless_trap_goes_on None e goes_on = goes_on refl
  unless_trap_goes_on (Some tt_) e goes_on = trap_goes_on tt_ s h

  effect_goes_on : (site : Site) (i : Instr) → GoesOnAligned (effect site s i)
  unfolding effect
  effect_goes_on site i =
      unless_trap_goes_on (ordinary_trap site s i) (with_reads (registers_read i) (completed site s i))
      (λ none. completed_goes_on site i (none_misaligned (checks_of site s i) none))

  -- an instruction leaves PC and nPC multiples of 4, whatever number its operation reads
  pub next_aligned : (setup : Setup) (core : ℕ) → GoesOnAligned (effect_at_pc setup core s)
  unfolding effect_at_pc
  next_aligned setup core =
      let i = instruction_of (word_at setup.image s.ctl.pc) in
      either_effect (is_text_word setup.image.text s.ctl.pc) (effect (site_of setup core) s i) (fetch_trap s)
      (effect_goes_on (site_of setup core) i) (trap_goes_on instruction_access_exception s h)

-- ---- a run

run_goes_on : (core : ℕ) (parts : Parts) (did : Did) (e : Effect) (old : Run) → IsAligned old.state.ctl → GoesOnAligned e → IsAligned (run_after core parts did e old).state.ctl
run_goes_on core parts Retired e old h goes_on = goes_on (answer_of parts e.access)
run_goes_on core parts Turned e old h goes_on = h
run_goes_on core parts (Need turn) e old h goes_on = h
run_goes_on core parts (Halt tt_) e old h goes_on = h
run_goes_on core parts (Stop tt_ place syn) e old h goes_on = h

-- whatever the instruction at PC comes to, it leaves PC and nPC multiples of 4
pub run_aligned : (setup : Setup) (core : ℕ) (parts : Parts) (did : Did) (old new : Run) → IsAligned old.state.ctl
    → new ≡ run_after core parts did (effect_at_pc setup core old.state) old → IsAligned new.state.ctl
run_aligned setup core parts did old new h is = subst (λ (r : Run). IsAligned r.state.ctl) (sym is) (run_goes_on core parts did (effect_at_pc setup core old.state) old h (next_aligned old.state h setup core))

-- so it does to the state registers of a core
pub registers_aligned : (setup : Setup) (core : ℕ) (parts : Parts) (did : Did) (a b : Arch) (before after : Seen) → a.ctl.pc % 4 ≡ 0 → a.ctl.npc % 4 ≡ 0
    → run_seen b after ≡ run_after core parts did (effect_at_pc setup core (state_of a before)) (run_seen a before) → (b.ctl.pc % 4 ≡ 0) × (b.ctl.npc % 4 ≡ 0)
registers_aligned setup core parts did a b before after pc npc is =
    let h : IsAligned b.ctl = run_aligned setup core parts did (run_seen a before) (run_seen b after) (record { pc = pc; npc = npc }) is in (h.pc, h.npc)
