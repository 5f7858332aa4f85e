-- What an instruction reads and writes at most, and how a trap shows: it disables traps and writes cells, and no other
-- instruction does both.
use Rattle.std.proofs.Common.{◌≡◌, ◌∙◌, ◌+◌, ◌-◌, ◌*◌, ◌%◌, ◌<◌, ◌≤◌, ◌==◌, nat_lt, ℕ, Bool, cond, true, false, List, [], ◌∷◌, ◌++◌, length, Option, Some, None, refl, inl, inr, ◌⊎◌, arith, length-append}
use Rattle.std.specs.Prelude.{slice_set, ⊤, All}
use Rattle.std.proofs.lemmas.Bool.{ltb-true}
use Rattle.std.proofs.lemmas.List.Elements.{All-nil, All-cons, All-append}
use Rattle.lf_model.specs.Alternate.{is_plain_space, control_effect}
use Rattle.lf_model.specs.Course.Arrays.{register_cells}
use Rattle.lf_model.specs.Effect.{Site, AccessKind, Access, Effect, with_reads, sum_of_operands, cell_written, changes, operates}
use Rattle.lf_model.specs.Effects.{completed, effect}
use Rattle.lf_model.specs.Instructions.{operand_registers, stored_registers, registers_read, instruction_of}
use Rattle.lf_model.specs.Memory.{mem_effect, output_effect, store_effect}
use Rattle.lf_model.specs.OrdinaryTraps.{ordinary_trap}
use Rattle.lf_model.specs.Run.{site_of, effect_at_pc}
use Rattle.lf_model.specs.Start.{output_word, is_text_word, word_at}
use Rattle.lf_model.specs.State.{State, cell, with_register}
use Rattle.lf_model.specs.Traps.{trap_effect, fetch_trap, unless_trap, handler_window}
use Rattle.lf_model.specs.Windows.{in_window, window_after_save, window_after_restore, window_effect}
use Rattle.lf_model.specs.declared.instruction.Instr.{Instr}
use Rattle.lf_model.specs.declared.instruction.Instr.TheVariants.{Illegal, AltIllegal, FpOff, CpOff, FpQueue, CpQueue, Stbar, Call, Sethi, Bicc, Calc, Ticc, ReadState, ReadAsr, WriteState, WriteAsr, Jmpl, Rett, Flush, Save, Restore, Mem, Alternate}
use Rattle.lf_model.specs.declared.instruction.MemName.{MemName}
use Rattle.lf_model.specs.declared.instruction.MemName.TheVariants.{Ld, Ldub, Lduh, Ldd, St, Stb, Sth, Std, Ldsb, Ldsh, Ldstub, Swap}
use Rattle.lf_model.specs.declared.instruction.Src.{Src}
use Rattle.lf_model.specs.declared.instruction.Src.TheVariants.{Reg, Imm}
use Rattle.lf_model.specs.declared.setup.Setup.{Setup}

-- ---- registers that are read

operands_few : (rs1 : ℕ) (src : Src) → length (operand_registers rs1 src) ≤ 2
operands_few rs1 (Reg n) = omega arith
operands_few rs1 (Imm i) = omega arith

stored_few : (name : MemName) (rd : ℕ) → length (stored_registers name rd) ≤ 2
stored_few St rd = omega arith
stored_few Stb rd = omega arith
stored_few Sth rd = omega arith
stored_few Std rd = omega arith
stored_few Swap rd = omega arith
stored_few Ld rd = omega arith
stored_few Ldub rd = omega arith
stored_few Lduh rd = omega arith
stored_few Ldd rd = omega arith
stored_few Ldsb rd = omega arith
stored_few Ldsh rd = omega arith
stored_few Ldstub rd = omega arith

both_few : (rs1 : ℕ) (src : Src) (name : MemName) (rd : ℕ) → length (operand_registers rs1 src ++ stored_registers name rd) ≤ 4
both_few rs1 src name rd = omega (arith, length-append (operand_registers rs1 src) (stored_registers name rd), operands_few rs1 src, stored_few name rd)

few_read : (i : Instr) → length (registers_read i) ≤ 4
few_read (Calc name rd rs1 src) = omega (arith, operands_few rs1 src)
few_read (Ticc c rs1 src) = omega (arith, operands_few rs1 src)
few_read (WriteState name rs1 src) = omega (arith, operands_few rs1 src)
few_read (WriteAsr rd rs1 src) = omega (arith, operands_few rs1 src)
few_read (Jmpl rd rs1 src) = omega (arith, operands_few rs1 src)
few_read (Rett rs1 src) = omega (arith, operands_few rs1 src)
few_read (Flush rs1 src) = omega (arith, operands_few rs1 src)
few_read (Save rd rs1 src) = omega (arith, operands_few rs1 src)
few_read (Restore rd rs1 src) = omega (arith, operands_few rs1 src)
few_read (Mem name rd rs1 src) = both_few rs1 src name rd
few_read (Alternate name rd rs1 rs2 asi) = both_few rs1 (Reg rs2) name rd
few_read Illegal = omega arith
few_read AltIllegal = omega arith
few_read FpOff = omega arith
few_read CpOff = omega arith
few_read FpQueue = omega arith
few_read CpQueue = omega arith
few_read Stbar = omega arith
few_read (Call disp30) = omega arith
few_read (Sethi rd imm22) = omega arith
few_read (Bicc c a disp22) = omega arith
few_read (ReadState name rd) = omega arith
few_read (ReadAsr rd rs1) = omega arith

-- ---- an instruction that is completed

-- a load stores nothing
abbrev pub LoadsOnly : Option Access → Type 0
LoadsOnly None = ⊤
LoadsOnly (Some x) = x.kind ≡ AccessKind.Load → x.put ≡ 0

record IsPlain (s : State) (e : Effect) : Type 0 where
  trap : e.trap ≡ None
  few : length e.writes ≤ 2
  low : All (λ c. c < register_cells) e.writes
  loads : LoadsOnly e.access
  stays : (e.writes ≡ []) ⊎ ((got : ℕ) → (e.next got).ctl.et ≡ s.ctl.et)

written_few : (s : State) (rd : ℕ) → length (cell_written s rd) ≤ 1
written_few s rd = by (rd == 0)
  where
    by : (b : Bool) → length (cond b [] (cell s.ctl.cwp rd ∷ [])) ≤ 1
    by true = omega arith
    by false = omega arith

-- ---- cells that are written

pub cell_low : (window n : ℕ) → cell window n < register_cells
cell_low window n = by (nat_lt n 8) refl
  where
    by : (b : Bool) → nat_lt n 8 ≡ b → cond b n (8 + (16 * window + n - 8) % 128) < register_cells
    by true is = let low = ltb-true n 8 is in omega (arith, low)
    by false is = omega arith

none_low : All (λ c. c < register_cells) []
none_low = All-nil (λ c. c < register_cells)

one_low : (window n : ℕ) (cells : List ℕ) → All (λ c. c < register_cells) cells → All (λ c. c < register_cells) (cell window n ∷ cells)
one_low window n cells rest = All-cons (λ c. c < register_cells) (cell window n) cells (cell_low window n) rest

written_low : (s : State) (rd : ℕ) → All (λ c. c < register_cells) (cell_written s rd)
written_low s rd = by (rd == 0)
  where
    by : (b : Bool) → All (λ c. c < register_cells) (cond b [] (cell s.ctl.cwp rd ∷ []))
    by true = none_low
    by false = one_low s.ctl.cwp rd [] none_low

enabled_in : (n value : ℕ) (s : State) → (with_register n value s).ctl.et ≡ s.ctl.et
enabled_in n value s = by (n == 0)
  where
    by : (b : Bool) → (cond b s (record s { cells = slice_set s.cells (cell s.ctl.cwp n) value })).ctl.et ≡ s.ctl.et
    by true = refl
    by false = refl

writes_none : (s next : State) → IsPlain s (changes [] next)
writes_none s next = record { trap = refl; few = omega arith; low = none_low; loads = tt; stays = inl refl }

writes_one : (s t next : State) (rd : ℕ) → next.ctl.et ≡ s.ctl.et → IsPlain s (changes (cell_written t rd) next)
writes_one s t next rd same = record { trap = refl; few = omega (arith, written_few t rd); low = written_low t rd; loads = tt; stays = inr (λ got. same) }

loads_one : (s : State) (x : Access) (rd : ℕ) (next : ℕ → State) → LoadsOnly (Some x) → ((got : ℕ) → (next got).ctl.et ≡ s.ctl.et) → IsPlain s (operates x (cell_written s rd) next)
loads_one s x rd next loads same = record { trap = refl; few = omega (arith, written_few s rd); low = written_low s rd; loads = loads; stays = inr same }

loads_two : (s : State) (x : Access) (rd : ℕ) (next : ℕ → State) → LoadsOnly (Some x) → ((got : ℕ) → (next got).ctl.et ≡ s.ctl.et)
    → IsPlain s (operates x (cell_written s rd ++ cell_written s (rd + 1)) next)
loads_two s x rd next loads same = record {
  trap = refl;
  few = omega (arith, length-append (cell_written s rd) (cell_written s (rd + 1)), written_few s rd, written_few s (rd + 1));
  low = All-append (λ c. c < register_cells) (cell_written s rd) (cell_written s (rd + 1)) (written_low s rd) (written_low s (rd + 1));
  loads = loads;
  stays = inr same;
}

stores : (s : State) (x : Access) (next : ℕ → State) → x.kind ≡ AccessKind.Store → IsPlain s (operates x [] next)
stores s x next is = record { trap = refl; few = omega arith; low = none_low; loads = λ other. absurd (cc); stays = inl refl }

output_plain : (s : State) (addr rd : ℕ) (b : Bool) → IsPlain s (cond b (output_effect rd s) (store_effect St addr rd s))
output_plain s addr rd true = writes_none s _
output_plain s addr rd false = stores s _ _ refl

mem_plain : (s : State) (name : MemName) (addr rd : ℕ) → IsPlain s (mem_effect name addr rd s)
mem_plain s St addr rd = output_plain s addr rd (addr == output_word)
mem_plain s Ld addr rd = loads_one s _ rd _ (λ is. refl) (λ got. enabled_in rd got s)
mem_plain s Ldub addr rd = loads_one s _ rd _ (λ is. refl) (λ got. enabled_in rd got s)
mem_plain s Lduh addr rd = loads_one s _ rd _ (λ is. refl) (λ got. enabled_in rd got s)
mem_plain s Ldsb addr rd = loads_one s _ rd _ (λ is. refl) (λ got. enabled_in rd _ s)
mem_plain s Ldsh addr rd = loads_one s _ rd _ (λ is. refl) (λ got. enabled_in rd _ s)
mem_plain s Ldd addr rd = loads_two s _ rd _ (λ is. refl) (λ got. enabled_in (rd + 1) _ (with_register rd _ s) ∙ enabled_in rd _ s)
mem_plain s Stb addr rd = stores s _ _ refl
mem_plain s Sth addr rd = stores s _ _ refl
mem_plain s Std addr rd = stores s _ _ refl
mem_plain s Ldstub addr rd = loads_one s _ rd _ (λ is. absurd (cc)) (λ got. enabled_in rd got s)
mem_plain s Swap addr rd = loads_one s _ rd _ (λ is. absurd (cc)) (λ got. enabled_in rd got s)

control_plain : (s : State) (name : MemName) (rd : ℕ) → IsPlain s (control_effect name rd s)
control_plain s Ld rd = writes_one s s _ rd (enabled_in rd 0 s)
control_plain s St rd = writes_none s _
control_plain s Ldub rd = writes_none s _
control_plain s Lduh rd = writes_none s _
control_plain s Ldd rd = writes_none s _
control_plain s Stb rd = writes_none s _
control_plain s Sth rd = writes_none s _
control_plain s Std rd = writes_none s _
control_plain s Ldsb rd = writes_none s _
control_plain s Ldsh rd = writes_none s _
control_plain s Ldstub rd = writes_none s _
control_plain s Swap rd = writes_none s _

space_plain : (s : State) (name : MemName) (addr rd : ℕ) (b : Bool) → IsPlain s (cond b (mem_effect name addr rd s) (control_effect name rd s))
space_plain s name addr rd true = mem_plain s name addr rd
space_plain s name addr rd false = control_plain s name rd

window_plain : (s : State) (window rd rs1 : ℕ) (src : Src) → IsPlain s (window_effect window rd rs1 src s)
window_plain s window rd rs1 src = writes_one s (in_window window s) _ rd (enabled_in rd (sum_of_operands s rs1 src) (in_window window s))

completed_plain : (site : Site) (s : State) (i : Instr) → IsPlain s (completed site s i)
completed_plain site s (Call disp30) = writes_one s s _ 15 refl
completed_plain site s (Sethi rd imm22) = writes_one s s _ rd (enabled_in rd _ s)
completed_plain site s (Calc name rd rs1 src) = writes_one s s _ rd (enabled_in rd _ _)
completed_plain site s (Jmpl rd rs1 src) = writes_one s s _ rd (enabled_in rd _ s)
completed_plain site s (Save rd rs1 src) = window_plain s (window_after_save s.ctl.cwp) rd rs1 src
completed_plain site s (Restore rd rs1 src) = window_plain s (window_after_restore s.ctl.cwp) rd rs1 src
completed_plain site s (ReadState name rd) = writes_one s s _ rd (enabled_in rd _ s)
completed_plain site s (ReadAsr rd rs1) = writes_one s s _ rd (enabled_in rd _ s)
completed_plain site s (Mem name rd rs1 src) = mem_plain s name (sum_of_operands s rs1 src) rd
completed_plain site s (Alternate name rd rs1 rs2 asi) = space_plain s name (sum_of_operands s rs1 (Reg rs2)) rd (is_plain_space asi)
completed_plain site s Stbar = record { trap = refl; few = omega arith; low = none_low; loads = tt; stays = inl refl }
completed_plain site s (Flush rs1 src) = record { trap = refl; few = omega arith; low = none_low; loads = tt; stays = inl refl }
completed_plain site s (Bicc c a disp22) = writes_none s _
completed_plain site s (WriteState name rs1 src) = writes_none s _
completed_plain site s (Rett rs1 src) = writes_none s _
completed_plain site s (WriteAsr rd rs1 src) = writes_none s _
completed_plain site s (Ticc c rs1 src) = writes_none s _
completed_plain site s Illegal = writes_none s _
completed_plain site s AltIllegal = writes_none s _
completed_plain site s FpOff = writes_none s _
completed_plain site s FpQueue = writes_none s _
completed_plain site s CpOff = writes_none s _
completed_plain site s CpQueue = writes_none s _

-- ---- the instruction at PC

pub record IsFormed (s : State) (e : Effect) : Type 0 where
  pub few_reads : length e.reads ≤ 4
  pub few_writes : length e.writes ≤ 2
  pub low : All (λ c. c < register_cells) e.writes
  pub loads : LoadsOnly e.access
  -- a trap has no barrier; where traps are enabled it writes cells and disables them, and else it writes none
  pub bare : (tt_ : ℕ) → e.trap ≡ Some tt_ → e.barrier ≡ None
  pub enters : (tt_ : ℕ) → e.trap ≡ Some tt_ → s.ctl.et ≡ true → (got : ℕ) → (e.next got).ctl.et ≡ false
  pub saves : (tt_ : ℕ) → e.trap ≡ Some tt_ → s.ctl.et ≡ true → length e.writes ≡ 2
  pub halts : (tt_ : ℕ) → e.trap ≡ Some tt_ → s.ctl.et ≡ false → e.writes ≡ []
  pub stays : e.trap ≡ None → (e.writes ≡ []) ⊎ ((got : ℕ) → (e.next got).ctl.et ≡ s.ctl.et)

two_or_none : (b : Bool) (c d : ℕ) → length (cond b (c ∷ d ∷ []) []) ≤ 2
two_or_none true c d = omega arith
two_or_none false c d = omega arith

two_low : (b : Bool) (window m n : ℕ) → All (λ c. c < register_cells) (cond b (cell window m ∷ cell window n ∷ []) [])
two_low true window m n = one_low window m (cell window n ∷ []) (one_low window n [] none_low)
two_low false window m n = none_low

trap_formed : (s : State) (m : ℕ) (registers : List ℕ) → length registers ≤ 4 → IsFormed s (with_reads registers (trap_effect m s))
trap_formed s m registers few = record {
  few_reads = few;
  few_writes = two_or_none s.ctl.et (cell (handler_window s.ctl.cwp) 17) (cell (handler_window s.ctl.cwp) 18);
  low = two_low s.ctl.et (handler_window s.ctl.cwp) 17 18;
  loads = tt;
  bare = λ tt_ is. refl;
  enters = λ tt_ is on got. rw on refl;
  saves = λ tt_ is on. rw on refl;
  halts = λ tt_ is off. rw off refl;
  stays = λ is. absurd (cc);
}

plain_formed : (s : State) (e : Effect) (registers : List ℕ) → length registers ≤ 4 → IsPlain s e → IsFormed s (with_reads registers e)
plain_formed s e registers few plain = record {
  few_reads = few;
  few_writes = plain.few;
  low = plain.low;
  loads = plain.loads;
  bare = λ tt_ is. absurd (cc);
  enters = λ tt_ is on got. absurd (cc);
  saves = λ tt_ is on. absurd (cc);
  halts = λ tt_ is off. absurd (cc);
  stays = λ is. plain.stays;
}

unless : (site : Site) (s : State) (i : Instr) (trap : Option ℕ) → IsFormed s (unless_trap trap s (with_reads (registers_read i) (completed site s i)))
unless site s i None = plain_formed s (completed site s i) (registers_read i) (few_read i) (completed_plain site s i)
unless site s i (Some m) = trap_formed s m (registers_read i) (few_read i)

of_instruction : (site : Site) (s : State) (i : Instr) → IsFormed s (effect site s i)
unfolding effect
of_instruction site s i = unless site s i (ordinary_trap site s i)

by_text : (setup : Setup) (core : ℕ) (s : State) (is_text : Bool)
    → IsFormed s (cond is_text (effect (site_of setup core) s (instruction_of (word_at setup.image s.ctl.pc))) (fetch_trap s))
by_text setup core s true = of_instruction (site_of setup core) s (instruction_of (word_at setup.image s.ctl.pc))
by_text setup core s false = trap_formed s 0x01 [] (omega arith)

pub formed : (setup : Setup) (core : ℕ) (s : State) → IsFormed s (effect_at_pc setup core s)
unfolding effect_at_pc
formed setup core s = by_text setup core s (is_text_word setup.image.text s.ctl.pc)
