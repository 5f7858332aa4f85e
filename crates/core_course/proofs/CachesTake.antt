-- The access that the instruction at PC makes is one that the caches take: 1, 2, 4 or 8 bytes at a multiple of their number, at an
-- address of 32 bits.
use Rattle.std.proofs.Common.{◌≡◌, ◌+◌, ◌%◌, ◌<◌, ◌==◌, ◌^◌, ℕ, Bool, cond, true, false, [], ◌∷◌, Option, Some, None, refl, sym, subst, arith, inl, inr}
use Rattle.std.proofs.lemmas.Bool.Decides.{nat_tests}
use Rattle.std.proofs.lemmas.Bool.{cases_eq}
use Rattle.std.specs.Prelude.{Contains}
use Rattle.core_steps.proofs.AccessFits.{access_fits}
use Rattle.lf_model.specs.Alternate.{is_plain_space, control_effect}
use Rattle.lf_model.specs.Effect.{Site, Access, with_reads, sum_of_operands}
use Rattle.lf_model.specs.Effects.{completed, effect}
use Rattle.lf_model.specs.Instructions.{instruction_of, registers_read}
use Rattle.lf_model.specs.Memory.{output_effect, store_effect, mem_effect}
use Rattle.lf_model.specs.OrdinaryTraps.{ordinary_trap}
use Rattle.lf_model.specs.Run.{site_of, effect_at_pc}
use Rattle.lf_model.specs.Start.{output_word, is_text_word, word_at}
use Rattle.lf_model.specs.State.{State, register, operand}
use Rattle.lf_model.specs.Traps.{fetch_trap, unless_trap}
use Rattle.lf_model.specs.declared.instruction.Instr.{Instr}
use Rattle.lf_model.specs.declared.instruction.Instr.TheVariants.{Illegal, AltIllegal, FpOff, CpOff, FpQueue, CpQueue, Stbar, Call, Sethi, Bicc, Calc, Ticc, ReadState, ReadAsr, WriteState, WriteAsr, Jmpl, Rett, Flush, Save, Restore, Mem, Alternate}
use Rattle.lf_model.specs.declared.instruction.MemName.{MemName}
use Rattle.lf_model.specs.declared.instruction.MemName.TheVariants.{Ld, Ldub, Lduh, Ldd, St, Stb, Sth, Std, Ldsb, Ldsh, Ldstub, Swap}
use Rattle.lf_model.specs.declared.instruction.Src.{Src}
use Rattle.lf_model.specs.declared.instruction.Src.TheVariants.{Reg}
use Rattle.lf_model.specs.declared.setup.Setup.{Setup}
use Rattle.parity_slots.specs.SlotState.{IsAccess}
use Rattle.v8_exec.proofs.AtomicLemmas.{control_effect-access}
use Rattle.v8_exec.specs.Reading.{is_access_size}

-- the access that an effect makes, if it makes one, has an address of 32 bits
abbrev pub IsLow : Option Access → Type 0
IsLow None = Unit {0}
IsLow (Some x) = x.addr < 2 ^ 32

sum_low : (s : State) (rs1 : ℕ) (src : Src) → sum_of_operands s rs1 src < 2 ^ 32
sum_low s rs1 src = of_sum (register s rs1) (operand s src)
  where
    of_sum : (a b : ℕ) → (a + b + 0) % 2 ^ 32 < 2 ^ 32
    of_sum a b = omega arith

module _ (s : State) (addr rd : ℕ) (low : addr < 2 ^ 32) where
  word_low : (is_output : Bool) → IsLow (cond is_output (output_effect rd s) (store_effect St addr rd s)).access
  word_low true = tt
  word_low false = low

  mem_low : (name : MemName) → IsLow (mem_effect name addr rd s).access
  mem_low St = word_low (addr == output_word)
  mem_low Stb = low
  mem_low Sth = low
  mem_low Std = low
  mem_low Ldstub = low
  mem_low Swap = low
  mem_low Ld = low
  mem_low Ldub = low
  mem_low Lduh = low
  mem_low Ldsb = low
  mem_low Ldsh = low
  mem_low Ldd = low

  space_low : (name : MemName) (is_plain : Bool) → IsLow (cond is_plain (mem_effect name addr rd s) (control_effect name rd s)).access
  space_low name true = mem_low name
  space_low name false = subst IsLow (sym (control_effect-access name rd s)) tt

module _ (site : Site) (s : State) where
  completed_low : (i : Instr) → IsLow (completed site s i).access
  completed_low (Mem name rd rs1 src) = mem_low s (sum_of_operands s rs1 src) rd (sum_low s rs1 src) name
  completed_low (Alternate name rd rs1 rs2 asi) = space_low s (sum_of_operands s rs1 (Reg rs2)) rd (sum_low s rs1 (Reg rs2)) name (is_plain_space asi)
  completed_low Illegal = tt
  completed_low AltIllegal = tt
  completed_low FpOff = tt
  completed_low CpOff = tt
  completed_low FpQueue = tt
  completed_low CpQueue = tt
  completed_low Stbar = tt
  completed_low (Call disp30) = tt
  completed_low (Sethi rd imm22) = tt
  completed_low (Bicc c a disp22) = tt
  completed_low (Calc name rd rs1 src) = tt
  completed_low (Ticc c rs1 src) = tt
  completed_low (ReadState name rd) = tt
  completed_low (ReadAsr rd rs1) = tt
  completed_low (WriteState name rs1 src) = tt
  completed_low (WriteAsr rd rs1 src) = tt
  completed_low (Jmpl rd rs1 src) = tt
  completed_low (Rett rs1 src) = tt
  completed_low (Flush rs1 src) = tt
  completed_low (Save rd rs1 src) = tt
  completed_low (Restore rd rs1 src) = tt

  unless_low : (i : Instr) (trap : Option ℕ) → IsLow (unless_trap trap s (with_reads (registers_read i) (completed site s i))).access
  unless_low i None = completed_low i
  unless_low i (Some tt_) = tt

  effect_low : (i : Instr) → IsLow (effect site s i).access
  unfolding effect
  effect_low i = unless_low i (ordinary_trap site s i)

-- ---- the size

size_is : (len : ℕ) → is_access_size len ≡ true → Contains (1 ∷ 2 ∷ 4 ∷ 8 ∷ []) len
size_is len is = elim (cases_eq len 1) [
  | inl one ↦ (0, omega arith, sym one)
  | inr no_one ↦ elim (cases_eq len 2) [
    | inl two ↦ (1, omega arith, sym two)
    | inr no_two ↦ elim (cases_eq len 4) [
      | inl four ↦ (2, omega arith, sym four)
      | inr no_four ↦ let eight : len ≡ 8 = grind (arith, nat_tests) in (3, omega arith, sym eight)
    ]
  ]
]

-- ---- the instruction at PC

pub record FitsCaches (x : Access) : Type 0 where
  pub access : IsAccess x.addr x.len
  pub low : x.addr < 2 ^ 32

module _ (setup : Setup) (core : ℕ) (s : State) where
  by_text : (is_text : Bool) → IsLow (cond is_text (effect (site_of setup core) s (instruction_of (word_at setup.image s.ctl.pc))) (fetch_trap s)).access
  by_text true = effect_low (site_of setup core) s (instruction_of (word_at setup.image s.ctl.pc))
  by_text false = tt

  low_at_pc : IsLow (effect_at_pc setup core s).access
  unfolding effect_at_pc
  low_at_pc = by_text (is_text_word setup.image.text s.ctl.pc)

  pub caches_take : (x : Access) → (effect_at_pc setup core s).access ≡ Some x → FitsCaches x
  caches_take x is =
      let fits = access_fits setup core s x is in
      record { access = record { size = size_is x.len fits.size; aligned = fits.aligned }; low = subst IsLow is low_at_pc }
