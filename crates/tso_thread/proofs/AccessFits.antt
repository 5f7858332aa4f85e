-- The access that the instruction at PC makes is one to RAM, of 1, 2, 4 or 8 bytes and aligned, and where it stores it touches no text:
-- with another address the instruction traps, and makes none.
use Rattle.std.proofs.Common.{◌≡◌, ◌%◌, ◌≤◌, ◌==◌, ◌&&◌, ◌||◌, ℕ, zero, suc, Bool, not, cond, true, false, List, [], ◌∷◌, Option, Some, None, slice_index_or, refl, sym, subst, arith}
use Rattle.std.proofs.lemmas.Bool.{eqb-true, false≢true}
use Rattle.lf_model.specs.Alternate.{is_plain_space, control_effect}
use Rattle.lf_model.specs.Effect.{Site, AccessKind, Access, with_reads, sum_of_operands}
use Rattle.lf_model.specs.Effects.{completed, effect}
use Rattle.lf_model.specs.Instructions.{instruction_of, registers_read}
use Rattle.lf_model.specs.Memory.{load_refused, store_refused, access_misaligned, access_refused, output_effect, store_effect, mem_effect}
use Rattle.lf_model.specs.OrdinaryTraps.{checks_of, ordinary_trap}
use Rattle.lf_model.specs.Run.{site_of, effect_at_pc}
use Rattle.lf_model.specs.Start.{output_word, is_in_ram, touches_text, is_text_word, word_at}
use Rattle.lf_model.specs.State.{State}
use Rattle.lf_model.specs.Traps.{mem_address_not_aligned, data_access_exception, when, traps_in_order, first_trap, fetch_trap, unless_trap}
use Rattle.lf_model.specs.declared.instruction.Instr.{Instr}
use Rattle.lf_model.specs.declared.instruction.Instr.TheVariants.{Illegal, AltIllegal, FpOff, CpOff, FpQueue, CpQueue, Stbar, Call, Sethi, Bicc, Calc, Ticc, ReadState, ReadAsr, WriteState, WriteAsr, Jmpl, Rett, Flush, Save, Restore, Mem, Alternate}
use Rattle.lf_model.specs.declared.instruction.MemName.{MemName}
use Rattle.lf_model.specs.declared.instruction.MemName.TheVariants.{Ld, Ldub, Lduh, Ldd, St, Stb, Sth, Std, Ldsb, Ldsh, Ldstub, Swap}
use Rattle.lf_model.specs.declared.instruction.Src.TheVariants.{Reg}
use Rattle.lf_model.specs.declared.setup.Setup.{Setup}
use Rattle.lf_model.specs.declared.trap.Checks.{Checks}
use Rattle.v8_exec.proofs.AtomicLemmas.{control_effect-access}
use Rattle.v8_exec.specs.Reading.{is_access_size, IsAccess}

-- the access stores
abbrev pub Stores : AccessKind → Bool
Stores AccessKind.Load = false
Stores AccessKind.Store = true
Stores AccessKind.Atomic = true

pub record FitsAt (site : Site) (x : Access) : Type 0 where
  pub access : IsAccess site x.addr x.len
  pub text : Stores x.kind ≡ true → touches_text site.image.text x.addr x.len ≡ false

-- the access that an effect makes, if it makes one
abbrev pub Fits : Site → Option Access → Type 0
Fits site None = Unit {0}
Fits site (Some x) = FitsAt site x

-- ---- one access

not_false : (b : Bool) → not b ≡ false → b ≡ true
not_false true is = refl
not_false false is = absurd (false≢true (sym is))

or_parts : (a b : Bool) → (a || b) ≡ false → (a ≡ false) × (b ≡ false)
or_parts false b is = (refl, is)
or_parts true b is = absurd (false≢true (sym is))

module _ (site : Site) (addr len put rd : ℕ) (size : is_access_size len ≡ true) (short : len ≤ 8) (aligned : not (addr % len == 0) ≡ false) where
  in_place : is_in_ram site.ram addr len ≡ true → IsAccess site addr len
  in_place within = record { size = size; short = short; aligned = eqb-true (addr % len) 0 (not_false (addr % len == 0) aligned); within = within }

  load_fits : load_refused site addr len ≡ false → FitsAt site (record { kind = AccessKind.Load; addr = addr; len = len; put = put; rd = rd })
  load_fits refused = record {
    access = in_place (not_false (is_in_ram site.ram addr len) refused);
    text = λ stores. absurd (false≢true stores);
  }

  stored_fits : (kind : AccessKind) → store_refused site addr len ≡ false → FitsAt site (record { kind = kind; addr = addr; len = len; put = put; rd = rd })
  stored_fits kind refused =
      let parts = or_parts (touches_text site.image.text addr len) (not (is_in_ram site.ram addr len)) refused in
      record { access = in_place (not_false (is_in_ram site.ram addr len) parts.1); text = λ stores. parts.0 }

  atomic_fits : (load_refused site addr len || store_refused site addr len) ≡ false → FitsAt site (record { kind = AccessKind.Atomic; addr = addr; len = len; put = put; rd = rd })
  atomic_fits refused = stored_fits AccessKind.Atomic (or_parts (load_refused site addr len) (store_refused site addr len) refused).1

-- ---- loads, stores and atomics

module _ (site : Site) (s : State) (addr rd : ℕ) where
  word_fits : (is_output : Bool) → access_misaligned St addr ≡ false → (not is_output && store_refused site addr 4) ≡ false
      → Fits site (cond is_output (output_effect rd s) (store_effect St addr rd s)).access
  word_fits true aligned refused = tt
  word_fits false aligned refused = stored_fits site addr 4 _ 0 refl (omega arith) aligned AccessKind.Store refused

  mem_fits : (name : MemName) → access_misaligned name addr ≡ false → access_refused site name addr ≡ false → Fits site (mem_effect name addr rd s).access
  mem_fits St aligned refused = word_fits (addr == output_word) aligned refused
  mem_fits Stb aligned refused = stored_fits site addr 1 _ 0 refl (omega arith) aligned AccessKind.Store refused
  mem_fits Sth aligned refused = stored_fits site addr 2 _ 0 refl (omega arith) aligned AccessKind.Store refused
  mem_fits Std aligned refused = stored_fits site addr 8 _ 0 refl (omega arith) aligned AccessKind.Store refused
  mem_fits Ldstub aligned refused = atomic_fits site addr 1 _ rd refl (omega arith) aligned refused
  mem_fits Swap aligned refused = atomic_fits site addr 4 _ rd refl (omega arith) aligned refused
  mem_fits Ld aligned refused = load_fits site addr 4 0 rd refl (omega arith) aligned refused
  mem_fits Ldub aligned refused = load_fits site addr 1 0 rd refl (omega arith) aligned refused
  mem_fits Ldsb aligned refused = load_fits site addr 1 0 rd refl (omega arith) aligned refused
  mem_fits Lduh aligned refused = load_fits site addr 2 0 rd refl (omega arith) aligned refused
  mem_fits Ldsh aligned refused = load_fits site addr 2 0 rd refl (omega arith) aligned refused
  mem_fits Ldd aligned refused = load_fits site addr 8 0 rd refl (omega arith) aligned refused

  none_fits : (access : Option Access) → access ≡ None → Fits site access
  none_fits access is = rw is tt

  -- an alternate form, in a plain space or another
  space_fits : (name : MemName) (plain : Bool) (other : Bool) → access_misaligned name addr ≡ false → cond plain (access_refused site name addr) other ≡ false
      → Fits site (cond plain (mem_effect name addr rd s) (control_effect name rd s)).access
  space_fits name true other aligned refused = mem_fits name aligned refused
  space_fits name false other aligned refused = none_fits (control_effect name rd s).access (control_effect-access name rd s)

-- ---- no trap

-- where there is none, none of them is there
none_at : (traps : List (Option ℕ)) (n : ℕ) → first_trap traps ≡ None → slice_index_or traps n None ≡ None
none_at [] zero is = refl
none_at [] (suc n) is = refl
none_at (None ∷ traps) zero is = refl
none_at (None ∷ traps) (suc n) is = none_at traps n is
none_at (Some tt_ ∷ traps) n is = absurd cc

not_when : (test : Bool) (tt_ : ℕ) → when test tt_ ≡ None → test ≡ false
not_when false tt_ is = refl
not_when true tt_ is = absurd cc

record NoAddressTrap (c : Checks) : Type 0 where
  align : c.align ≡ false
  access : c.access ≡ false

no_address_trap : (c : Checks) → first_trap (traps_in_order c) ≡ None → NoAddressTrap c
no_address_trap c is = record {
  align = not_when c.align mem_address_not_aligned (none_at (traps_in_order c) 7 is);
  access = not_when c.access data_access_exception (none_at (traps_in_order c) 8 is);
}

-- ---- the instruction at PC

module _ (site : Site) (s : State) where
  completed_fits : (i : Instr) → NoAddressTrap (checks_of site s i) → Fits site (completed site s i).access
  completed_fits (Mem name rd rs1 src) none = mem_fits site s (sum_of_operands s rs1 src) rd name none.align none.access
  completed_fits (Alternate name rd rs1 rs2 asi) none = space_fits site s (sum_of_operands s rs1 (Reg rs2)) rd name (is_plain_space asi) _ none.align none.access
  completed_fits Illegal none = tt
  completed_fits AltIllegal none = tt
  completed_fits FpOff none = tt
  completed_fits CpOff none = tt
  completed_fits FpQueue none = tt
  completed_fits CpQueue none = tt
  completed_fits Stbar none = tt
  completed_fits (Call disp30) none = tt
  completed_fits (Sethi rd imm22) none = tt
  completed_fits (Bicc c a disp22) none = tt
  completed_fits (Calc name rd rs1 src) none = tt
  completed_fits (Ticc c rs1 src) none = tt
  completed_fits (ReadState name rd) none = tt
  completed_fits (ReadAsr rd rs1) none = tt
  completed_fits (WriteState name rs1 src) none = tt
  completed_fits (WriteAsr rd rs1 src) none = tt
  completed_fits (Jmpl rd rs1 src) none = tt
  completed_fits (Rett rs1 src) none = tt
  completed_fits (Flush rs1 src) none = tt
  completed_fits (Save rd rs1 src) none = tt
  completed_fits (Restore rd rs1 src) none = tt

  unless_fits : (i : Instr) (trap : Option ℕ) → ordinary_trap site s i ≡ trap → Fits site (unless_trap trap s (with_reads (registers_read i) (completed site s i))).access
  unless_fits i None is = completed_fits i (no_address_trap (checks_of site s i) is)
  unless_fits i (Some tt_) is = tt

  effect_fits : (i : Instr) → Fits site (effect site s i).access
  unfolding effect
  effect_fits i = unless_fits i (ordinary_trap site s i) refl

module _ (setup : Setup) (core : ℕ) (s : State) where
  by_text : (is_text : Bool) → Fits (site_of setup core) (cond is_text (effect (site_of setup core) s (instruction_of (word_at setup.image s.ctl.pc))) (fetch_trap s)).access
  by_text true = effect_fits (site_of setup core) s (instruction_of (word_at setup.image s.ctl.pc))
  by_text false = tt

  pub effect_at_pc_fits : Fits (site_of setup core) (effect_at_pc setup core s).access
  unfolding effect_at_pc
  effect_at_pc_fits = by_text (is_text_word setup.image.text s.ctl.pc)

  pub access_there : (x : Access) → (effect_at_pc setup core s).access ≡ Some x → FitsAt (site_of setup core) x
  access_there x is = subst (Fits (site_of setup core)) is effect_at_pc_fits

  -- the access of the effect at PC is aligned, and in RAM
  pub access_fits : (x : Access) → (effect_at_pc setup core s).access ≡ Some x → IsAccess (site_of setup core) x.addr x.len
  access_fits x is = (access_there x is).access
