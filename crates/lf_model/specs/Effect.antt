-- The effect of one instruction on its core, without error traps (SPARC V8, appendix B, instruction definitions).
use Rattle.std.specs.Prelude.{ℕ, ◌==◌, List, [], ◌∷◌, Option, Some, None, if◌then◌else◌}
use Rattle.lf_num.specs.Arithmetic.{word_sum}
use Rattle.lf_model.specs.State.{State, cell, register, operand, with_register, advanced}
use Rattle.lf_model.specs.declared.image.Image.{Image}
use Rattle.lf_model.specs.declared.bus.Why.{Why}
use Rattle.lf_model.specs.declared.bus.OpKind.{OpKind}
use Rattle.lf_model.specs.declared.bus.OpKind.TheVariants as kinds
use Rattle.lf_model.specs.declared.instruction.Src.{Src}

-- where an instruction runs: the core's number, the image, and how many bytes RAM has
pub record Site : Type 0 where
  pub core : ℕ
  pub image : Image
  pub ram : ℕ

-- what an instruction asks of memory
pub data AccessKind : Type 0 where
  Load : AccessKind
  Store : AccessKind
  Atomic : AccessKind

-- the kind of the operation that an access makes
abbrev pub operation_kind : AccessKind → OpKind
operation_kind Load = kinds.Load
operation_kind Store = kinds.Store
operation_kind Atomic = kinds.Atomic

-- a memory operation that an instruction asks for: its kind, its address and length in bytes, the number that it stores
-- (0 for a load) and the register that gets what it reads (0 for a store)
pub record Access : Type 0 where
  pub kind : AccessKind
  pub addr : ℕ
  pub len : ℕ
  pub put : ℕ
  pub rd : ℕ

-- reads: the registers read, in order; trap: the ordinary trap taken; access: the memory operation; barrier: STBAR
-- or FLUSH; writes: the register cells written, in order; next: the next state, by the number that the operation reads
pub record Effect : Type 0 where
  pub reads : List ℕ
  pub trap : Option ℕ
  pub access : Option Access
  pub barrier : Option Why
  pub writes : List ℕ
  pub next : ℕ → State

-- the cell of a register that is written; register 0 has none
abbrev pub cell_written : State → ℕ → List ℕ
cell_written s rd = if rd == 0 then [] else cell s.ctl.cwp rd ∷ []

-- the sum of the operands: the address of a load or store, the target of JMPL, and the number of a software trap
abbrev pub sum_of_operands : State → ℕ → Src → ℕ
sum_of_operands s rs1 src = word_sum (register s rs1) (operand s src) 0

-- the effect of an instruction that reads these registers
abbrev pub with_reads : List ℕ → Effect → Effect
with_reads registers e = record e { reads = registers }

-- ---- effects without the registers read, which are set where the effects of all instructions are joined

-- no trap, no operation and no barrier: these cells are written, and this is the next state
abbrev pub changes : List ℕ → State → Effect
changes cells next = record {
  reads = [];
  trap = None;
  access = None;
  barrier = None;
  writes = cells;
  next = λ _. next;
}

-- this memory operation, and no trap and no barrier: the next state is by the number that the operation reads
abbrev pub operates : Access → List ℕ → (ℕ → State) → Effect
operates access cells next = record {
  reads = [];
  trap = None;
  access = Some access;
  barrier = None;
  writes = cells;
  next = next;
}

-- nothing but PC and nPC changes
abbrev pub advances : State → Effect
advances s = changes [] (advanced s)

-- a value goes to register rd
abbrev pub sets : ℕ → ℕ → State → Effect
sets rd value s = changes (cell_written s rd) (advanced (with_register rd value s))
