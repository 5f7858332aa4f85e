-- No step needs a turn for the schedule: that cause is only of a drain that a schedule's event asks for.
use Rattle.std.proofs.Common.{◌≡◌, ◌==◌, ℕ, Bool, true, false, nat_le, List, Option, Some, None, refl, subst, inl, inr, if◌then◌else◌}
use Rattle.std.proofs.lemmas.Bool.{cases_Bool}
use Rattle.core_parts.specs.Moves.{tried_at}
use Rattle.core_parts.specs.Needs.{why_of}
use Rattle.lf_model.specs.Alternate.{is_plain_space, control_effect}
use Rattle.lf_model.specs.Caches.Cache.{Cache, slot_at, matching}
use Rattle.lf_model.specs.Caches.Look.{Checked, LookUp, checked, look_in, look_by, look}
use Rattle.lf_model.specs.Caches.Look.LookUp.{Hit, Miss}
use Rattle.lf_model.specs.Caches.Slot.{has_wanted_words, has_struck_byte}
use Rattle.lf_model.specs.Course.Arrays.{Arrays, begun, CellsRead, cells_of, read_cells}
use Rattle.lf_model.specs.Course.Attempt.{load_outcome, access_attempt, barrier_attempt, operation_attempt, trap_attempt, register_attempt, fetch_attempt, attempt}
use Rattle.lf_model.specs.Course.Core.{Ground}
use Rattle.lf_model.specs.Course.Outcome.{Outcome, Need, drains, trap_needs, step_needs}
use Rattle.lf_model.specs.Course.Outcome.Need.{NoTurn, Turn, RegisterStop}
use Rattle.lf_model.specs.Course.Outcome.Outcome.{NotTried, NoText, FetchMiss, BadRegister, OrdinaryTrap, LoadMiss, LoadHit, Store, Atomic, Barrier, Other}
use Rattle.lf_model.specs.Course.Progress.{Progress, store_waits, buffer_full, next_needs}
use Rattle.lf_model.specs.Effect.{AccessKind, Access, Site, Effect, sum_of_operands, with_reads}
use Rattle.lf_model.specs.Effects.{completed, effect}
use Rattle.lf_model.specs.Flips.{Moment}
use Rattle.lf_model.specs.Instructions.{instruction_of, registers_read}
use Rattle.lf_model.specs.Memory.{mem_effect, output_effect, store_effect}
use Rattle.lf_model.specs.Names.{same_why}
use Rattle.lf_model.specs.OrdinaryTraps.{ordinary_trap}
use Rattle.lf_model.specs.Records.OwnTurns.{next_effect}
use Rattle.lf_model.specs.Run.{site_of, effect_at_pc}
use Rattle.lf_model.specs.Start.{output_word, is_text_word, word_at}
use Rattle.lf_model.specs.State.{State}
use Rattle.lf_model.specs.Traps.{unless_trap, fetch_trap}
use Rattle.lf_model.specs.declared.bus.TurnKind.{TurnKind}
use Rattle.lf_model.specs.declared.bus.TurnKind.TheVariants as kinds
use Rattle.lf_model.specs.declared.bus.Why.{Why}
use Rattle.lf_model.specs.declared.bus.Why.TheVariants as whys
use Rattle.lf_model.specs.declared.image.Image.{Image}
use Rattle.lf_model.specs.declared.instruction.Instr.{Instr}
use Rattle.lf_model.specs.declared.instruction.Instr.TheVariants.{Illegal, AltIllegal, FpOff, CpOff, FpQueue, CpQueue, Stbar, Call, Sethi, Bicc, Calc, Ticc, ReadState, ReadAsr, WriteState, WriteAsr, Jmpl, Rett, Flush, Save, Restore, Mem, Alternate}
use Rattle.lf_model.specs.declared.instruction.MemName.{MemName}
use Rattle.lf_model.specs.declared.instruction.MemName.TheVariants.{Ld, Ldub, Lduh, Ldd, St, Stb, Sth, Std, Ldsb, Ldsh, Ldstub, Swap}
use Rattle.lf_model.specs.declared.instruction.Src.TheVariants.{Reg}
use Rattle.lf_model.specs.declared.setup.Setup.{Setup}
use Rattle.lf_model.specs.declared.step.Did.TheVariants as answers
use Rattle.lf_model.specs.declared.step.Turn.{Turn as TurnAsked}
use Rattle.v8_exec.specs.CourseParts.{load_turn, atomic_turn, turn_asked, retired_or_halted, did_by}

abbrev pub IsUnscheduled : Why → Type 0
IsUnscheduled why = same_why why whys.Sched ≡ false

-- ---- effects

abbrev HasUnscheduled : Option Why → Type 0
HasUnscheduled None = Unit {0}
HasUnscheduled (Some why) = IsUnscheduled why

either_effect : (b : Bool) (e f : Effect) → HasUnscheduled e.barrier → HasUnscheduled f.barrier → HasUnscheduled (if b then e else f).barrier
either_effect true e f h k = h
either_effect false e f h k = k

module _ (s : State) where
  memory_barrier : (name : MemName) (addr rd : ℕ) → HasUnscheduled (mem_effect name addr rd s).barrier
  memory_barrier St addr rd = either_effect (addr == output_word) (output_effect rd s) (store_effect St addr rd s) tt tt
  memory_barrier Ldd addr rd = tt
  memory_barrier Ld addr rd = tt
  memory_barrier Ldub addr rd = tt
  memory_barrier Lduh addr rd = tt
  memory_barrier Ldsb addr rd = tt
  memory_barrier Ldsh addr rd = tt
  memory_barrier Stb addr rd = tt
  memory_barrier Sth addr rd = tt
  memory_barrier Std addr rd = tt
  memory_barrier Ldstub addr rd = tt
  memory_barrier Swap addr rd = tt

  control_barrier : (name : MemName) (rd : ℕ) → HasUnscheduled (control_effect name rd s).barrier
  control_barrier Ld rd = tt
  control_barrier Ldub rd = tt
  control_barrier Lduh rd = tt
  control_barrier Ldd rd = tt
  control_barrier St rd = tt
  control_barrier Stb rd = tt
  control_barrier Sth rd = tt
  control_barrier Std rd = tt
  control_barrier Ldsb rd = tt
  control_barrier Ldsh rd = tt
  control_barrier Ldstub rd = tt
  control_barrier Swap rd = tt

  completed_barrier : (site : Site) (i : Instr) → HasUnscheduled (completed site s i).barrier
  completed_barrier site (Mem name rd rs1 src) = memory_barrier name (sum_of_operands s rs1 src) rd
  completed_barrier site (Alternate name rd rs1 rs2 asi) =
      let addr = sum_of_operands s rs1 (Reg rs2) in
      either_effect (is_plain_space asi) (mem_effect name addr rd s) (control_effect name rd s) (memory_barrier name addr rd) (control_barrier name rd)
  completed_barrier site Stbar = refl
  completed_barrier site (Flush rs1 src) = refl
  completed_barrier site (Call disp30) = tt
  completed_barrier site (Jmpl rd rs1 src) = tt
  completed_barrier site (Rett rs1 src) = tt
  completed_barrier site (Bicc cond a disp22) = tt
  completed_barrier site (Calc name rd rs1 src) = tt
  completed_barrier site (Save rd rs1 src) = tt
  completed_barrier site (Restore rd rs1 src) = tt
  completed_barrier site (WriteState name rs1 src) = tt
  completed_barrier site (Sethi rd imm22) = tt
  completed_barrier site (ReadState name rd) = tt
  completed_barrier site (ReadAsr rd rs1) = tt
  completed_barrier site (WriteAsr rd rs1 src) = tt
  completed_barrier site (Ticc cond rs1 src) = tt
  completed_barrier site Illegal = tt
  completed_barrier site AltIllegal = tt
  completed_barrier site FpOff = tt
  completed_barrier site FpQueue = tt
  completed_barrier site CpOff = tt
  completed_barrier site CpQueue = tt

  unless_barrier : (trap : Option ℕ) (e : Effect) → HasUnscheduled e.barrier → HasUnscheduled (unless_trap trap s e).barrier
  unless_barrier None e h = h
  unless_barrier (Some tt_) e h = tt

  effect_barrier : (site : Site) (i : Instr) → HasUnscheduled (effect site s i).barrier
  unfolding effect
  effect_barrier site i = unless_barrier (ordinary_trap site s i) (with_reads (registers_read i) (completed site s i)) (completed_barrier site i)

  barrier_at_pc : (setup : Setup) (core : ℕ) → HasUnscheduled (effect_at_pc setup core s).barrier
  unfolding effect_at_pc
  barrier_at_pc setup core =
      let i = instruction_of (word_at setup.image s.ctl.pc) in
      either_effect (is_text_word setup.image.text s.ctl.pc) (effect (site_of setup core) s i) (fetch_trap s) (effect_barrier (site_of setup core) i) tt

-- ---- look-ups

abbrev AnswersUnscheduled : LookUp → Type 0
AnswersUnscheduled (Hit slot) = Unit {0}
AnswersUnscheduled (Miss why) = IsUnscheduled why

dropped_unscheduled : (dropped : Bool) → IsUnscheduled (if dropped then whys.Tag else whys.Absent)
dropped_unscheduled true = refl
dropped_unscheduled false = refl

look_in_unscheduled : (addr len i : ℕ) (cache : Cache) → AnswersUnscheduled (look_in addr len i cache).answer
look_in_unscheduled addr len i cache = by (has_wanted_words addr len (slot_at i cache)) (has_struck_byte addr len (slot_at i cache)) refl refl
  where
    by : (wanted struck : Bool) → has_wanted_words addr len (slot_at i cache) ≡ wanted → has_struck_byte addr len (slot_at i cache) ≡ struck → AnswersUnscheduled (look_in addr len i cache).answer
    by false struck is is' = rw is refl
    by true true is is' = rw (is, is') refl
    by true false is is' = rw (is, is') tt

look_by_unscheduled : (addr len : ℕ) (k : Checked) (slot : Option ℕ) → AnswersUnscheduled (look_by addr len k slot).answer
look_by_unscheduled addr len k (Some i) = look_in_unscheduled addr len i k.cache
look_by_unscheduled addr len k None = dropped_unscheduled k.dropped

look_unscheduled : (addr len : ℕ) (cache : Cache) → AnswersUnscheduled (look addr len cache).answer
unfolding look
look_unscheduled addr len cache = look_by_unscheduled addr len (checked addr cache) (matching addr (checked addr cache).cache)

-- ---- what an instruction comes to

abbrev ComesUnscheduled : Outcome → Type 0
ComesUnscheduled NotTried = Unit {0}
ComesUnscheduled NoText = Unit {0}
ComesUnscheduled (FetchMiss why) = IsUnscheduled why
ComesUnscheduled (BadRegister cell) = Unit {0}
ComesUnscheduled OrdinaryTrap = Unit {0}
ComesUnscheduled (LoadMiss why) = IsUnscheduled why
ComesUnscheduled (LoadHit slot) = Unit {0}
ComesUnscheduled Store = Unit {0}
ComesUnscheduled Atomic = Unit {0}
ComesUnscheduled (Barrier why) = IsUnscheduled why
ComesUnscheduled Other = Unit {0}

load_unscheduled : (answer : LookUp) → AnswersUnscheduled answer → ComesUnscheduled (load_outcome answer)
load_unscheduled (Hit slot) h = tt
load_unscheduled (Miss why) h = h

access_unscheduled : (x : Access) (a : Arrays) (kind : AccessKind) → ComesUnscheduled (access_attempt x a kind).outcome
access_unscheduled x a AccessKind.Load = load_unscheduled (look x.addr x.len a.data_cache).answer (look_unscheduled x.addr x.len a.data_cache)
access_unscheduled x a AccessKind.Store = tt
access_unscheduled x a AccessKind.Atomic = tt

barrier_unscheduled : (a : Arrays) (barrier : Option Why) → HasUnscheduled barrier → ComesUnscheduled (barrier_attempt a barrier).outcome
barrier_unscheduled a None h = tt
barrier_unscheduled a (Some why) h = h

module _ (e : Effect) (h : HasUnscheduled e.barrier) where
  operation_unscheduled : (a : Arrays) (access : Option Access) → ComesUnscheduled (operation_attempt e a access).outcome
  operation_unscheduled a None = barrier_unscheduled a e.barrier h
  operation_unscheduled a (Some x) = access_unscheduled x a x.kind

  trap_unscheduled : (a : Arrays) (trap : Option ℕ) → ComesUnscheduled (trap_attempt e a trap).outcome
  trap_unscheduled a None = operation_unscheduled a e.access
  trap_unscheduled a (Some tt_) = tt

  register_unscheduled : (a : Arrays) (bad : Option ℕ) → ComesUnscheduled (register_attempt e a bad).outcome
  register_unscheduled a None = trap_unscheduled a e.trap
  register_unscheduled a (Some cell) = tt

  fetch_unscheduled : (s : State) (a : Arrays) (answer : LookUp) → AnswersUnscheduled answer → ComesUnscheduled (fetch_attempt s e a answer).outcome
  fetch_unscheduled s a (Miss why) k = k
  fetch_unscheduled s a (Hit slot) k = let r : CellsRead = read_cells (cells_of s.ctl.cwp e.reads) a.cells in register_unscheduled (record a { cells = r.cells }) r.bad

  attempt_unscheduled : (image : Image) (s : State) (a : Arrays) → ComesUnscheduled (attempt image s e a).outcome
  unfolding attempt
  attempt_unscheduled image s a = elim (cases_Bool (is_text_word image.text s.ctl.pc)) [
    | inl text ↦ rw text (fetch_unscheduled s (record a { fetch_cache = (look s.ctl.pc 4 a.fetch_cache).cache }) (look s.ctl.pc 4 a.fetch_cache).answer (look_unscheduled s.ctl.pc 4 a.fetch_cache))
    | inr no_text ↦ rw no_text tt
  ]

-- ---- what its step needs

abbrev pub NeedsUnscheduled : Need → Type 0
NeedsUnscheduled NoTurn = Unit {0}
NeedsUnscheduled (Turn kind why) = IsUnscheduled why
NeedsUnscheduled (RegisterStop cell) = Unit {0}

drains_unscheduled : (waits : Bool) (why : Why) (need : Need) → IsUnscheduled why → NeedsUnscheduled need → NeedsUnscheduled (drains waits why need)
drains_unscheduled true why need h k = h
drains_unscheduled false why need h k = k

trap_needs_unscheduled : (et waits : Bool) → NeedsUnscheduled (trap_needs et waits)
trap_needs_unscheduled true waits = tt
trap_needs_unscheduled false waits = drains_unscheduled waits whys.End NoTurn refl tt

step_unscheduled : (over et waits full : Bool) (outcome : Outcome) → ComesUnscheduled outcome → NeedsUnscheduled (step_needs over et waits full outcome)
step_unscheduled true et waits full outcome h = drains_unscheduled waits whys.Window _ refl refl
step_unscheduled false et waits full NotTried h = tt
step_unscheduled false et waits full NoText h = trap_needs_unscheduled et waits
step_unscheduled false et waits full (FetchMiss why) h = drains_unscheduled waits whys.Miss _ refl h
step_unscheduled false et waits full (BadRegister cell) h = drains_unscheduled waits whys.End (RegisterStop cell) refl tt
step_unscheduled false et waits full OrdinaryTrap h = trap_needs_unscheduled et waits
step_unscheduled false et waits full (LoadMiss why) h = drains_unscheduled waits whys.Miss _ refl h
step_unscheduled false et waits full (LoadHit slot) h = tt
step_unscheduled false et waits full Store h = drains_unscheduled full whys.Full NoTurn refl tt
step_unscheduled false et waits full Atomic h = drains_unscheduled waits whys.Atomic _ refl refl
step_unscheduled false et waits full (Barrier why) h = drains_unscheduled waits why NoTurn h tt
step_unscheduled false et waits full Other h = tt

-- the step of the instruction at PC, whatever the arrays hold
pub next_unscheduled : (g : Ground) (k : Progress) (a : Arrays) → NeedsUnscheduled (next_needs g k (attempt g.setup.image k.run.state (effect_at_pc g.setup g.core k.run.state) a).outcome)
next_unscheduled g k a =
    let e : Effect = effect_at_pc g.setup g.core k.run.state in
    step_unscheduled (nat_le g.setup.config.window k.quiet) k.run.state.ctl.et (store_waits k) (buffer_full g k) (attempt g.setup.image k.run.state e a).outcome
    (attempt_unscheduled e (barrier_at_pc k.run.state g.setup g.core) g.setup.image k.run.state a)

-- ---- what it answers

retires_no_turn : (s : State) (trap : Option ℕ) (turn : TurnAsked) → retired_or_halted s trap ≡ answers.Need turn → ⊥
retires_no_turn s None turn h = absurd (cc)
retires_no_turn s (Some tt_) turn h = by s.ctl.et refl
  where
    by : (et : Bool) → s.ctl.et ≡ et → ⊥
    by true et = let retired : answers.Retired ≡ answers.Need turn = rw et at h in absurd (cc)
    by false et = let halted : answers.Halt tt_ ≡ answers.Need turn = rw et at h in absurd (cc)

load_asks : (why : Why) (access : Option Access) → IsUnscheduled why → IsUnscheduled (why_of (load_turn why access))
load_asks why None h = refl
load_asks why (Some x) h = h

atomic_asks : (access : Option Access) → IsUnscheduled (why_of (atomic_turn access))
atomic_asks None = refl
atomic_asks (Some x) = refl

turn_asks : (s : State) (e : Effect) (why : Why) (kind : TurnKind) → IsUnscheduled why → IsUnscheduled (why_of (turn_asked s e why kind))
turn_asks s e why kinds.Fetch h = h
turn_asks s e why kinds.Load h = load_asks why e.access h
turn_asks s e why kinds.Store h = h
turn_asks s e why kinds.Atomic h = atomic_asks e.access
turn_asks s e why kinds.Snoop h = refl
turn_asks s e why kinds.Look h = refl
turn_asks s e why kinds.Fix h = refl

answer_asks : (s : State) (e : Effect) (cells : List (List Moment)) (need : Need) (turn : TurnAsked) → NeedsUnscheduled need → did_by s e cells need ≡ answers.Need turn → IsUnscheduled (why_of turn)
answer_asks s e cells NoTurn turn n h = absurd (retires_no_turn s e.trap turn h)
answer_asks s e cells (Turn kind why) turn n h = let same : turn_asked s e why kind ≡ turn = cc in subst (λ (t : TurnAsked). IsUnscheduled (why_of t)) same (turn_asks s e why kind n)
answer_asks s e cells (RegisterStop cell) turn n h = absurd (cc)

-- a step that asks for a turn does not ask for it by the schedule
pub asked_unscheduled : (g : Ground) (k : Progress) (cells : List (List Moment)) (turn : TurnAsked)
    → did_by k.run.state (next_effect g k) cells (next_needs g k (tried_at g k).outcome) ≡ answers.Need turn → IsUnscheduled (why_of turn)
asked_unscheduled g k cells turn h = answer_asks k.run.state (next_effect g k) cells (next_needs g k (tried_at g k).outcome) turn (next_unscheduled g k (begun g.flips k.steps k.arrays)) h
