-- LDSTUB and SWAP: the effect of an instruction whose operation is an atomic.
use Rattle.std.proofs.Common.{◌≡◌, ℕ, ◌∷◌, [], List, Bool, cond, true, false, Option, Some, None, unwrap_or, refl, sym, ap, ◌∙◌, ◌==◌}
use Rattle.lf_model.specs.Start.{output_word}
use Rattle.lf_model.specs.State.{State, advanced, with_register}
use Rattle.lf_model.specs.Effect.{Site, AccessKind, Access, Effect, with_reads, cell_written, sum_of_operands}
use Rattle.lf_model.specs.Instructions.{registers_read}
use Rattle.lf_model.specs.Traps.{unless_trap}
use Rattle.lf_model.specs.Memory.{output_effect, store_effect, mem_effect}
use Rattle.lf_model.specs.Alternate.{is_plain_space, control_effect}
use Rattle.lf_model.specs.OrdinaryTraps.{ordinary_trap}
use Rattle.lf_model.specs.Effects.{completed, effect}
use Rattle.lf_model.specs.Run.{Run, with_access}
use Rattle.lf_model.specs.Step.{Seen, Parts, state_of, first_bad, came_to, stop_row, trap_row, miss_row, kind_row, access_row, barrier_row, first_row}
use Rattle.lf_model.specs.declared.bus.Entry.{Entry}
use Rattle.lf_model.specs.declared.bus.Why.{Why}
use Rattle.lf_model.specs.declared.bus.Why.TheVariants as whys
use Rattle.lf_model.specs.declared.control.Arch.{Arch}
use Rattle.lf_model.specs.declared.instruction.MemName.{MemName}
use Rattle.lf_model.specs.declared.instruction.MemName.TheVariants.{Ld, Ldub, Lduh, Ldd, St, Stb, Sth, Std, Ldsb, Ldsh, Ldstub, Swap}
use Rattle.lf_model.specs.declared.instruction.Src.TheVariants.{Reg}
use Rattle.lf_model.specs.declared.instruction.Instr.{Instr}
use Rattle.lf_model.specs.declared.instruction.Instr.TheVariants.{Illegal, AltIllegal, FpOff, CpOff, FpQueue, CpQueue, Stbar, Call, Sethi, Bicc, Calc, Ticc, ReadState, ReadAsr, WriteState, WriteAsr, Jmpl, Rett, Flush, Save, Restore, Mem, Alternate}
use Rattle.lf_model.specs.declared.step.Did.{Did}
use Rattle.lf_model.specs.declared.step.Did.TheVariants.{Need, Retired, Halt, Stop}
use Rattle.lf_model.specs.declared.step.Look.{Look}
use Rattle.lf_model.specs.declared.step.Look.TheVariants.{Hit, Miss}
use Rattle.lf_model.specs.declared.step.RegBad.{RegBad}
use Rattle.lf_model.specs.declared.step.Turn.TheVariants.{Atomic, Drain, Load}
use Rattle.v8_exec.specs.Accesses.{atomic_access, IsAccessing, Finishes}

-- ---- the operation of an effect

abbrev kind_in : Option Access → AccessKind
kind_in None = AccessKind.Load
kind_in (Some a) = a.kind

abbrev rd_in : Option Access → ℕ
rd_in None = 0
rd_in (Some a) = a.rd

-- if the operation is an atomic, its register gets what it reads, and no other cell is written
pub record EndsAtomic (s : State) (e : Effect) : Type 0 where
  pub ends : (addr len new rd got : ℕ) → e.access ≡ Some (atomic_access addr len new rd) → e.next got ≡ advanced (with_register rd got s)
  pub writes : (addr len new rd : ℕ) → e.access ≡ Some (atomic_access addr len new rd) → e.writes ≡ cell_written s rd

-- the operation is no atomic
ends_other : (s : State) (e : Effect) → ((a : Access) → a.kind ≡ AccessKind.Atomic → e.access ≡ Some a → ⊥) → EndsAtomic s e
ends_other s e other = record {
  ends = λ addr len new rd got is. absurd (other (atomic_access addr len new rd) refl is);
  writes = λ addr len new rd is. absurd (other (atomic_access addr len new rd) refl is);
}

pub ends_without : (s : State) (e : Effect) → e.access ≡ None → EndsAtomic s e
ends_without s e none = ends_other s e (λ a atomic is. let k : AccessKind.Load ≡ a.kind = ap kind_in (sym none ∙ is) in absurd (cc))

ends_trap : (s : State) (trap : Option ℕ) (e : Effect) → EndsAtomic s e → EndsAtomic s (unless_trap trap s e)
ends_trap s None e ends = ends
ends_trap s (Some tt_) e ends = ends_without s (unless_trap (Some tt_) s e) refl

ends_load : (s : State) (e : Effect) → kind_in e.access ≡ AccessKind.Load → EndsAtomic s e
ends_load s e load = ends_other s e (λ a atomic is. let k : AccessKind.Load ≡ a.kind = sym load ∙ ap kind_in is in absurd (cc))

ends_store : (s : State) (e : Effect) → kind_in e.access ≡ AccessKind.Store → EndsAtomic s e
ends_store s e store = ends_other s e (λ a atomic is. let k : AccessKind.Store ≡ a.kind = sym store ∙ ap kind_in is in absurd (cc))

-- the operation has this register
ends_with : (s : State) (e : Effect) (rd : ℕ) → rd_in e.access ≡ rd → ((got : ℕ) → e.next got ≡ advanced (with_register rd got s)) → e.writes ≡ cell_written s rd → EndsAtomic s e
ends_with s e rd register next writes = record {
  ends = λ addr len new rd' got is. next got ∙ ap (λ (n : ℕ). advanced (with_register n got s)) (sym register ∙ ap rd_in is);
  writes = λ addr len new rd' is. writes ∙ ap (λ (n : ℕ). cell_written s n) (sym register ∙ ap rd_in is);
}

ends_output : (s : State) (addr rd : ℕ) (b : Bool) → EndsAtomic s (cond b (output_effect rd s) (store_effect St addr rd s))
ends_output s addr rd true = ends_without s _ refl
ends_output s addr rd false = ends_store s _ refl

ends_mem : (s : State) (name : MemName) (addr rd : ℕ) → EndsAtomic s (mem_effect name addr rd s)
ends_mem s Ldstub addr rd = ends_with s _ rd refl (λ got. refl) refl
ends_mem s Swap addr rd = ends_with s _ rd refl (λ got. refl) refl
ends_mem s St addr rd = ends_output s addr rd (addr == output_word)
ends_mem s Stb addr rd = ends_store s _ refl
ends_mem s Sth addr rd = ends_store s _ refl
ends_mem s Std addr rd = ends_store s _ refl
ends_mem s Ldd addr rd = ends_load s _ refl
ends_mem s Ld addr rd = ends_load s _ refl
ends_mem s Ldub addr rd = ends_load s _ refl
ends_mem s Lduh addr rd = ends_load s _ refl
ends_mem s Ldsb addr rd = ends_load s _ refl
ends_mem s Ldsh addr rd = ends_load s _ refl

pub control_effect-access : (name : MemName) (rd : ℕ) (s : State) → (control_effect name rd s).access ≡ None
control_effect-access Ld rd s = refl
control_effect-access St rd s = refl
control_effect-access Ldd rd s = refl
control_effect-access Ldub rd s = refl
control_effect-access Lduh rd s = refl
control_effect-access Ldsb rd s = refl
control_effect-access Ldsh rd s = refl
control_effect-access Stb rd s = refl
control_effect-access Sth rd s = refl
control_effect-access Std rd s = refl
control_effect-access Ldstub rd s = refl
control_effect-access Swap rd s = refl

ends_space : (s : State) (name : MemName) (addr rd : ℕ) (b : Bool)
    → EndsAtomic s (cond b (mem_effect name addr rd s) (control_effect name rd s))
ends_space s name addr rd true = ends_mem s name addr rd
ends_space s name addr rd false = ends_without s _ (control_effect-access name rd s)

-- an instruction that is no load, store or atomic makes no operation
pub completed-access : (site : Site) (s : State) (i : Instr) → (IsAccessing i → ⊥) → (completed site s i).access ≡ None
completed-access site s (Call disp30) other = refl
completed-access site s (Sethi rd imm22) other = refl
completed-access site s (Bicc c a disp22) other = refl
completed-access site s (Calc name rd rs1 src) other = refl
completed-access site s (Jmpl rd rs1 src) other = refl
completed-access site s (Rett rs1 src) other = refl
completed-access site s (Save rd rs1 src) other = refl
completed-access site s (Restore rd rs1 src) other = refl
completed-access site s (ReadState name rd) other = refl
completed-access site s (ReadAsr rd rs1) other = refl
completed-access site s (WriteState name rs1 src) other = refl
completed-access site s (WriteAsr rd rs1 src) other = refl
completed-access site s (Ticc c rs1 src) other = refl
completed-access site s (Flush rs1 src) other = refl
completed-access site s Stbar other = refl
completed-access site s Illegal other = refl
completed-access site s AltIllegal other = refl
completed-access site s FpOff other = refl
completed-access site s FpQueue other = refl
completed-access site s CpOff other = refl
completed-access site s CpQueue other = refl
completed-access site s (Mem name rd rs1 src) other = absurd (other tt)
completed-access site s (Alternate name rd rs1 rs2 asi) other = absurd (other tt)

ends_completed : (site : Site) (s : State) (i : Instr) → EndsAtomic s (completed site s i)
ends_completed site s (Mem name rd rs1 src) = ends_mem s name (sum_of_operands s rs1 src) rd
ends_completed site s (Alternate name rd rs1 rs2 asi) = ends_space s name (sum_of_operands s rs1 (Reg rs2)) rd (is_plain_space asi)
ends_completed site s (Call disp30) = ends_without s _ refl
ends_completed site s (Sethi rd imm22) = ends_without s _ refl
ends_completed site s (Bicc c a disp22) = ends_without s _ refl
ends_completed site s (Calc name rd rs1 src) = ends_without s _ refl
ends_completed site s (Jmpl rd rs1 src) = ends_without s _ refl
ends_completed site s (Rett rs1 src) = ends_without s _ refl
ends_completed site s (Save rd rs1 src) = ends_without s _ refl
ends_completed site s (Restore rd rs1 src) = ends_without s _ refl
ends_completed site s (ReadState name rd) = ends_without s _ refl
ends_completed site s (ReadAsr rd rs1) = ends_without s _ refl
ends_completed site s (WriteState name rs1 src) = ends_without s _ refl
ends_completed site s (WriteAsr rd rs1 src) = ends_without s _ refl
ends_completed site s (Ticc c rs1 src) = ends_without s _ refl
ends_completed site s (Flush rs1 src) = ends_without s _ refl
ends_completed site s Stbar = ends_without s _ refl
ends_completed site s Illegal = ends_without s _ refl
ends_completed site s AltIllegal = ends_without s _ refl
ends_completed site s FpOff = ends_without s _ refl
ends_completed site s FpQueue = ends_without s _ refl
ends_completed site s CpOff = ends_without s _ refl
ends_completed site s CpQueue = ends_without s _ refl

pub ends_effect : (site : Site) (s : State) (i : Instr) → EndsAtomic s (effect site s i)
unfolding effect
ends_effect site s i =
    let here = ends_completed site s i in
    ends_trap s (ordinary_trap site s i) (with_reads (registers_read i) (completed site s i)) (record { ends = here.ends; writes = here.writes })

-- ---- an instruction that needs the turn of an atomic

-- the operation of the turn
abbrev atomic_of : Did → Option Access
atomic_of (Need (Atomic addr len new rd)) = Some (atomic_access addr len new rd)
atomic_of _ = None

abbrev atomic_in : Option Did → Option Access
atomic_in None = None
atomic_in (Some did) = atomic_of did

drains-atomic : (waiting : Bool) (why : Why) (did : Did) → atomic_of did ≡ None → atomic_of (cond waiting (Need (Drain why)) did) ≡ None
drains-atomic true why did none = refl
drains-atomic false why did none = none

stop_row-atomic : (parts : Parts) (bad : Option RegBad) → atomic_in (stop_row parts bad) ≡ None
stop_row-atomic parts None = refl
stop_row-atomic parts (Some bad) = drains-atomic parts.waiting whys.End (Stop 0x20 bad.cell bad.syn) refl

trap_row-atomic : (parts : Parts) (et : Bool) (trap : Option ℕ) → atomic_in (trap_row parts et trap) ≡ None
trap_row-atomic parts et None = refl
trap_row-atomic parts true (Some tt_) = refl
trap_row-atomic parts false (Some tt_) = drains-atomic parts.waiting whys.End (Halt tt_) refl

barrier_row-atomic : (parts : Parts) (barrier : Option Why) → atomic_in (barrier_row parts barrier) ≡ None
barrier_row-atomic parts None = refl
barrier_row-atomic parts (Some why) = by_waiting parts.waiting
  where
    by_waiting : (b : Bool) → atomic_in (cond b (Some (Need (Drain why))) None) ≡ None
    by_waiting true = refl
    by_waiting false = refl

-- the row of the operation is the one that needs the turn
rows-atomic : (stop trap access barrier : Option Did) (a : Access) → atomic_in stop ≡ None → atomic_in trap ≡ None → atomic_in barrier ≡ None
    → atomic_of (unwrap_or (first_row (stop ∷ trap ∷ access ∷ barrier ∷ [])) Retired) ≡ Some a → atomic_in access ≡ Some a
rows-atomic (Some d) trap access barrier a no_stop no_trap no_barrier is = absurd (cc)
rows-atomic None (Some d) access barrier a no_stop no_trap no_barrier is = absurd (cc)
rows-atomic None None (Some d) barrier a no_stop no_trap no_barrier is = is
rows-atomic None None None (Some d) a no_stop no_trap no_barrier is = absurd (cc)
rows-atomic None None None None a no_stop no_trap no_barrier is = absurd (cc)

look-atomic : (parts : Parts) (a x : Access) (look : Look) → atomic_in (miss_row parts a look) ≡ Some x → ⊥
look-atomic parts a x (Hit value way) is = absurd (cc)
look-atomic parts a x (Miss why) is = let none = drains-atomic parts.waiting whys.Miss (Need (Load a.addr a.len why)) refl in absurd (cc)

of_kind : (a : Access) → a.kind ≡ AccessKind.Atomic → a ≡ atomic_access a.addr a.len a.put a.rd
of_kind a k = ap (λ (n : AccessKind). record a { kind = n }) k

some_same : (x y : Access) → ◌≡◌ {A = Option Access} (Some x) (Some y) → x ≡ y
some_same x y h = ap or_first h
  where
    or_first : Option Access → Access
    or_first None = x
    or_first (Some z) = z

kind-atomic : (parts : Parts) (a x : Access) (kind : AccessKind) → a.kind ≡ kind → atomic_in (kind_row parts a kind) ≡ Some x → a ≡ x
kind-atomic parts a x AccessKind.Load k is = absurd (look-atomic parts a x (parts.look a.addr a.len) is)
kind-atomic parts a x AccessKind.Store k is = absurd (by_full parts.full is)
  where
    by_full : (b : Bool) → atomic_in (cond b (Some (Need (Drain whys.Full))) None) ≡ Some x → ⊥
    by_full true h = absurd (cc)
    by_full false h = absurd (cc)
kind-atomic parts a x AccessKind.Atomic k is = by_waiting parts.waiting is
  where
    same : a ≡ atomic_access a.addr a.len a.put a.rd
    same = of_kind a k

    by_waiting : (b : Bool) → atomic_of (cond b (Need (Drain whys.Atomic)) (Need (Atomic a.addr a.len a.put a.rd))) ≡ Some x → a ≡ x
    by_waiting true h = absurd (cc)
    by_waiting false h = same ∙ some_same (atomic_access a.addr a.len a.put a.rd) x h

access-atomic : (parts : Parts) (access : Option Access) (x : Access) → atomic_in (access_row parts access) ≡ Some x → access ≡ Some x
access-atomic parts None x is = absurd (cc)
access-atomic parts (Some a) x is = ap Some (kind-atomic parts a x a.kind refl is)

-- an instruction that needs the turn of an atomic makes that operation
pub needs_atomic : (parts : Parts) (s : State) (e : Effect) (addr len new rd : ℕ)
    → came_to parts s e ≡ Need (Atomic addr len new rd) → e.access ≡ Some (atomic_access addr len new rd)
needs_atomic parts s e addr len new rd is =
    access-atomic parts e.access (atomic_access addr len new rd)
    (rows-atomic (stop_row parts (first_bad parts s.ctl.cwp e.reads)) (trap_row parts s.ctl.et e.trap) (access_row parts e.access) (barrier_row parts e.barrier)
    (atomic_access addr len new rd) (stop_row-atomic parts (first_bad parts s.ctl.cwp e.reads)) (trap_row-atomic parts s.ctl.et e.trap)
    (barrier_row-atomic parts e.barrier) (ap atomic_of is))

same_run : (s t : State) (p q : List Entry) → s ≡ t → p ≡ q → ◌≡◌ {A = Run} (record { state = s; ops = p }) (record { state = t; ops = q })
same_run s t p q states ops = rw states (rw ops refl)

pub finished : (i : Instr) (parts : Parts) (addr len new rd got : ℕ) (old next : Arch) (before after : Seen)
    → state_of next after ≡ advanced (with_register rd got (state_of old before)) → after.ops ≡ before.ops → after.site ≡ before.site
    → Finishes i parts (atomic_access addr len new rd) got old next before after
finished i parts addr len new rd got old next before after state ops site is =
    let s = state_of old before in
    let e = effect before.site s i in
    let access : e.access ≡ Some (atomic_access addr len new rd) = needs_atomic parts s e addr len new rd is in
    same_run (state_of next after) (e.next got)
    (with_access after.site.core got (Some (atomic_access addr len new rd)) after.ops) (with_access before.site.core got e.access before.ops)
    (state ∙ sym ((ends_effect before.site s i).ends addr len new rd got access))
    (ap (λ (l : List Entry). with_access after.site.core got (Some (atomic_access addr len new rd)) l) ops
    ∙ ap (λ (t : Site). with_access t.core got (Some (atomic_access addr len new rd)) before.ops) site
    ∙ ap (λ (x : Option Access). with_access before.site.core got x before.ops) (sym access))

-- an instruction that needs the turn of an atomic writes the cell of its register alone
pub atomic_writes : (site : Site) (parts : Parts) (s : State) (i : Instr) (addr len new rd : ℕ)
    → came_to parts s (effect site s i) ≡ Need (Atomic addr len new rd) → (effect site s i).writes ≡ cell_written s rd
atomic_writes site parts s i addr len new rd is =
    (ends_effect site s i).writes addr len new rd (needs_atomic parts s (effect site s i) addr len new rd is)
