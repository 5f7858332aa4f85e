-- An instruction without an operation asks for no load and no atomic of the bus.
use Rattle.std.proofs.Common.{◌≡◌, ℕ, ◌∷◌, [], Bool, cond, true, false, Option, Some, None, unwrap_or, refl, sym, subst, inl, inr, ◌⊎◌}
use Rattle.lf_model.specs.State.{State}
use Rattle.lf_model.specs.Effect.{Site, Access, Effect, with_reads}
use Rattle.lf_model.specs.Instructions.{registers_read}
use Rattle.lf_model.specs.Traps.{unless_trap}
use Rattle.lf_model.specs.OrdinaryTraps.{ordinary_trap}
use Rattle.lf_model.specs.Effects.{completed, effect}
use Rattle.lf_model.specs.Step.{Parts, first_bad, came_to, stop_row, trap_row, access_row, barrier_row, first_row}
use Rattle.lf_model.specs.declared.bus.Why.{Why}
use Rattle.lf_model.specs.declared.bus.Why.TheVariants as whys
use Rattle.lf_model.specs.declared.instruction.Instr.{Instr}
use Rattle.lf_model.specs.declared.instruction.Instr.TheVariants.{Illegal, AltIllegal, FpOff, CpOff, FpQueue, CpQueue, Stbar, Call, Sethi, Bicc, Calc, Ticc, ReadState, ReadAsr, WriteState, WriteAsr, Jmpl, Rett, Flush, Save, Restore, Mem, Alternate}
use Rattle.lf_model.specs.declared.step.Did.{Did}
use Rattle.lf_model.specs.declared.step.Did.TheVariants.{Need, Retired, Halt, Stop}
use Rattle.lf_model.specs.declared.step.RegBad.{RegBad}
use Rattle.lf_model.specs.declared.step.Turn.TheVariants.{Drain}
use Rattle.v8_exec.specs.Accesses.{Asks, IsAccessing}
use Rattle.v8_exec.proofs.AtomicLemmas.{completed-access}

-- a load, store or atomic, or another instruction
pub accessing : (i : Instr) → IsAccessing i ⊎ (IsAccessing i → ⊥)
accessing (Mem name rd rs1 src) = inl tt
accessing (Alternate name rd rs1 rs2 asi) = inl tt
accessing (Call disp30) = inr (λ h. h)
accessing (Sethi rd imm22) = inr (λ h. h)
accessing (Bicc c a disp22) = inr (λ h. h)
accessing (Calc name rd rs1 src) = inr (λ h. h)
accessing (Jmpl rd rs1 src) = inr (λ h. h)
accessing (Rett rs1 src) = inr (λ h. h)
accessing (Save rd rs1 src) = inr (λ h. h)
accessing (Restore rd rs1 src) = inr (λ h. h)
accessing (ReadState name rd) = inr (λ h. h)
accessing (ReadAsr rd rs1) = inr (λ h. h)
accessing (WriteState name rs1 src) = inr (λ h. h)
accessing (WriteAsr rd rs1 src) = inr (λ h. h)
accessing (Ticc c rs1 src) = inr (λ h. h)
accessing (Flush rs1 src) = inr (λ h. h)
accessing Stbar = inr (λ h. h)
accessing Illegal = inr (λ h. h)
accessing AltIllegal = inr (λ h. h)
accessing FpOff = inr (λ h. h)
accessing FpQueue = inr (λ h. h)
accessing CpOff = inr (λ h. h)
accessing CpQueue = inr (λ h. h)

drains-asks : (site : Site) (waiting : Bool) (why : Why) (did : Did) → Asks site did → Asks site (cond waiting (Need (Drain why)) did)
drains-asks site true why did h = tt
drains-asks site false why did h = h

barrier-asks : (site : Site) (parts : Parts) (barrier : Option Why) → Asks site (unwrap_or (first_row (barrier_row parts barrier ∷ [])) Retired)
barrier-asks site parts None = tt
barrier-asks site parts (Some why) = by_waiting parts.waiting
  where
    by_waiting : (b : Bool) → Asks site (unwrap_or (first_row (cond b (Some (Need (Drain why))) None ∷ [])) Retired)
    by_waiting true = tt
    by_waiting false = tt

trap-asks : (site : Site) (parts : Parts) (et : Bool) (trap : Option ℕ) (barrier : Option Why)
    → Asks site (unwrap_or (first_row (trap_row parts et trap ∷ None ∷ barrier_row parts barrier ∷ [])) Retired)
trap-asks site parts et None barrier = barrier-asks site parts barrier
trap-asks site parts true (Some tt_) barrier = tt
trap-asks site parts false (Some tt_) barrier = drains-asks site parts.waiting whys.End (Halt tt_) tt

stop-asks : (site : Site) (parts : Parts) (bad : Option RegBad) (et : Bool) (trap : Option ℕ) (barrier : Option Why)
    → Asks site (unwrap_or (first_row (stop_row parts bad ∷ trap_row parts et trap ∷ None ∷ barrier_row parts barrier ∷ [])) Retired)
stop-asks site parts None et trap barrier = trap-asks site parts et trap barrier
stop-asks site parts (Some bad) et trap barrier = drains-asks site parts.waiting whys.End (Stop 0x20 bad.cell bad.syn) tt

came_to-asks : (site : Site) (parts : Parts) (s : State) (e : Effect) → e.access ≡ None → Asks site (came_to parts s e)
came_to-asks site parts s e none =
    subst (λ (access : Option Access). Asks site (unwrap_or (first_row (stop_row parts (first_bad parts s.ctl.cwp e.reads) ∷ trap_row parts s.ctl.et e.trap ∷ access_row parts access ∷ barrier_row parts e.barrier ∷ [])) Retired))
    (sym none) (stop-asks site parts (first_bad parts s.ctl.cwp e.reads) s.ctl.et e.trap e.barrier)

unless_trap-access : (trap : Option ℕ) (s : State) (e : Effect) → e.access ≡ None → (unless_trap trap s e).access ≡ None
unless_trap-access None s e none = none
unless_trap-access (Some tt_) s e none = refl

effect-access : (site : Site) (s : State) (i : Instr) → (IsAccessing i → ⊥) → (effect site s i).access ≡ None
unfolding effect
effect-access site s i other = unless_trap-access (ordinary_trap site s i) s (with_reads (registers_read i) (completed site s i)) (completed-access site s i other)

-- what an instruction asks of the bus can be done
pub asks : (here site : Site) (parts : Parts) (s : State) (i : Instr) (did : Did)
    → did ≡ came_to parts s (effect site s i) → (IsAccessing i → Asks here did) → Asks here did
asks here site parts s i did answer access = by_kind (accessing i)
  where
    by_kind : IsAccessing i ⊎ (IsAccessing i → ⊥) → Asks here did
    by_kind (inl accesses) = access accesses
    by_kind (inr other) = rw answer (came_to-asks here parts s (effect site s i) (effect-access site s i other))
