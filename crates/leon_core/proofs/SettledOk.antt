-- What the laws of a core's course take of a core that tries its step.
use Rattle.std.proofs.Common.{◌≡◌, ◌∙◌, ◌+◌, ◌<◌, ◌≤◌, ℕ, List, length, refl, sym, ap, subst, arith}
use Rattle.core_course.proofs.LocalKeeps.{settles_ok, settles_answer}
use Rattle.core_course.specs.Calls.{Answers}
use Rattle.core_course.specs.CoreOk.{CoreOk}
use Rattle.core_course.specs.Settled.{phase_after, settled, MayTry, Settles}
use Rattle.core_parts.specs.CoreValue.{CoreValue}
use Rattle.core_parts.specs.Inside.{seen_in, value_of}
use Rattle.core_parts.specs.declared.parts.Parts.{Parts}
use Rattle.core_parts.specs.declared.phase.Phase.{Phase}
use Rattle.core_parts.specs.declared.phase.Phase.TheVariants.{Begun}
use Rattle.core_steps.specs.Tries.{Tries}
use Rattle.core_turns.specs.CanTurn.{CanTurn}
use Rattle.leon_core.proofs.BadCell.{stops_in_file}
use Rattle.leon_core.proofs.CanTurnThen.{can_turn}
use Rattle.leon_core.proofs.Settling.{settled_parts}
use Rattle.leon_core.specs.CoreInside.{core_seen, AskedBy, IsKept}
use Rattle.leon_core.specs.LocalStep.{NamesCellIn, ends_after}
use Rattle.leon_core.specs.declared.one_core.Core.TheInside.{Inside}
use Rattle.lf_model.specs.Course.Arrays.{register_cells}
use Rattle.lf_model.specs.declared.bus.Entry.{Entry}
use Rattle.lf_model.specs.declared.bus.Transfer.{Transfer}
use Rattle.lf_model.specs.declared.control.Arch.{Arch}
use Rattle.lf_model.specs.declared.step.Did.{Did}
use Rattle.lf_model.specs.declared.step.Did.TheVariants.{Retired, Turned, Need, Halt, Stop}
use Rattle.v8_exec.specs.Accesses.{Asks}

module _ (old : Inside) (is : IsKept old) where
  abbrev v : CoreValue
  v = value_of old.arch old.parts old.quiet old.room.named.items Begun

  pub may_try : MayTry v
  may_try = record { depth = is.core.depth; few = is.core.few; bytes = is.setup.bytes }

  module _ (did : Did) (arch : Arch) (p : Parts) (t : Tries did v (value_of arch p old.quiet old.room.named.items Begun)) where
    -- the cell that a stop names is one of the register file
    pub names_cell : (counted : length old.parts.arrays.registers.histories ≡ register_cells) → NamesCellIn register_cells did
    names_cell count = by did t
      where
        by : (did : Did) → Tries did v (value_of arch p old.quiet old.room.named.items Begun) → NamesCellIn register_cells did
        by Retired t = tt
        by Turned t = tt
        by (Need turn) t = tt
        by (Halt tt_) t = tt
        by (Stop tt_ cell syn) t = subst (λ (n : ℕ). cell < n) count (stops_in_file v (value_of arch p old.quiet old.room.named.items Begun) tt_ cell syn t)

    -- a step that needs a turn can make it
    pub asked_then : old.parts.«record».steps < old.parts.site.config.steps → old.parts.site.config.steps < 4294967296 → Asks (seen_in old.parts).site did → arch.k ≤ old.parts.«record».steps + ends_after did
        → AskedBy arch (settled_parts did p) (phase_after did)
    asked_then left few asks made = by did t asks made
      where
        by : (did : Did) → Tries did v (value_of arch p old.quiet old.room.named.items Begun) → Asks (seen_in old.parts).site did → arch.k ≤ old.parts.«record».steps + ends_after did → AskedBy arch (settled_parts did p) (phase_after did)
        by Retired t asks made = tt
        by Turned t asks made = tt
        by (Need turn) t asks made =
            let same : p.«record».steps + 0 ≡ p.«record».steps = omega arith in
            subst (λ (n : ℕ). CanTurn turn arch (record p { «record» = record p.«record» { steps = n } })) (sym same) (can_turn old is left few turn arch p t asks (omega (arith, made)))
        by (Halt tt_) t asks made = tt
        by (Stop tt_ cell syn) t asks made = tt

-- ---- the whole, of a core that is seen as `self`, and then as `new`

module _ (old : Inside) (is : IsKept old) (begun : old.phase ≡ Begun) (did : Did) (arch : Arch) (p : Parts)
    (t : Tries did (value_of old.arch old.parts old.quiet old.room.named.items Begun) (value_of arch p old.quiet old.room.named.items Begun))
    (self new : CoreValue) (view_is : core_seen old ≡ self) (new_is : new ≡ settled did (value_of arch p old.quiet old.room.named.items Begun)) where
  abbrev at : CoreValue
  at = value_of old.arch old.parts old.quiet old.room.named.items Begun

  at_is : at ≡ self
  at_is = ap (λ (ph : Phase). value_of old.arch old.parts old.quiet old.room.named.items ph) (sym begun) ∙ view_is

  pub settles : Settles did self new
  settles = record {
    tried = value_of arch p old.quiet old.room.named.items Begun;
    tries = subst (λ (x : CoreValue). Tries did x (value_of arch p old.quiet old.room.named.items Begun)) at_is t;
    settled_so = new_is;
  }

  pub keeps_ok : (log : List Entry) (ts : List Transfer) → CoreOk self log ts → CoreOk new log ts
  keeps_ok log ts h =
      subst (λ (x : CoreValue). CoreOk x log ts) (sym new_is)
      (settles_ok at (value_of arch p old.quiet old.room.named.items Begun) did refl (may_try old is) t log ts (subst (λ (x : CoreValue). CoreOk x log ts) (sym at_is) h))

  pub answers : (log : List Entry) (ts : List Transfer) → CoreOk self log ts → Answers self ts did
  answers log ts h =
      subst (λ (x : CoreValue). Answers x ts did) at_is
      (settles_answer at (value_of arch p old.quiet old.room.named.items Begun) did refl (may_try old is) t log ts (subst (λ (x : CoreValue). CoreOk x log ts) (sym at_is) h))
