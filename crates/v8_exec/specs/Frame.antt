-- What an instruction comes to once its registers are read, and what every instruction leaves as it was.
use Rattle.std.specs.Prelude.{ℕ, ◌≡◌, ◌<◌, ◌≤◌, ◌+◌, ◌∷◌, [], length, Option, Some, None, unwrap_or, Result, Ok, Err}
use Rattle.lf_model.specs.Effect.{Effect}
use Rattle.lf_model.specs.Effects.{effect}
use Rattle.lf_model.specs.Run.{Run}
use Rattle.lf_model.specs.State.{State}
use Rattle.lf_model.specs.Step.{IsSound, Seen, Parts, state_of, run_seen, trap_row, access_row, barrier_row, first_row, run_after, counted}
use Rattle.lf_model.specs.declared.control.Arch.{Arch}
use Rattle.lf_model.specs.declared.instruction.Instr.{Instr}
use Rattle.lf_model.specs.declared.step.Did.{Did}
use Rattle.lf_model.specs.declared.step.Did.TheVariants.{Retired}
use Rattle.lf_model.specs.declared.step.RegBad.{RegBad}

-- the register that is bad, if an instruction answers one
abbrev pub bad_in : {A : Type 0} → Result A RegBad → Option RegBad
bad_in (Ok x) = None
bad_in (Err bad) = Some bad

-- ---- after the registers are read

-- what an instruction comes to whose registers are good: the first row that holds, and else it retires
abbrev pub came_after_reads : Parts → State → Effect → Did
came_after_reads parts s e =
    unwrap_or (first_row (trap_row parts s.ctl.et e.trap ∷ access_row parts e.access ∷ barrier_row parts e.barrier ∷ [])) Retired

-- an instruction with this effect, whose registers are good, comes to this and leaves that
pub record DoesAfterReads (core : ℕ) (parts : Parts) (e : Effect) (did : Did) (old new : Run) : Type 0 where
  pub answer : did ≡ came_after_reads parts old.state e
  pub leaves : new ≡ run_after core parts did e old

abbrev pub Makes : Effect → Parts → Did → Arch → Arch → Seen → Seen → Type 0
Makes e parts did old new before after = DoesAfterReads before.site.core parts e did (run_seen old before) (run_seen new after)

-- the same of an instruction with its own effect
abbrev pub Performs : Instr → Parts → Did → Arch → Arch → Seen → Seen → Type 0
Performs i parts did old new before after = Makes (effect before.site (state_of old before) i) parts did old new before after

-- ---- what stays

-- the state registers stay within their bounds, the core keeps its number and where it runs, and so many instructions are counted by
-- now; an operation made is counted, and room for records is taken by an instruction that is counted alone
pub record KeepsWithCount (count : ℕ) (did : Did) (old new : Arch) (before after : Seen) (spare left : ℕ) : Type 0 where
  pub sound : IsSound new
  pub core : new.core ≡ old.core
  pub n : new.n ≡ count
  pub k : new.k + length before.ops ≡ old.k + length after.ops
  pub site : after.site ≡ before.site
  pub room : spare ≤ left + counted did

-- an instruction that its step has still to count
abbrev pub Keeps : Did → Arch → Arch → Seen → Seen → ℕ → ℕ → Type 0
Keeps did old new before after spare left = KeepsWithCount old.n did old new before after spare left

-- a step, which counts its instruction
abbrev pub Counts : Did → Arch → Arch → Seen → Seen → ℕ → ℕ → Type 0
Counts did old new before after spare left = KeepsWithCount (old.n + counted did) did old new before after spare left

-- an instruction that answers a bad register leaves all but what its reads touched: the architecture, what the core shows, and what
-- its parts answer
pub record Refuses (bad : RegBad) (old new : Arch) (before after : Seen) (parts answered : Parts) (spare left : ℕ) : Type 0 where
  pub cell : bad.cell < 136
  pub arch : new ≡ old
  pub seen : after ≡ before
  pub answers : answered ≡ parts
  pub room : spare ≤ left
