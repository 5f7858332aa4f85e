-- The flips of a script that strike the units of one owner: a core, or memory.
use Rattle.std.specs.Prelude.{◌≡◌, ℕ, ◌<◌, ◌≤◌, ◌==◌, Bool, true, false, List, ◌∷◌, map, filter, All, Option, Some, None}
use Rattle.lf_model.specs.Course.Core.{strikes_core}
use Rattle.lf_model.specs.NumberedFlips.{numbered_flips}
use Rattle.lf_model.specs.declared.flip.Flip.{Flip}
use Rattle.lf_model.specs.declared.flip.Flip.TheVariants.{Mem, Reg, Tag, Line}
use Rattle.flip_ledger.specs.declared.plan.Owner.{Owner}
use Rattle.flip_ledger.specs.declared.plan.Owner.TheVariants.{Core, Memory}
use Rattle.flip_ledger.specs.declared.plan.Strike.{Strike}
use Rattle.flip_ledger.specs.declared.plan.Target.{Target}
use Rattle.flip_ledger.specs.declared.plan.Target.TheVariants as target

-- the flip strikes a memory word
abbrev pub strikes_memory : Flip → Bool
strikes_memory (Mem turn addr bit) = true
strikes_memory (Reg core step cell bit) = false
strikes_memory (Tag core step fetch way set byte bit) = false
strikes_memory (Line core step fetch way set byte bit) = false

-- it is for a unit of this owner
abbrev pub is_of : Owner → Flip → Bool
is_of (Core number) flip = strikes_core number flip
is_of Memory flip = strikes_memory flip

-- the step or turn that it comes with, its unit, and the bit of that
abbrev pub time_of : Flip → ℕ
time_of (Mem turn addr bit) = turn
time_of (Reg core step cell bit) = step
time_of (Tag core step fetch way set byte bit) = step
time_of (Line core step fetch way set byte bit) = step

abbrev pub target_of : Flip → Target
target_of (Mem turn addr bit) = target.Word addr
target_of (Reg core step cell bit) = target.Register cell
target_of (Tag core step fetch way set byte bit) = target.Tag fetch way set byte
target_of (Line core step fetch way set byte bit) = target.Line fetch way set byte

abbrev pub bit_of : Flip → ℕ
bit_of (Mem turn addr bit) = bit
bit_of (Reg core step cell bit) = bit
bit_of (Tag core step fetch way set byte bit) = bit
bit_of (Line core step fetch way set byte bit) = bit

-- the strike of a flip with its number
abbrev pub strike_of : ℕ × Flip → Strike
strike_of flip = record { at = time_of flip.1; number = flip.0; target = target_of flip.1; bit = bit_of flip.1 }

-- the strikes of a script at the units of an owner, in its order
abbrev pub strikes_of : Owner → List Flip → List Strike
strikes_of owner script = map strike_of (filter (λ (flip : ℕ × Flip). is_of owner flip.1) (numbered_flips script))

abbrev pub is_at : ℕ → Strike → Bool
is_at at strike = strike.at == at

-- those of one step or turn
abbrev pub due_at : ℕ → List Strike → List Strike
due_at at strikes = filter (is_at at) strikes

-- a plan from this step or turn on: of it and of each later one it has the strikes of the script, in its order, and it has no
-- others
pub record IsPlanned (owner : Owner) (script : List Flip) (at : ℕ) (plan : List Strike) : Type 0 where
  pub due : (t : ℕ) → at ≤ t → due_at t plan ≡ due_at t (strikes_of owner script)
  pub others : All (λ strike. at ≤ strike.at) plan

-- what a plan gives at a step or turn: its next strike, if that is due by then, and none where all its strikes are of later ones
abbrev pub GivesDue : ℕ → List Strike → Option Strike → List Strike → Type 0
GivesDue at old (Some strike) new = (old ≡ strike ∷ new) × (strike.at ≤ at)
GivesDue at old None new = (new ≡ old) × All (λ strike. at < strike.at) old
