-- Which flips of the script strike the arrays of a core, and at which of their bits.
use Rattle.std.specs.Prelude.{ℕ, ◌≡◌, ◌<◌, true, Bool, List, filter, if◌then◌else◌}
use Rattle.flip_ledger.specs.Plan.{target_of, bit_of}
use Rattle.flip_ledger.specs.declared.plan.Target.{Target}
use Rattle.flip_ledger.specs.declared.plan.Target.TheVariants.{Word, Register, Tag, Line}
use Rattle.lf_model.specs.Course.Arrays.{register_cells}
use Rattle.lf_model.specs.Course.Core.{strikes_core}
use Rattle.lf_model.specs.Flips.{word_bits}
use Rattle.lf_model.specs.NumberedFlips.{numbered_flips}
use Rattle.lf_model.specs.declared.config.Config.{Config}
use Rattle.lf_model.specs.declared.config.Shape.{Shape}
use Rattle.lf_model.specs.declared.flip.Flip.{Flip}
use Rattle.replay_caches.specs.CacheState.{byte_bits}

-- the flips of the script that strike a core, with their numbers
abbrev pub own_flips : ℕ → List Flip → List (ℕ × Flip)
own_flips core script = filter (λ (flip : ℕ × Flip). strikes_core core flip.1) (numbered_flips script)

-- the shapes of the two caches, of a machine
abbrev pub shape_of : Config → Bool → Shape
shape_of config fetch = if fetch then config.fetch_cache else config.load_cache

-- a byte of a slot of a cache, of so many
pub record IsByteOf (shape : Shape) (bytes way set byte : ℕ) : Type 0 where
  pub way_fits : way < shape.ways
  pub set_fits : set < shape.sets
  pub byte_fits : byte < bytes

-- the target is in the arrays of a core with caches of these shapes
abbrev pub IsTarget : (Bool → Shape) → Target → Type 0
IsTarget shapes (Word addr) = ⊥
IsTarget shapes (Register cell) = cell < register_cells
IsTarget shapes (Tag fetch way set byte) = IsByteOf (shapes fetch) 4 way set byte
IsTarget shapes (Line fetch way set byte) = IsByteOf (shapes fetch) 32 way set byte

-- its bits
abbrev pub bits_of : Target → ℕ
bits_of (Word addr) = word_bits
bits_of (Register cell) = word_bits
bits_of (Tag fetch way set byte) = byte_bits
bits_of (Line fetch way set byte) = byte_bits

-- a flip that strikes a core is for a bit of one of its arrays
abbrev pub AimsAt : ℕ → Config → Flip → Type 0
AimsAt core config flip = strikes_core core flip ≡ true → IsTarget (shape_of config) (target_of flip) × (bit_of flip < bits_of (target_of flip))
