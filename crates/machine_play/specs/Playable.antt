-- Which setups can be played.
use Rattle.std.specs.Prelude.{ℕ, ◌≡◌, ◌≤◌, ◌<◌, ◌%◌, Bool, IsTrue, if◌then◌else◌}
use Rattle.std.specs.List.{AllByRecursion}
use Rattle.lf_model.specs.Caches.Cache.{IsCacheShape}
use Rattle.lf_model.specs.Start.{is_in_ram, IsLoadable}
use Rattle.lf_model.specs.declared.config.Config.{Config}
use Rattle.lf_model.specs.declared.config.Shape.{Shape}
use Rattle.lf_model.specs.declared.flip.Flip.{Flip}
use Rattle.lf_model.specs.declared.flip.Flip.TheVariants.{Mem, Reg, Tag, Line}
use Rattle.lf_model.specs.declared.setup.Setup.{Setup}
use Rattle.run_trace.specs.Gathered.{IsWithinLimits}
use Rattle.scrubber.specs.WalkState.{IsScrubRange}

-- a word of RAM of this size, by its address
pub record IsWordOfRam (ram addr : ℕ) : Type 0 where
  pub aligned : addr % 4 ≡ 0
  pub in_ram : IsTrue (is_in_ram ram addr 4)

abbrev pub cache_shape : Config → Bool → Shape
cache_shape config fetch = if fetch then config.fetch_cache else config.load_cache

-- a way and a set of a cache
pub record IsOfCache (way set : ℕ) (shape : Shape) : Type 0 where
  pub way_fits : way < shape.ways
  pub set_fits : set < shape.sets

-- the flip is of a bit that the machine has
abbrev pub IsOfMachine : Config → Flip → Type 0
IsOfMachine config (Mem turn addr bit) = IsWordOfRam config.ram addr × (bit < 39)
IsOfMachine config (Reg core step cell bit) = (cell < 136) × (bit < 39)
IsOfMachine config (Tag core step fetch way set byte bit) = IsOfCache way set (cache_shape config fetch) × ((byte < 4) × (bit < 9))
IsOfMachine config (Line core step fetch way set byte bit) = IsOfCache way set (cache_shape config fetch) × ((byte < 32) × (bit < 9))

-- as many cores, steps, turns of the scrubber, flips and watched words as a machine may have; RAM, store buffers and caches of the sizes
-- that they may have; a range of lines of RAM for the scrubber; an image that can be loaded; flips of bits that the machine has; and watched
-- words of RAM
pub record IsPlayable (setup : Setup) : Type 0 where
  pub limits : IsWithinLimits setup
  pub ram : setup.config.ram % 65536 ≡ 0
  pub most_ram : setup.config.ram ≤ 16777216
  pub least_depth : 1 ≤ setup.config.buffer
  pub most_depth : setup.config.buffer ≤ 8
  pub fetch_cache : IsCacheShape setup.config.fetch_cache
  pub load_cache : IsCacheShape setup.config.load_cache
  pub scrub : IsScrubRange setup.config
  pub image : IsLoadable setup.config.ram setup.image
  pub flips : AllByRecursion (IsOfMachine setup.config) setup.flips
  pub watch : AllByRecursion (IsWordOfRam setup.config.ram) setup.config.watch
