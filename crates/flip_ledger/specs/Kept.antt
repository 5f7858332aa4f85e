-- How a ledger is kept.
use Rattle.std.specs.Prelude.{ℕ, ◌<◌, length, map, All, slice_index_or}
use Rattle.flip_ledger.specs.Ledger.{Ledger}
use Rattle.flip_ledger.specs.Standing.{numbers_of}
use Rattle.flip_ledger.specs.declared.ledger.FlipLedger.TheInside.{Inside}
use Rattle.flip_ledger.specs.declared.standing.Standing.TheVariants.{Empty}

abbrev pub seen : Inside → Ledger
seen l = record { standing = map numbers_of l.standing.items; flips = l.flips.items; turn = l.turn }

-- the flips that stand in units are flips of the script
pub record IsKept (l : Inside) : Type 0 where
  pub known : (unit : ℕ) → unit < length l.standing.items → All (λ number. number < length l.flips.items) (numbers_of (slice_index_or l.standing.items unit Empty))
