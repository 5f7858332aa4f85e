-- How units are kept.
use Rattle.std.specs.Prelude.{◌≡◌, ℕ, ◌<◌, List, length, map, slice_index_or}
use Rattle.std.specs.List.{AllByRecursion}
use Rattle.flip_ledger.specs.Follows.{Follows}
use Rattle.lf_model.specs.Caches.Slot.{history_at}
use Rattle.lf_model.specs.Flips.{Moment, standing}
use Rattle.replay_units.specs.Bits.{bits_of, bit_of, IsPlace}
use Rattle.replay_units.specs.Units.{Units}
use Rattle.replay_units.specs.declared.bits.Bits.{Bits}
use Rattle.replay_units.specs.declared.bits.Bits.TheVariants.{Empty}
use Rattle.replay_units.specs.declared.units.Units.TheInside.{Inside}

abbrev pub seen : Inside → Units
seen u = record { budget = u.budget; histories = u.histories; flips = length u.ledger.flips }

-- the history of each unit of the ledger
abbrev pub unit_histories : List (List Moment) → ℕ → List Moment
unit_histories histories unit = history_at unit histories

abbrev pub bits_at : List Bits → ℕ → List ℕ
bits_at bits unit = bits_of (slice_index_or bits unit Empty)

-- the bits of each unit are those of the flips that stand in it
pub record AreBits (budget : ℕ) (histories : List (List Moment)) (bits : List Bits) : Type 0 where
  pub long : length bits ≡ length histories
  pub each : (unit : ℕ) → unit < length histories → map bit_of (standing budget (history_at unit histories)) ≡ bits_at bits unit
  pub places : (unit : ℕ) → unit < length histories → AllByRecursion IsPlace (bits_at bits unit)

pub record IsKept (u : Inside) : Type 0 where
  pub budget : u.budget < 3
  pub units : length u.ledger.standing ≡ length u.histories
  pub bits : AreBits u.budget u.histories u.bits.items
  pub follows : Follows u.budget (unit_histories u.histories) u.ledger
