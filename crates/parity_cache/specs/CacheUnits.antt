-- The units of a cache: the bytes of its tags and of its lines.
use Rattle.std.specs.Prelude.{◌≡◌, ℕ, ◌+◌, ◌*◌, ◌<◌, false, List, if◌then◌else◌}
use Rattle.flip_ledger.specs.Follows.{has_struck}
use Rattle.lf_model.specs.Caches.Cache.{Cache, slot_at}
use Rattle.lf_model.specs.Caches.Slot.{history_at}
use Rattle.lf_model.specs.Course.Arrays.{struck_tag, struck_line}
use Rattle.lf_model.specs.Flips.{Moment}
use Rattle.parity_cache.specs.declared.unit.Unit.{Unit}

-- a unit of a cache of this shape
pub record IsUnit (at : Unit) (cache : Cache) : Type 0 where
  pub way_fits : at.way < cache.shape.ways
  pub set_fits : at.set < cache.shape.sets
  pub byte_fits : at.byte < (if at.tag then 4 else 32)

abbrev pub slot_of_unit : Unit → Cache → ℕ
slot_of_unit at cache = at.set * cache.shape.ways + at.way

abbrev pub history_of_unit : Unit → Cache → List Moment
history_of_unit at cache = let slot = slot_at (slot_of_unit at cache) cache in history_at at.byte (if at.tag then slot.tag_histories else slot.line_histories)

abbrev pub struck_at : ℕ → ℕ → Unit → Cache → Cache
struck_at number bit at cache = if at.tag then struck_tag number bit at.way at.set at.byte cache else struck_line number bit at.way at.set at.byte cache

-- a flip of the script has not come to any unit
abbrev pub IsToCome : ℕ → Cache → Type 0
IsToCome number cache = (at : Unit) → IsUnit at cache → has_struck number (history_of_unit at cache) ≡ false
