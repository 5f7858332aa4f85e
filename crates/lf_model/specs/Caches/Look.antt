-- The tag check and the look-up of a cache (GRLIB, LEON3FT, cache subsystem). The order of the checks, and what is dropped and
-- counted, are this machine's own.
use Rattle.std.specs.Prelude.{ℕ, not, Bool, true, false, Option, Some, None, fold, if◌then◌else◌}
use Rattle.lf_model.specs.Caches.Slot.{has_struck_tag, has_wanted_words, has_struck_byte, dropped_by_tag, dropped_by_byte}
use Rattle.lf_model.specs.Caches.Cache.{Cache, raised, slot_at, with_slot, set_of, matching, used}
use Rattle.lf_model.specs.declared.bus.Why.{Why}
use Rattle.lf_model.specs.declared.bus.Why.TheVariants as whys

-- ---- the tag check

-- a cache whose set was checked, and whether a way was dropped
pub record Checked : Type 0 where
  pub dropped : Bool
  pub cache : Cache

-- one way is checked: where a tag byte is struck its line is dropped, and the counter of tag errors rises
abbrev pub check_way : Checked → ℕ → Checked
check_way k i = if has_struck_tag (slot_at i k.cache)
    then record { dropped = true; cache = record (with_slot dropped_by_tag i k.cache) { tag_errors = raised k.cache.tag_errors } }
    else k

-- the set of an address is checked, way by way
abbrev pub checked : ℕ → Cache → Checked
checked addr cache = fold check_way (record { dropped = false; cache = cache }) (set_of addr cache)

-- ---- the look-up

-- it hits in a slot, or misses with a cause
pub data LookUp : Type 0 where
  Hit : (slot : ℕ) → LookUp
  Miss : Why → LookUp

pub record Looked : Type 0 where
  pub answer : LookUp
  pub cache : Cache

-- the line is present in slot i: it hits where the wanted words are valid and none of their bytes is struck. A struck one drops
-- the line, and the counter of byte errors rises.
abbrev pub look_in : ℕ → ℕ → ℕ → Cache → Looked
look_in addr len i cache = if not (has_wanted_words addr len (slot_at i cache)) then record { answer = Miss whys.Word; cache = cache }
    else if has_struck_byte addr len (slot_at i cache) then record {
      answer = Miss whys.Byte;
      cache = record (with_slot (dropped_by_byte addr len) i cache) { byte_errors = raised cache.byte_errors };
    }
    else record { answer = Hit i; cache = used i cache }

-- the look-up after the tag check, by the slot in which the line is present. Without one it misses, by a struck tag where the
-- check dropped a way.
abbrev pub look_by : ℕ → ℕ → Checked → Option ℕ → Looked
look_by addr len k (Some i) = look_in addr len i k.cache
look_by addr len k None = record { answer = Miss (if k.dropped then whys.Tag else whys.Absent); cache = k.cache }

-- a look-up of so many bytes at an address
unfoldable pub look : ℕ → ℕ → Cache → Looked
look addr len cache = let k = checked addr cache in look_by addr len k (matching addr k.cache)
