-- What else is done to a cache: an own store updates it, a store of another core drops a line, a fill puts one in, and FLUSH
-- empties it (GRLIB, LEON3FT, cache subsystem). The rules are this machine's own.
use Rattle.std.specs.Prelude.{ℕ, ◌/◌, ◌%◌, nat_lt, not, List, Option, Some, None, find, filter, fold, map, unwrap_or, if◌then◌else◌}
use Rattle.std.specs.List.{range_with_len}
use Rattle.std.specs.Option.{option_or}
use Rattle.lf_model.specs.Caches.Slot.{Slot, is_present, is_valid_word, befalls_each, written, dropped, filled_slot}
use Rattle.lf_model.specs.Caches.Cache.{Cache, slot_at, with_slot, set_of, matching, used}
use Rattle.lf_model.specs.Caches.Look.{checked}

-- ---- an own store

-- the bytes of its line that a store writes: those of valid words
abbrev pub stored_bytes : ℕ → ℕ → Slot → List ℕ
stored_bytes addr len slot = filter (λ i. is_valid_word slot (i / 4)) (range_with_len (addr % 32) len)

abbrev pub stored_in : ℕ → ℕ → Slot → Slot
stored_in addr len slot = record slot { line_histories = befalls_each written (stored_bytes addr len slot) slot.line_histories }

abbrev pub update_by : ℕ → ℕ → Cache → Option ℕ → Cache
update_by addr len cache None = cache
update_by addr len cache (Some i) = used i (with_slot (stored_in addr len) i cache)

-- an own store of so many bytes: after the tag check, its bytes are written where the line is present
unfoldable pub updated : ℕ → ℕ → Cache → Cache
updated addr len cache = let k = checked addr cache in update_by addr len k.cache (matching addr k.cache)

-- ---- a store of another core

abbrev pub drop_by : Cache → Option ℕ → Cache
drop_by cache None = cache
drop_by cache (Some i) = with_slot dropped i cache

-- the cache snoops a store at an address: after the tag check, its line is dropped
unfoldable pub snooped : Cache → ℕ → Cache
snooped cache addr = let k = checked addr cache in drop_by k.cache (matching addr k.cache)

-- ---- a fill

-- of two slots the one that was used longer ago, the lower one where both never were
abbrev pub older : Cache → Option ℕ → ℕ → Option ℕ
older cache None i = Some i
older cache (Some j) i = if nat_lt (slot_at i cache).used (slot_at j cache).used then Some i else Some j

-- the slot that a fill takes: that in which the line is present, else the lowest way without a line, else the least recently
-- used way
unfoldable pub victim : ℕ → Cache → ℕ
victim addr cache = unwrap_or (option_or (matching addr cache)
    (option_or (find (λ i. not (is_present (slot_at i cache))) (set_of addr cache)) (fold (older cache) None (set_of addr cache)))) 0

-- a fill of the line of an address, with these valid bits
unfoldable pub filled : ℕ → ℕ → Cache → Cache
filled addr valid cache = let i = victim addr cache in used i (with_slot (filled_slot addr valid) i cache)

-- ---- FLUSH

-- every line is dropped, without a check
unfoldable pub flushed : Cache → Cache
flushed cache = record cache { slots = map dropped cache.slots }
