-- Residence in plain words: a look-up hits in a slot exactly where the wanted words are valid words of the last fill of that slot,
-- which was of that line and was not dropped or flushed since, no tag byte of the slot is struck, and none of the bytes of these
-- words is. This is a law about caches, over all that was done to one since reset.
use Rattle.std.specs.Prelude.{ℕ, ◌≡◌, ◌≤◌, ◌<◌, ◌%◌, ◌^◌, ◌==◌, ◌&&◌, ◌||◌, not, Bool, true, false, List, [], ◌∷◌, Option, Some, None, if◌then◌else◌}
use Rattle.std.specs.Int.{bit_at}
use Rattle.std.specs.List.{AllByRecursion, list_all, list_any}
use Rattle.std.specs.Option.{option_map_or, option_or}
use Rattle.lf_model.specs.Caches.Slot.{Slot, befalls, line_of, wanted_words, has_wanted_words, has_struck_byte, has_struck_tag}
use Rattle.lf_model.specs.Caches.Cache.{Cache, empty_cache, slot_at, with_slot, set_of, matching}
use Rattle.lf_model.specs.Caches.Change.{updated, snooped, victim, filled, flushed}
use Rattle.lf_model.specs.Caches.Look.{LookUp, checked, look}
use Rattle.lf_model.specs.Caches.Look.LookUp.{Hit, Miss}
use Rattle.lf_model.specs.Flips.Moment.{Struck}
use Rattle.lf_model.specs.declared.config.Shape.{Shape}

-- what is done to a cache: a look-up, an own store, a snooped store, a fill with these valid bits, a flush, and the flip of a bit
-- of a tag byte or of a byte of the line in a slot
pub data Act : Type 0 where
  ALook : (addr len : ℕ) → Act
  AStore : (addr len : ℕ) → Act
  ASnoop : (addr : ℕ) → Act
  AFill : (addr valid : ℕ) → Act
  AFlush : Act
  ATagFlip : (slot byte number bit : ℕ) → Act
  ALineFlip : (slot byte number bit : ℕ) → Act

abbrev pub with_tag_flip : ℕ → ℕ → ℕ → Slot → Slot
with_tag_flip byte number bit slot = record slot { tag_histories = befalls (λ h. Struck number bit ∷ h) byte slot.tag_histories }

abbrev pub with_line_flip : ℕ → ℕ → ℕ → Slot → Slot
with_line_flip byte number bit slot = record slot { line_histories = befalls (λ h. Struck number bit ∷ h) byte slot.line_histories }

-- a cache after an act, and after acts since reset, the last one first
abbrev pub acted : Cache → Act → Cache
acted cache (ALook addr len) = (look addr len cache).cache
acted cache (AStore addr len) = updated addr len cache
acted cache (ASnoop addr) = snooped cache addr
acted cache (AFill addr valid) = filled addr valid cache
acted cache AFlush = flushed cache
acted cache (ATagFlip slot byte number bit) = with_slot (with_tag_flip byte number bit) slot cache
acted cache (ALineFlip slot byte number bit) = with_slot (with_line_flip byte number bit) slot cache

abbrev pub cache_after : Shape → List Act → Cache
cache_after shape [] = empty_cache shape
cache_after shape (act ∷ earlier) = acted (cache_after shape earlier) act

-- ---- the last fill of a slot

abbrev pub is_in_set : ℕ → Cache → ℕ → Bool
is_in_set addr cache i = list_any (λ j. j == i) (set_of addr cache)

-- the tag check of the set of an address drops the line of slot i
abbrev pub check_drops : ℕ → Cache → ℕ → Bool
check_drops addr cache i = is_in_set addr cache i && has_struck_tag (slot_at i cache)

-- the cache after that check
abbrev pub after_check : ℕ → Cache → Cache
after_check addr cache = (checked addr cache).cache

-- in it, the line of the address is present in slot i
abbrev pub is_match : ℕ → Cache → ℕ → Bool
is_match addr cache i = option_map_or (λ j. j == i) (matching addr (after_check addr cache)) false

-- a look-up of so many bytes drops it for a struck byte
abbrev pub look_drops : ℕ → ℕ → Cache → ℕ → Bool
look_drops addr len cache i = is_match addr cache i
    && (has_wanted_words addr len (slot_at i (after_check addr cache)) && has_struck_byte addr len (slot_at i (after_check addr cache)))

-- an act drops the line of slot i
abbrev pub drops : Cache → ℕ → Act → Bool
drops cache i (ALook addr len) = check_drops addr cache i || look_drops addr len cache i
drops cache i (AStore addr len) = check_drops addr cache i
drops cache i (ASnoop addr) = check_drops addr cache i || is_match addr cache i
drops cache i (AFill addr valid) = false
drops cache i AFlush = true
drops cache i (ATagFlip slot byte number bit) = false
drops cache i (ALineFlip slot byte number bit) = false

-- a line that was filled in, and its valid bits
pub record LineFill : Type 0 where
  pub line : ℕ
  pub valid : ℕ

-- what an act fills into slot i
abbrev pub fills : Cache → ℕ → Act → Option LineFill
fills cache i (AFill addr valid) = if victim addr cache == i then Some (record { line = line_of addr; valid = valid }) else None
fills cache i (ALook addr len) = None
fills cache i (AStore addr len) = None
fills cache i (ASnoop addr) = None
fills cache i AFlush = None
fills cache i (ATagFlip slot byte number bit) = None
fills cache i (ALineFlip slot byte number bit) = None

-- the last fill of slot i, unless it was dropped or flushed since
abbrev pub last_fill : Shape → ℕ → List Act → Option LineFill
last_fill shape i [] = None
last_fill shape i (act ∷ earlier) = let cache = cache_after shape earlier in
    option_or (fills cache i act) (if drops cache i act then None else last_fill shape i earlier)

-- ---- the law

-- a fill was of the line of an address, and the wanted words are valid words of it
abbrev pub fill_has : ℕ → ℕ → LineFill → Bool
fill_has addr len fill = fill.line == line_of addr && list_all (λ j. bit_at fill.valid j == 1) (wanted_words addr len)

-- the wanted words are resident in slot i, and neither they nor its tag are struck
abbrev pub is_resident : Shape → List Act → ℕ → ℕ → ℕ → Bool
is_resident shape acts addr len i = option_map_or (fill_has addr len) (last_fill shape i acts) false
    && (not (has_struck_tag (slot_at i (cache_after shape acts))) && not (has_struck_byte addr len (slot_at i (cache_after shape acts))))

abbrev pub is_hit_in : ℕ → LookUp → Bool
is_hit_in i (Hit slot) = slot == i
is_hit_in i (Miss why) = false

-- a shape whose sets tell lines of one tag apart
pub record IsShape (shape : Shape) : Type 0 where
  pub ways : 1 ≤ shape.ways
  pub sets : 1 ≤ shape.sets
  pub by_eight : shape.sets % 8 ≡ 0

-- the address of a fill has 32 bits, and of the valid bits there are eight
abbrev pub FitsTag : Act → Type 0
FitsTag (AFill addr valid) = (addr < 2 ^ 32) × (valid < 2 ^ 8)
FitsTag (ALook addr len) = Unit {0}
FitsTag (AStore addr len) = Unit {0}
FitsTag (ASnoop addr) = Unit {0}
FitsTag AFlush = Unit {0}
FitsTag (ATagFlip slot byte number bit) = Unit {0}
FitsTag (ALineFlip slot byte number bit) = Unit {0}

-- a look-up hits exactly in a slot in which the wanted words are resident
abbrev pub HitsWhereResident : Type 0
HitsWhereResident = (shape : Shape) (acts : List Act) (addr len i : ℕ) → IsShape shape → AllByRecursion FitsTag acts → addr < 2 ^ 32 → 1 ≤ len
    → is_in_set addr (cache_after shape acts) i ≡ true → is_hit_in i (look addr len (cache_after shape acts)).answer ≡ is_resident shape acts addr len i
