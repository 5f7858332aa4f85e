-- The number that a load reads, where it hits, is that of the bytes that the caches hold.
use Rattle.std.proofs.Common.{◌≡◌, ◌∙◌, ◌+◌, ◌-◌, ◌*◌, ◌/◌, ◌%◌, ◌<◌, ◌≤◌, ◌^◌, ℕ, zero, suc, false, List, [], ◌∷◌, length, take, drop, fold, slice_index, refl, ap, sym, subst, add-one, arith, inl, inr}
use Rattle.std.proofs.Math.Nat.{pow-suc, div-div-eq-div-mul}
use Rattle.std.proofs.lemmas.Bool.{cases_Bool, cases_lt}
use Rattle.std.proofs.lemmas.List.{get_or-drop, get_or-take, length-take-le, length-drop}
use Rattle.std.specs.List.{AllByRecursion as Each}
use Rattle.std.specs.Prelude.{Contains}
use Rattle.core_course.proofs.HitReads.{Hits, hits, resident}
use Rattle.lf_model.specs.Caches.Cache.{Cache, slot_at, set_of}
use Rattle.lf_model.specs.Caches.Look.{Checked, checked, check_way, look}
use Rattle.lf_model.specs.Caches.Look.LookUp.{Hit}
use Rattle.lf_model.specs.Caches.Slot.{has_struck_tag}
use Rattle.lf_model.specs.Operation.{byte_of, byte_put, touches}
use Rattle.lf_model.specs.Value.{Reads, stored}
use Rattle.lf_model.specs.declared.bus.Entry.{Entry}
use Rattle.parity_cache.proofs.Bytes.{touched_from}
use Rattle.parity_cache.proofs.LessResident.{less_checked, holds_less, set_as}
use Rattle.parity_cache.proofs.SetLemmas.{way_clean, way_others, way_slots, checked_from, checked_next, checked_step}
use Rattle.parity_cache.proofs.SetPlaces.{InRange, contained, first_of, set_range, set_within, are_sets, matches}
use Rattle.parity_cache.specs.CacheState.{CacheState, line_at, with_cache}
use Rattle.parity_cache.specs.Resident.{Holds, IsWellFormed}
use Rattle.parity_slots.proofs.AccessLemmas.{lies}
use Rattle.parity_slots.specs.SlotState.{IsAccess, value_at}

-- ---- a number of bytes

abbrev pushed : ℕ → ℕ → ℕ
pushed n byte = n * 256 + byte

above : (bs : List ℕ) (m : ℕ) → Each (λ b. b < 256) bs → fold pushed m bs / 256 ^ length bs ≡ m
above [] m h = omega arith
above (b ∷ bs) m h =
    ap (λ p. fold pushed (m * 256 + b) bs / p) (pow-suc 256 (length bs))
    ∙ (sym (div-div-eq-div-mul (fold pushed (m * 256 + b) bs) (256 ^ length bs) 256)
    ∙ (ap (λ n. n / 256) (above bs (m * 256 + b) h.1) ∙ first m b h.0))
  where
    first : (m b : ℕ) → b < 256 → (m * 256 + b) / 256 ≡ m
    first m b small = omega (arith, small)

digit : (bs : List ℕ) (m i : ℕ) → Each (λ b. b < 256) bs → i < length bs → byte_of (fold pushed m bs) (length bs) i ≡ slice_index bs i
digit [] m i h within = absurd (omega (arith, within))
digit (b ∷ bs) m zero h within =
    let place : suc (length bs) - 1 - 0 ≡ length bs = omega arith in
    ap (λ k. fold pushed (m * 256 + b) bs / 256 ^ k % 256) place ∙ (ap (λ n. n % 256) (above bs (m * 256 + b) h.1) ∙ last m b h.0)
  where
    last : (m b : ℕ) → b < 256 → (m * 256 + b) % 256 ≡ b
    last m b small = omega (arith, small)
digit (b ∷ bs) m (suc i) h within =
    let place : suc (length bs) - 1 - suc i ≡ length bs - 1 - i = omega arith in
    ap (λ k. fold pushed (m * 256 + b) bs / 256 ^ k % 256) place ∙ digit bs (m * 256 + b) i h.1 (omega (arith, within))

each_small : (bs : List ℕ) → ((i : ℕ) → i < length bs → slice_index bs i < 256) → Each (λ b. b < 256) bs
each_small [] h = tt
each_small (b ∷ bs) h = (h 0 (omega arith), each_small bs (λ i within. h (suc i) (omega (arith, within))))

-- ---- after the tag check no tag byte of the set is struck

record CleanTo (first n : ℕ) (c : Cache) : Type 0 where
  count : length (checked_from first n c).cache.slots ≡ length c.slots
  clean : (m : ℕ) → m < n → has_struck_tag (slot_at (first + m) (checked_from first n c).cache) ≡ false

clean_to : (first n : ℕ) (c : Cache) → ((m : ℕ) → m < n → first + m < length c.slots) → CleanTo first n c
clean_to first zero c within = record { count = refl; clean = λ m below. absurd (omega (arith, below)) }
clean_to first (suc n) c within =
    let before : CleanTo first n c = clean_to first n c (λ m below. within m (omega (arith, below))) in
    let k : Cache = (checked_from first n c).cache in
    let here : first + n < length k.slots = omega (arith, before.count, within n (omega arith)) in
    let next : (checked_from first (suc n) c).cache ≡ (check_way (record { dropped = false; cache = k }) (first + n)).cache =
    ap (λ m. (checked_from first m c).cache) (sym (add-one n)) ∙ (ap (λ (x : Checked). x.cache) (checked_next first n c) ∙ ap (λ (x : Checked). x.cache) (checked_step (checked_from first n c) (first + n))) in
    record {
      count = ap (λ (x : Cache). length x.slots) next ∙ (way_slots k (first + n) here ∙ before.count);
      clean = λ m below. ap (λ (x : Cache). has_struck_tag (slot_at (first + m) x)) next ∙ elim (cases_lt m n) [
        | inl less ↦ ap has_struck_tag (way_others k (first + n) here (first + m) (λ same. absurd (omega (arith, same, less)))) ∙ before.clean m less
        | inr last ↦
            let same : n ≡ m = omega (arith, last, below) in
            subst (λ (i : ℕ). has_struck_tag (slot_at (first + i) (check_way (record { dropped = false; cache = k }) (first + n)).cache) ≡ false) same (way_clean k (first + n) here)
      ];
    }

module _ (addr : ℕ) (c : CacheState) (formed : IsWellFormed c) where
  pub clean_set : (i : ℕ) → Contains (set_of addr c.cache) i → has_struck_tag (slot_at i (checked addr c.cache).cache) ≡ false
  clean_set i of_set =
      let first = first_of c.cache addr in
      let r : InRange first c.cache.shape.ways i = set_range c.cache addr i of_set in
      let all = clean_to first c.cache.shape.ways c.cache
      (λ m below. set_within c.cache addr (first + m) (contained first c.cache.shape.ways (first + m) (record { from = omega arith; below = omega (arith, below) }))
      (are_sets c.cache.shape.sets formed.shape.sets).some formed.slots) in
      let at : first + (i - first) ≡ i = omega (arith, r.from) in
      subst (λ (j : ℕ). has_struck_tag (slot_at j (checked addr c.cache).cache) ≡ false) at (all.clean (i - first) (omega (arith, r.from, r.below)))

-- ---- what a hit reads

module _ (byte : ℕ → ℕ) (small : (a : ℕ) → byte a < 256) (addr len i : ℕ) (access : IsAccess addr len) (bound : addr < 2 ^ 32) (c : CacheState) (formed : IsWellFormed c) (held : Holds byte c)
    (hit : (look addr len c.cache).answer ≡ Hit i) where
  abbrev tagged : CacheState
  tagged = with_cache (checked addr c.cache).cache c

  wanted : (a : ℕ) → addr ≤ a → a < addr + len → slice_index (line_at i c) (a % 32) ≡ byte a
  wanted a from below =
      let less = less_checked addr c.cache in
      let h : Hits addr len i (checked addr c.cache).cache = hits addr len i c.cache hit in
      let m = matches (checked addr c.cache).cache addr i h.found in
      let of_set : Contains (set_of addr c.cache) i = set_as c.cache (checked addr c.cache).cache addr i less.shape m.of_set in
      holds_less c (checked addr c.cache).cache less byte byte held (λ slot b lt is. refl) i a (omega (arith, (lies addr len access).ends, (lies addr len access).bytes_fit, bound, below))
      (resident addr len i access tagged h (clean_set addr c formed i of_set) a from below)

  in_set : Contains (set_of addr c.cache) i
  in_set = set_as c.cache (checked addr c.cache).cache addr i (less_checked addr c.cache).shape (matches (checked addr c.cache).cache addr i (hits addr len i c.cache hit).found).of_set

  line_long : length (line_at i c) ≡ 32
  line_long = formed.bytes i (subst (λ (n : ℕ). i < n) (sym formed.lines) (set_within c.cache addr i in_set (are_sets c.cache.shape.sets formed.shape.sets).some formed.slots))

  abbrev bytes : List ℕ
  bytes = take len (drop (addr % 32) (line_at i c))

  at_byte : (j : ℕ) → j < len → slice_index bytes j ≡ byte (addr + j)
  at_byte j within =
      let place : addr % 32 + j ≡ (addr + j) % 32 = omega (arith, (lies addr len access).ends, (lies addr len access).bytes_fit, within) in
      get_or-take len (drop (addr % 32) (line_at i c)) j 0 within
      ∙ (get_or-drop (addr % 32) (line_at i c) j 0
      ∙ (ap (slice_index (line_at i c)) place ∙ wanted (addr + j) (omega arith) (omega (arith, within))))

  count : length bytes ≡ len
  count = length-take-le len (drop (addr % 32) (line_at i c)) (omega (arith, length-drop (addr % 32) (line_at i c), line_long, (lies addr len access).ends, (lies addr len access).bytes_fit))

  pub byte_read : (a : ℕ) → addr ≤ a → a < addr + len → byte_of (value_at addr len (line_at i c)) len (a - addr) ≡ byte a
  byte_read a from below =
      let within : a - addr < length bytes = omega (arith, count, from, below) in
      let at : addr + (a - addr) ≡ a = omega (arith, from) in
      ap (λ n. byte_of (value_at addr len (line_at i c)) n (a - addr)) (sym count)
      ∙ (digit bytes 0 (a - addr) (each_small bytes (λ j less. subst (λ n. n < 256) (sym (at_byte j (omega (arith, count, less)))) (small (addr + j)))) within
      ∙ (at_byte (a - addr) (omega (arith, count, within)) ∙ ap byte at))

-- ---- a load

byte_put_small : (a : ℕ) (e : Entry) → byte_put a e < 256
byte_put_small a e = omega arith

pub stored_small : (a byte : ℕ) (es : List Entry) → byte < 256 → stored a es byte < 256
stored_small a byte [] small = small
stored_small a byte (e ∷ es) small = elim (cases_Bool (touches a e)) [
  | inl is ↦ rw is (stored_small a (byte_put a e) es (byte_put_small a e))
  | inr none ↦ rw none (stored_small a byte es small)
]

-- the data cache holds what these entries left in memory: so a load that hits reads that
pub hit_reads : (initial : ℕ → ℕ) → ((a : ℕ) → initial a < 256) → (entries : List Entry) (r : Entry) (i : ℕ) → IsAccess r.addr r.len → r.addr < 2 ^ 32
    → (c : CacheState) → IsWellFormed c → Holds (λ a. stored a entries (initial a)) c → (look r.addr r.len c.cache).answer ≡ Hit i → r.got ≡ value_at r.addr r.len (line_at i c) → Reads initial r entries
hit_reads initial small entries r i access bound c formed held hit got a touched_ =
    let within = touched_from a r touched_ in
    ap (λ n. byte_of n r.len (a - r.addr)) got
    ∙ byte_read (λ b. stored b entries (initial b)) (λ b. stored_small b (initial b) entries (small b)) r.addr r.len i access bound c formed held hit a within.0 within.1
