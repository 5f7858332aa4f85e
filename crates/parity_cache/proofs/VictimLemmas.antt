-- The slot that a fill takes is one of its set.
use Rattle.std.proofs.Common.{◌≡◌, ◌≢◌, ℕ, zero, suc, ◌+◌, ◌-◌, ◌*◌, ◌/◌, ◌%◌, ◌<◌, ◌≤◌, Bool, true, false, cond, nat_lt, not, Option, Some, None, refl, sym, ap, ◌∙◌, arith}
use Rattle.std.specs.Prelude.{find, fold, unwrap_or, ⊤}
use Rattle.std.specs.List.{range_with_len}
use Rattle.std.specs.Option.{option_or}
use Rattle.std.proofs.lemmas.Nat.{mod-mul-add}
use Rattle.lf_model.specs.Caches.Cache.{Cache, slot_at, way_of}
use Rattle.lf_model.specs.Caches.Change.{older, victim}
use Rattle.lf_model.specs.Caches.Slot.{is_present, holds}

-- one of so many slots from the first on, if any
abbrev pub IsAmong : ℕ → ℕ → Option ℕ → Type 0
IsAmong a n None = ⊤
IsAmong a n (Some i) = (a ≤ i) × (i < a + n)

wider : (a n : ℕ) (o : Option ℕ) → IsAmong (a + 1) n o → IsAmong a (suc n) o
wider a n None is = is
wider a n (Some i) is = (omega (arith, is.0), omega (arith, is.1))

find_among : (p : ℕ → Bool) (a n : ℕ) → IsAmong a n (find p (range_with_len a n))
find_among p a zero = tt
find_among p a (suc n) = go (p a) (find_among p (a + 1) n)
  where
    go : (b : Bool) → IsAmong (a + 1) n (find p (range_with_len (a + 1) n)) → IsAmong a (suc n) (cond b (Some a) (find p (range_with_len (a + 1) n)))
    go true later = (omega arith, omega arith)
    go false later = wider a n (find p (range_with_len (a + 1) n)) later

-- the older of one of them and others
older_among : (cache : Cache) (a m b n : ℕ) (i : ℕ) → a ≤ i → i < a + m → a ≤ b → b + n ≤ a + m → IsAmong a m (fold (older cache) (Some i) (range_with_len b n))
older_among cache a m b zero i from to first last = (from, to)
older_among cache a m b (suc n) i from to first last =
    go (nat_lt (slot_at b cache).used (slot_at i cache).used)
    (older_among cache a m (b + 1) n b first (omega (arith, last)) (omega (arith, first)) (omega (arith, last)))
    (older_among cache a m (b + 1) n i from to (omega (arith, first)) (omega (arith, last)))
  where
    go : (t : Bool) → IsAmong a m (fold (older cache) (Some b) (range_with_len (b + 1) n)) → IsAmong a m (fold (older cache) (Some i) (range_with_len (b + 1) n))
        → IsAmong a m (fold (older cache) (cond t (Some b) (Some i)) (range_with_len (b + 1) n))
    go true here before = here
    go false here before = before

first_of : (a n : ℕ) (o p q : Option ℕ) → IsAmong a n o → IsAmong a n p → IsAmong a n q → q ≢ None → IsAmong a n (Some (unwrap_or (option_or o (option_or p q)) 0))
first_of a n (Some i) p q o_is p_is q_is some = o_is
first_of a n None (Some i) q o_is p_is q_is some = p_is
first_of a n None None (Some i) o_is p_is q_is some = q_is
first_of a n None None None o_is p_is q_is some = absurd (some refl)

-- the oldest of some slots is one
oldest_some : (cache : Cache) (i b n : ℕ) → fold (older cache) (Some i) (range_with_len b n) ≢ None
oldest_some cache i b zero = λ e. none e
  where
    none : Some i ≡ None → ⊥
    none e = cc
oldest_some cache i b (suc n) = go (nat_lt (slot_at b cache).used (slot_at i cache).used) (oldest_some cache b (b + 1) n) (oldest_some cache i (b + 1) n)
  where
    go : (t : Bool) → fold (older cache) (Some b) (range_with_len (b + 1) n) ≢ None → fold (older cache) (Some i) (range_with_len (b + 1) n) ≢ None
        → fold (older cache) (cond t (Some b) (Some i)) (range_with_len (b + 1) n) ≢ None
    go true here before = here
    go false here before = before

pub victim_among : (addr : ℕ) (cache : Cache) → 1 ≤ cache.shape.ways → IsAmong (addr / 32 % cache.shape.sets * cache.shape.ways) cache.shape.ways (Some (victim addr cache))
unfolding victim
victim_among addr cache some = go cache.shape.ways some
  where
    go : (n : ℕ) → 1 ≤ n → IsAmong (addr / 32 % cache.shape.sets * cache.shape.ways) n
        (Some (unwrap_or (option_or (find (λ i. holds addr (slot_at i cache)) (range_with_len (addr / 32 % cache.shape.sets * cache.shape.ways) n))
        (option_or (find (λ i. not (is_present (slot_at i cache))) (range_with_len (addr / 32 % cache.shape.sets * cache.shape.ways) n))
        (fold (older cache) None (range_with_len (addr / 32 % cache.shape.sets * cache.shape.ways) n)))) 0))
    go zero some = absurd (omega (arith, some))
    go (suc n) some =
        let first : ℕ = addr / 32 % cache.shape.sets * cache.shape.ways in
        first_of first (suc n) (find (λ i. holds addr (slot_at i cache)) (range_with_len first (suc n))) (find (λ i. not (is_present (slot_at i cache))) (range_with_len first (suc n)))
        (fold (older cache) (Some first) (range_with_len (first + 1) n))
        (find_among (λ i. holds addr (slot_at i cache)) first (suc n)) (find_among (λ i. not (is_present (slot_at i cache))) first (suc n))
        (older_among cache first (suc n) (first + 1) n first (omega arith) (omega arith) (omega arith) (omega arith)) (oldest_some cache first (first + 1) n)

-- so its way tells it
pub victim_way : (addr : ℕ) (cache : Cache) → 1 ≤ cache.shape.ways → addr / 32 % cache.shape.sets * cache.shape.ways + way_of (victim addr cache) cache ≡ victim addr cache
victim_way addr cache some =
    let first : ℕ = addr / 32 % cache.shape.sets * cache.shape.ways in
    let among = victim_among addr cache some in
    let k : ℕ = victim addr cache - first in
    let is : victim addr cache ≡ first + k = omega (arith, among.0) in
    let few : k < cache.shape.ways = omega (arith, among.1, is) in
    ap (λ (n : ℕ). first + n % cache.shape.ways) is
    ∙ ap (λ (n : ℕ). first + n) (mod-mul-add (addr / 32 % cache.shape.sets) cache.shape.ways k few)
    ∙ sym is
