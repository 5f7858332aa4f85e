-- A load that hits reads the bytes that are resident at its address.
use Rattle.std.proofs.Common.{◌≡◌, ◌∙◌, ◌+◌, ◌*◌, ◌/◌, ◌%◌, ◌<◌, ◌≤◌, ℕ, zero, suc, Bool, true, false, Option, Some, None, refl, sym, subst, arith, inl, inr}
use Rattle.std.proofs.lemmas.Bool.{cases_Bool, cases_lt, and_parts}
use Rattle.std.specs.Prelude.{Contains}
use Rattle.std.specs.List.{list_all, list_any, range_with_len}
use Rattle.lf_model.specs.Caches.Cache.{Cache, slot_at, matching}
use Rattle.lf_model.specs.Caches.Look.{checked, look_in, look_by, look}
use Rattle.lf_model.specs.Caches.Look.LookUp.{Hit}
use Rattle.lf_model.specs.Caches.Slot.{history_at, is_valid_word, has_wanted_words, has_struck_byte, has_struck_tag}
use Rattle.lf_model.specs.Flips.{is_struck_byte}
use Rattle.parity_cache.proofs.SetPlaces.{matches, same_set_of, same_holds}
use Rattle.parity_cache.specs.CacheState.{CacheState}
use Rattle.parity_cache.specs.Resident.{IsResident}
use Rattle.parity_slots.proofs.AccessLemmas.{lies}
use Rattle.parity_slots.specs.SlotState.{IsAccess}

-- ---- a hit

pub all_in : (p : ℕ → Bool) (first n j : ℕ) → list_all p (range_with_len first n) ≡ true → first ≤ j → j < first + n → p j ≡ true
all_in p first zero j h from below = absurd (omega (arith, from, below))
all_in p first (suc n) j h from below =
    let parts = and_parts (p first) (list_all p (range_with_len (first + 1) n)) h in
    elim (cases_lt first j) [
      | inl later ↦ all_in p (first + 1) n j parts.1 (omega (arith, later)) (omega (arith, below))
      | inr here ↦ let same : first ≡ j = omega (arith, from, here) in subst (λ m. p m ≡ true) same parts.0
    ]

pub none_in : (p : ℕ → Bool) (first n j : ℕ) → list_any p (range_with_len first n) ≡ false → first ≤ j → j < first + n → p j ≡ false
none_in p first zero j h from below = absurd (omega (arith, from, below))
none_in p first (suc n) j h from below = elim (cases_Bool (p first)) [
  | inl so ↦ let no : true ≡ false = rw so at h in absurd (cc)
  | inr not_so ↦
      let rest : list_any p (range_with_len (first + 1) n) ≡ false = rw not_so at h in
      elim (cases_lt first j) [
        | inl later ↦ none_in p (first + 1) n j rest (omega (arith, later)) (omega (arith, below))
        | inr here ↦ let same : first ≡ j = omega (arith, from, here) in subst (λ m. p m ≡ false) same not_so
      ]
]

-- the line is present in slot i, and the wanted words are good
pub record Hits (addr len i : ℕ) (c : Cache) : Type 0 where
  pub found : matching addr c ≡ Some i
  pub wanted : has_wanted_words addr len (slot_at i c) ≡ true
  pub good : has_struck_byte addr len (slot_at i c) ≡ false

hits_in : (addr len i j : ℕ) (c : Cache) (wanted struck : Bool) → matching addr c ≡ Some j → has_wanted_words addr len (slot_at j c) ≡ wanted → has_struck_byte addr len (slot_at j c) ≡ struck
    → (look_in addr len j c).answer ≡ Hit i → Hits addr len i c
hits_in addr len i j c false struck at is is' h = let no = rw is at h in absurd (cc)
hits_in addr len i j c true true at is is' h = let no = rw (is, is') at h in absurd (cc)
hits_in addr len i j c true false at is is' h =
    let hit : Hit j ≡ Hit i = rw (is, is') at h in
    let same : j ≡ i = cc in
    subst (λ m. Hits addr len m c) same (record { found = at; wanted = is; good = is' })

hits_by : (addr len i : ℕ) (dropped : Bool) (c : Cache) (found : Option ℕ) → matching addr c ≡ found → (look_by addr len (record { dropped = dropped; cache = c }) found).answer ≡ Hit i → Hits addr len i c
hits_by addr len i dropped c None at h = absurd (cc)
hits_by addr len i dropped c (Some j) at h = hits_in addr len i j c (has_wanted_words addr len (slot_at j c)) (has_struck_byte addr len (slot_at j c)) at refl refl h

pub hits : (addr len i : ℕ) (c : Cache) → (look addr len c).answer ≡ Hit i → Hits addr len i (checked addr c).cache
unfolding look
hits addr len i c h = hits_by addr len i (checked addr c).dropped (checked addr c).cache (matching addr (checked addr c).cache) refl h

-- ---- its bytes are resident

module _ (addr len i : ℕ) (access : IsAccess addr len) (c : CacheState) (h : Hits addr len i c.cache) (clean : has_struck_tag (slot_at i c.cache) ≡ false) where
  pub resident : (a : ℕ) → addr ≤ a → a < addr + len → IsResident c i a
  resident a from below =
      let l = lies addr len access in
      let m = matches c.cache addr i h.found in
      let line : a / 32 ≡ addr / 32 = omega (arith, l.ends, l.bytes_fit, from, below) in
      let place : (4 * (addr / 4 % 8) ≤ a % 32) × (a % 32 < 4 * (addr / 4 % 8) + 4 * ((len + 3) / 4)) =
      (omega (arith, l.begins, l.ends, l.bytes_fit, from, below), omega (arith, l.begins, l.ends, l.bytes_fit, from, below)) in
      record {
        of_set = subst (λ ws. Contains ws i) (same_set_of c.cache addr a (sym line)) m.of_set;
        held = same_holds a addr (slot_at i c.cache) line ∙ m.held;
        valid = all_in (is_valid_word (slot_at i c.cache)) (addr / 4 % 8) ((len + 3) / 4) (a / 4 % 8) h.wanted (omega (arith, place.0)) (omega (arith, place.1));
        tag_good = clean;
        byte_good = none_in (λ j. is_struck_byte (history_at j (slot_at i c.cache).line_histories)) (4 * (addr / 4 % 8)) (4 * ((len + 3) / 4)) (a % 32) h.good place.0 place.1;
      }
