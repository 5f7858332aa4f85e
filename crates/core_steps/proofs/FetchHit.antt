-- A look-up of four bytes that hits reads resident bytes: where each of these is a byte of memory, the number is memory's word.
use Rattle.std.proofs.Common.{◌≡◌, ◌∙◌, ◌==◌, ℕ, ◌+◌, ◌-◌, ◌*◌, ◌/◌, ◌%◌, ◌^◌, ◌<◌, ◌≤◌, Bool, not, cond, true, false, List, [], ◌∷◌, Option, Some, None, length, slice_index, fold, take, drop, Contains, refl, ap, sym, subst, arith, inl, inr}
use Rattle.std.specs.List.{list_any, range_with_len}
use Rattle.std.specs.Option.{option_map_or}
use Rattle.std.proofs.lemmas.Bool.{cases_eq, cases_lt, eqb-true, eq-eqb, false≢true}
use Rattle.std.proofs.lemmas.List.{get_or-set_same, get_or-set_other, get_or_past}
use Rattle.std.proofs.lemmas.List.FromFn.{length-range_with_len, get_or-range_with_len}
use Rattle.lf_model.proofs.HitLemmas.{both, find_passes, good_words, hit_by}
use Rattle.lf_model.proofs.LineLemmas.{or_case, among}
use Rattle.lf_model.specs.Caches.Cache.{Cache, slot_at, with_slot, set_of, matching, raised}
use Rattle.lf_model.specs.Caches.Look.{Checked, check_way, checked, look_by, look}
use Rattle.lf_model.specs.Caches.Look.LookUp.{Hit}
use Rattle.lf_model.specs.Caches.Residence.{is_hit_in}
use Rattle.lf_model.specs.Caches.Slot.{empty_slot, dropped_by_tag, holds, history_at, is_valid_word, has_struck_tag, has_wanted_words, has_struck_byte}
use Rattle.lf_model.specs.Flips.{is_struck_byte}
use Rattle.lf_model.specs.Start.{number_at}
use Rattle.parity_cache.proofs.SetPlaces.{set_within, are_sets}
use Rattle.parity_cache.specs.CacheState.{CacheState, line_at}
use Rattle.parity_cache.specs.Resident.{IsResident, Holds, IsWellFormed}
use Rattle.parity_slots.proofs.RangeLemmas.{any_none, number_more}
use Rattle.parity_slots.specs.SlotState.{number_of, value_at}

-- ---- the tag check leaves a slot in which the line is present as it was, and its tag is not struck

abbrev is_among : ℕ → List ℕ → Bool
is_among i ws = list_any (λ j. j == i) ws

module _ (addr i : ℕ) where
  record Stays (k last : Checked) (ws : List ℕ) : Type 0 where
    same : slot_at i last.cache ≡ slot_at i k.cache
    clean : is_among i ws ≡ true → has_struck_tag (slot_at i k.cache) ≡ false

  abbrev dropped_at : Checked → ℕ → Checked
  dropped_at k w = record { dropped = true; cache = record (with_slot dropped_by_tag w k.cache) { tag_errors = raised k.cache.tag_errors } }

  -- the slot of a way that was dropped has no line
  gone : (k : Checked) → has_struck_tag (slot_at i k.cache) ≡ true → holds addr (slot_at i (dropped_at k i).cache) ≡ true → ⊥
  gone k struck held = elim (cases_lt i (length k.cache.slots)) [
    | inl lt ↦ false≢true (sym (ap (holds addr) (get_or-set_same k.cache.slots i (dropped_by_tag (slot_at i k.cache)) empty_slot lt)) ∙ held)
    | inr past ↦ false≢true (sym (ap has_struck_tag (get_or_past k.cache.slots i empty_slot past)) ∙ struck)
  ]

  one_by : (k : Checked) (w : ℕ) (struck : Bool) → has_struck_tag (slot_at w k.cache) ≡ struck → holds addr (slot_at i (cond struck (dropped_at k w) k).cache) ≡ true
      → (slot_at i (cond struck (dropped_at k w) k).cache ≡ slot_at i k.cache) × ((w == i) ≡ true → has_struck_tag (slot_at i k.cache) ≡ false)
  one_by k w false is held = (refl, λ same. subst (λ (j : ℕ). has_struck_tag (slot_at j k.cache) ≡ false) (eqb-true w i same) is)
  one_by k w true is held = elim (cases_eq i w) [
    | inl here ↦
        absurd (gone k (subst (λ (j : ℕ). has_struck_tag (slot_at j k.cache) ≡ true) (sym here) is)
        (subst (λ (j : ℕ). holds addr (slot_at i (dropped_at k j).cache) ≡ true) (sym here) held))
    | inr other ↦ (
      get_or-set_other k.cache.slots w i (dropped_by_tag (slot_at w k.cache)) empty_slot other,
      λ same. absurd (other (sym (eqb-true w i same))),
    )
  ]

  stays : (k : Checked) (ws : List ℕ) → holds addr (slot_at i (fold check_way k ws).cache) ≡ true → Stays k (fold check_way k ws) ws
  stays k [] held = record { same = refl; clean = λ none. absurd (false≢true none) }
  stays k (w ∷ ws) held =
      let later = stays (check_way k w) ws held in
      let one = one_by k w (has_struck_tag (slot_at w k.cache)) refl (sym (ap (holds addr) later.same) ∙ held) in
      record {
        same = later.same ∙ one.0;
        clean = λ is. elim (or_case (w == i) (is_among i ws) is) [
          | inl here ↦ one.1 here
          | inr there ↦ sym (ap has_struck_tag one.0) ∙ later.clean there
        ];
      }

-- ---- a hit

-- in this slot the line of an address is present, no byte of its tag is struck, and its wanted words are valid and not struck
record HitsIn (addr len i : ℕ) (cache : Cache) : Type 0 where
  of_set : is_among i (set_of addr cache) ≡ true
  held : holds addr (slot_at i cache) ≡ true
  clean : has_struck_tag (slot_at i cache) ≡ false
  words : has_wanted_words addr len (slot_at i cache) ≡ true
  bytes : has_struck_byte addr len (slot_at i cache) ≡ false

not_true : (b : Bool) → not b ≡ true → b ≡ false
not_true true e = absurd (false≢true e)
not_true false e = refl

shape_kept : (k : Checked) (ws : List ℕ) → (fold check_way k ws).cache.shape ≡ k.cache.shape
shape_kept k [] = refl
shape_kept k (w ∷ ws) = shape_kept (check_way k w) ws ∙ one (has_struck_tag (slot_at w k.cache))
  where
    one : (b : Bool) → (cond b (dropped_at 0 0 k w) k).cache.shape ≡ k.cache.shape
    one true = refl
    one false = refl

module _ (addr len i : ℕ) (cache : Cache) where
  abbrev last : Checked
  last = checked addr cache

  by_found : (found : Option ℕ) → matching addr last.cache ≡ found → is_hit_in i (look_by addr len last found).answer ≡ true → HitsIn addr len i cache
  by_found found is hit =
      let parts = both (option_map_or (λ j. j == i) found false) (good_words addr len last.cache i) (sym (hit_by addr len i last found) ∙ hit) in
      at found is parts.0 parts.1
    where
      at : (found : Option ℕ) → matching addr last.cache ≡ found → option_map_or (λ j. j == i) found false ≡ true → good_words addr len last.cache i ≡ true → HitsIn addr len i cache
      at None is here good = absurd (false≢true here)
      at (Some j) is here good =
          let same = eqb-true j i here in
          let found = find_passes (λ m. holds addr (slot_at m last.cache)) (set_of addr last.cache) i (is ∙ ap (λ (m : ℕ). Some m) same) in
          let kept = stays addr i (record { dropped = false; cache = cache }) (set_of addr cache) found.0 in
          let of_set : is_among i (set_of addr cache) ≡ true = ap (λ shape. is_among i (range_with_len (addr / 32 % shape.sets * shape.ways) shape.ways)) (sym (shape_kept (record { dropped = false; cache = cache }) (set_of addr cache))) ∙ found.1 in
          let words = both (has_wanted_words addr len (slot_at i last.cache)) (not (has_struck_byte addr len (slot_at i last.cache))) good in
          record {
            of_set = of_set;
            held = sym (ap (holds addr) kept.same) ∙ found.0;
            clean = kept.clean of_set;
            words = sym (ap (has_wanted_words addr len) kept.same) ∙ words.0;
            bytes = sym (ap (has_struck_byte addr len) kept.same) ∙ not_true (has_struck_byte addr len (slot_at i last.cache)) words.1;
          }

  hits_in : (look addr len cache).answer ≡ Hit i → HitsIn addr len i cache
  unfolding look
  hits_in is = by_found (matching addr last.cache) refl (ap (is_hit_in i) is ∙ eq-eqb i i refl)

-- ---- a word

-- the number of four bytes of a line
number_4 : (bytes : List ℕ) (at : ℕ) → at + 4 ≤ length bytes → number_of (take 4 (drop at bytes))
    ≡ ((slice_index bytes (at + 0) * 256 + slice_index bytes (at + 1)) * 256 + slice_index bytes (at + 2)) * 256 + slice_index bytes (at + 3)
number_4 bytes at fits =
    let one : number_of (take 1 (drop at bytes)) ≡ slice_index bytes (at + 0) = number_more bytes at 0 (omega (arith, fits)) ∙ omega arith in
    let two = number_more bytes at 1 (omega (arith, fits)) in
    let three = number_more bytes at 2 (omega (arith, fits)) in
    number_more bytes at 3 (omega (arith, fits))
    ∙ ap (λ (n : ℕ). n * 256 + slice_index bytes (at + 3)) (three ∙ ap (λ (n : ℕ). n * 256 + slice_index bytes (at + 2)) (two ∙ ap (λ (n : ℕ). n * 256 + slice_index bytes (at + 1)) one))

module _ (addr i : ℕ) (aligned : addr % 4 ≡ 0) (c : CacheState) (hit : (look addr 4 c.cache).answer ≡ Hit i) where
  abbrev in_slot : HitsIn addr 4 i c.cache
  in_slot = hits_in addr 4 i c.cache hit

  held_at : (j : ℕ) → j < 4 → holds (addr + j) (slot_at i c.cache) ≡ holds addr (slot_at i c.cache)
  held_at j lt =
      let first : (addr + j) / 2 ^ 24 % 256 ≡ addr / 2 ^ 24 % 256 = omega (arith, lt, aligned) in
      let second : (addr + j) / 2 ^ 16 % 256 ≡ addr / 2 ^ 16 % 256 = omega (arith, lt, aligned) in
      let third : (addr + j) / 2 ^ 8 % 256 ≡ addr / 2 ^ 8 % 256 = omega (arith, lt, aligned) in
      rw (first, second, third) refl

  -- each of its bytes is resident
  resident : (j : ℕ) → j < 4 → IsResident c i (addr + j)
  resident j lt =
      let hits = in_slot in
      let line : (addr + j) / 32 ≡ addr / 32 = omega (arith, lt, aligned) in
      let word : (addr + j) / 4 ≡ addr / 4 = omega (arith, lt, aligned) in
      let place : 4 * (addr / 4 % 8) + j ≡ (addr + j) % 32 = omega (arith, lt, aligned) in
      let range = among i (addr / 32 % c.cache.shape.sets * c.cache.shape.ways) c.cache.shape.ways hits.of_set in
      let first = addr / 32 % c.cache.shape.sets * c.cache.shape.ways in
      let below : i - first < c.cache.shape.ways = omega (arith, range.0, range.1) in
      let of_set : Contains (set_of addr c.cache) i = (
        i - first,
        subst (λ (n : ℕ). i - first < n) (sym (length-range_with_len first c.cache.shape.ways)) below,
        get_or-range_with_len first c.cache.shape.ways (i - first) i below ∙ omega (arith, range.0),
      ) in
      record {
        of_set = rw line of_set;
        held = held_at j lt ∙ hits.held;
        valid = rw word (both (is_valid_word (slot_at i c.cache) (addr / 4 % 8)) true hits.words).0;
        tag_good = hits.clean;
        byte_good = subst (λ (n : ℕ). is_struck_byte (history_at n (slot_at i c.cache).line_histories) ≡ false) place
            (any_none (λ n. is_struck_byte (history_at n (slot_at i c.cache).line_histories)) (4 * (addr / 4 % 8)) 4 j lt hits.bytes);
      }

  -- the number that was read is the word of these bytes
  pub reads_word : (byte : ℕ → ℕ) → addr < 2 ^ 32 → IsWellFormed c → Holds byte c → value_at addr 4 (line_at i c) ≡ number_at byte addr 4
  unfolding number_at
  reads_word byte below formed holds_bytes =
      let line = line_at i c in
      let same : addr + 0 ≡ addr = omega arith in
      let in_set : Contains (set_of addr c.cache) i = subst (λ (a : ℕ). Contains (set_of a c.cache) i) same (resident 0 (omega arith)).of_set in
      let at = addr % 32 in
      let byte_at : (j : ℕ) → j < 4 → slice_index line (at + j) ≡ byte (addr + j) =
      λ j lt. let place : (addr + j) % 32 ≡ at + j = omega (arith, lt, aligned) in
      subst (λ (n : ℕ). slice_index line n ≡ byte (addr + j)) place (holds_bytes i (addr + j) (omega (arith, lt, aligned, below)) (resident j lt)) in
      let within : i < length c.cache.slots = set_within c.cache addr i in_set (are_sets c.cache.shape.sets formed.shape.sets).some formed.slots in
      let whole : length (line_at i c) ≡ 32 = formed.bytes i (subst (λ (n : ℕ). i < n) (sym formed.lines) within) in
      number_4 line at (omega (arith, whole, aligned))
      ∙ rw (byte_at 0 (omega arith), byte_at 1 (omega arith), byte_at 2 (omega arith), byte_at 3 (omega arith)) (omega arith)
