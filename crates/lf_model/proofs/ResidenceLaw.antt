-- A look-up hits exactly where the wanted words are resident.
use Rattle.std.proofs.Common.{◌≡◌, ◌∙◌, ◌+◌, ◌*◌, ◌/◌, ◌%◌, ◌^◌, ◌==◌, ◌&&◌, ◌≤◌, ◌<◌, ◌⊎◌, not, ℕ, zero, suc, Bool, true, false, List, [], ◌∷◌, Option, Some, None, map, length, refl, ap, sym, arith, if◌then◌else◌, inl, inr, slice_index}
use Rattle.std.proofs.lemmas.Bool.{cases_Bool, eqb-true, eq-eqb}
use Rattle.std.proofs.lemmas.Nat.Bits.{bit_at-zero}
use Rattle.std.specs.Int.{bit_at}
use Rattle.std.specs.List.{list_all, list_any, range_with_len}
use Rattle.std.specs.Option.{option_map_or}
use Rattle.lf_model.proofs.CheckLemmas.{check_slot, check_all, check_shape}
use Rattle.lf_model.proofs.HitLemmas.{true_not_false, and_false, and_true, both, same_bools, find_one, find_passes, good_words, hit_by}
use Rattle.lf_model.proofs.LineLemmas.{same_line, among, same_set}
use Rattle.lf_model.specs.Caches.Slot.{Slot, empty_slot, empty_tag, tag_of, line_of, holds, wanted_words, has_wanted_words, has_struck_tag, has_struck_byte, written, checked_byte, dropped_by_tag}
use Rattle.lf_model.specs.Caches.Cache.{Cache, slot_at, set_of, matching}
use Rattle.lf_model.specs.Caches.Look.{checked, look}
use Rattle.lf_model.specs.Caches.Residence.{LineFill, IsShape, after_check, is_in_set, check_drops, fill_has, is_hit_in}
use Rattle.lf_model.specs.Flips.{Moment, is_struck_byte}
use Rattle.lf_model.specs.declared.config.Shape.{Shape}

-- ---- the tag check

fixed_bytes : (hs : List (List Moment)) → list_any is_struck_byte (map written (map checked_byte hs)) ≡ false
fixed_bytes [] = refl
fixed_bytes (h ∷ hs) = fixed_bytes hs

fixed : (s : Slot) → has_struck_tag (dropped_by_tag s) ≡ false
fixed s = fixed_bytes s.tag_histories

-- what it makes of each slot
after_slot : (addr i : ℕ) (c : Cache) → slot_at i (after_check addr c) ≡ check_slot has_struck_tag dropped_by_tag refl fixed (is_in_set addr c i) (slot_at i c)
after_slot addr i c = check_all has_struck_tag dropped_by_tag refl fixed (set_of addr c) i (record { dropped = false; cache = c })

-- ---- tags

abbrev pub tag_by : Option LineFill → List ℕ
tag_by None = empty_tag
tag_by (Some f) = tag_of f.line f.valid

-- a slot with this tag holds the line of an address
abbrev pub has_tag : ℕ → List ℕ → Bool
has_tag addr tag = holds addr (record empty_slot { tag = tag })

module _ (shape : Shape) (ok : IsShape shape) where
  -- slot i is of the set of an address
  pub record InSet (addr i : ℕ) : Type 0 where
    pub from : addr / 32 % shape.sets * shape.ways ≤ i
    pub below : i < addr / 32 % shape.sets * shape.ways + shape.ways

  pub record Placed (f : LineFill) (i : ℕ) : Type 0 where
    pub aligned : f.line % 32 ≡ 0
    pub bound : f.line < 2 ^ 32
    pub set : InSet f.line i

  -- the tags of a cache are those of these fills of its slots
  pub record Fits (c : Cache) (F : ℕ → Option LineFill) : Type 0 where
    pub shaped : c.shape ≡ shape
    pub count : length c.slots ≡ shape.ways * shape.sets
    pub tags : (i : ℕ) → (slot_at i c).tag ≡ tag_by (F i)
    pub placed : (i : ℕ) (f : LineFill) → F i ≡ Some f → Placed f i
    pub apart : (addr i j : ℕ) → InSet addr i → InSet addr j → holds addr (slot_at i c) ≡ true → holds addr (slot_at j c) ≡ true → i ≡ j

  -- ---- a fill and the address that is looked up

  line_same : (addr i : ℕ) (f : LineFill) → addr < 2 ^ 32 → InSet addr i → Placed f i → has_tag addr (tag_by (Some f)) ≡ true → f.line ≡ line_of addr
  line_same addr i f bound set placed tagged =
      let p = both (not (f.valid == 0)) _ tagged in
      let q = both _ (f.line / 2 ^ 8 % 256 == addr / 2 ^ 8 % 256) p.1 in
      let r = both (f.line / 2 ^ 24 % 256 == addr / 2 ^ 24 % 256) _ q.0 in
      let line = same_line f.line addr shape.sets placed.bound bound ok.by_eight
      (eqb-true (f.line / 2 ^ 24 % 256) (addr / 2 ^ 24 % 256) r.0) (eqb-true (f.line / 2 ^ 16 % 256) (addr / 2 ^ 16 % 256) r.1)
      (eqb-true (f.line / 2 ^ 8 % 256) (addr / 2 ^ 8 % 256) q.1)
      (same_set (f.line / 32 % shape.sets) (addr / 32 % shape.sets) shape.ways i placed.set.from placed.set.below set.from set.below) in
      omega (arith, line, placed.aligned)

  line_tagged : (addr : ℕ) (f : LineFill) → (f.valid == 0) ≡ false → f.line ≡ line_of addr → has_tag addr (tag_by (Some f)) ≡ true
  line_tagged addr f present same = all_true (f.valid == 0) _ _ _ present
      (eq-eqb (f.line / 2 ^ 24 % 256) (addr / 2 ^ 24 % 256) (omega (arith, same)))
      (eq-eqb (f.line / 2 ^ 16 % 256) (addr / 2 ^ 16 % 256) (omega (arith, same)))
      (eq-eqb (f.line / 2 ^ 8 % 256) (addr / 2 ^ 8 % 256) (omega (arith, same)))
    where
      all_true : (a b c d : Bool) → a ≡ false → b ≡ true → c ≡ true → d ≡ true → (not a && (b && c && d)) ≡ true
      all_true a b c d ha hb hc hd = rw (ha, hb, hc, hd) refl

  -- ---- a cache of which some lines were dropped

  less_if : (b : Bool) (f : Option LineFill) → ((if b then None else f) ≡ f) ⊎ ((if b then None else f) ≡ None)
  less_if true f = inr refl
  less_if false f = inl refl

  pub fits_less : (c d : Cache) (F G : ℕ → Option LineFill) → Fits c F → d.shape ≡ c.shape → length d.slots ≡ length c.slots
      → ((i : ℕ) → (slot_at i d).tag ≡ tag_by (G i)) → ((i : ℕ) → (G i ≡ F i) ⊎ (G i ≡ None)) → Fits d G
  fits_less c d F G h shaped count tags less = record {
    shaped = shaped ∙ h.shaped;
    count = count ∙ h.count;
    tags = tags;
    placed = λ i f e. elim (less i) [
      | inl same ↦ h.placed i f (sym same ∙ e)
      | inr none ↦ absurd (not_some f (sym none ∙ e))
    ];
    apart = λ addr i j set_i set_j at_i at_j. h.apart addr i j set_i set_j (was addr i at_i) (was addr j at_j);
  }
    where
      not_some : (f : LineFill) → None ≡ Some f → ⊥
      not_some f e = absurd cc

      was : (addr i : ℕ) → holds addr (slot_at i d) ≡ true → holds addr (slot_at i c) ≡ true
      was addr i at_i = elim (less i) [
        | inl same ↦ ap (has_tag addr) (h.tags i ∙ (ap tag_by (sym same) ∙ sym (tags i))) ∙ at_i
        | inr none ↦ absurd (true_not_false (sym at_i ∙ ap (has_tag addr) (tags i ∙ ap tag_by none)))
      ]

  -- ---- the tag check

  abbrev pub checked_fill : ℕ → Cache → (ℕ → Option LineFill) → ℕ → Option LineFill
  checked_fill addr c F i = if check_drops addr c i then None else F i

  pick_tag : (b : Bool) (s : Slot) (f : Option LineFill) → s.tag ≡ tag_by f → (if b then dropped_by_tag s else s).tag ≡ tag_by (if b then None else f)
  pick_tag true s f e = refl
  pick_tag false s f e = e

  pub fits_checked : (addr : ℕ) (c : Cache) (F : ℕ → Option LineFill) → Fits c F → Fits (after_check addr c) (checked_fill addr c F)
  fits_checked addr c F h = let kept = check_shape has_struck_tag dropped_by_tag refl fixed (set_of addr c) (record { dropped = false; cache = c }) in
      fits_less c (after_check addr c) F (checked_fill addr c F) h kept.0 kept.1
      (λ i. ap (λ (s : Slot). s.tag) (after_slot addr i c) ∙ pick_tag (check_drops addr c i) (slot_at i c) (F i) (h.tags i))
      (λ i. less_if (check_drops addr c i) (F i))

  -- ---- the line that matches

  abbrev pub in_set : ℕ → Shape → ℕ → Bool
  in_set addr s i = list_any (λ j. j == i) (range_with_len (addr / 32 % s.sets * s.ways) s.ways)

  pub set_is : (addr i : ℕ) (c : Cache) (F : ℕ → Option LineFill) → Fits c F → is_in_set addr c i ≡ in_set addr shape i
  set_is addr i c F h = ap (λ s. in_set addr s i) h.shaped

  pub set_holds : (addr i : ℕ) (c : Cache) (F : ℕ → Option LineFill) → Fits c F → is_in_set addr c i ≡ true → InSet addr i
  set_holds addr i c F h e = let p = among i (addr / 32 % shape.sets * shape.ways) shape.ways (sym (set_is addr i c F h) ∙ e) in record { from = p.0; below = p.1 }

  pub match_is : (addr i : ℕ) (c : Cache) (F : ℕ → Option LineFill) → Fits c F → is_in_set addr c i ≡ true
      → option_map_or (λ j. j == i) (matching addr c) false ≡ holds addr (slot_at i c)
  match_is addr i c F h e = elim (cases_Bool (holds addr (slot_at i c))) [
    | inl present ↦ ap (λ m. option_map_or (λ j. j == i) m false) (find_one (λ j. holds addr (slot_at j c)) i (set_of addr c) e present
        (λ j among_set at_j. h.apart addr j i (set_holds addr j c F h among_set) (set_holds addr i c F h e) at_j present))
        ∙ (eq-eqb i i refl ∙ sym present)
    | inr absent ↦ by_found absent (matching addr c) refl ∙ sym absent
  ]
    where
      by_found : holds addr (slot_at i c) ≡ false → (m : Option ℕ) → matching addr c ≡ m → option_map_or (λ j. j == i) m false ≡ false
      by_found absent None found = refl
      by_found absent (Some j) found = elim (cases_Bool (j == i)) [
        | inl same ↦ absurd (true_not_false (sym (find_passes (λ m. holds addr (slot_at m c)) (set_of addr c) j found).0 ∙ (ap (λ m. holds addr (slot_at m c)) (eqb-true j i same) ∙ absent)))
        | inr other ↦ other
      ]

  -- ---- the wanted words

  abbrev pub words_in : ℕ → ℕ → List ℕ → Bool
  words_in addr len tag = list_all (λ j. bit_at (slice_index tag 3) j == 1) (wanted_words addr len)

  nonzero : (v first n : ℕ) → 1 ≤ n → list_all (λ j. bit_at v j == 1) (range_with_len first n) ≡ true → (v == 0) ≡ false
  nonzero v first zero some words = absurd (omega (arith, some))
  nonzero v first (suc n) some words = elim (cases_Bool (v == 0)) [
    | inl is_zero ↦ absurd (true_not_false (sym (both (bit_at v first == 1) _ words).0 ∙ (ap (λ w. bit_at w first == 1) (eqb-true v 0 is_zero) ∙ ap (λ b. b == 1) (bit_at-zero first))))
    | inr not_zero ↦ not_zero
  ]

  fill_words : (addr len i : ℕ) (f : LineFill) (words : Bool) → words_in addr len (tag_by (Some f)) ≡ words → addr < 2 ^ 32 → 1 ≤ len → InSet addr i → Placed f i
      → (has_tag addr (tag_by (Some f)) && words) ≡ (f.line == line_of addr && words)
  fill_words addr len i f false e bound some set placed = and_false (has_tag addr (tag_by (Some f))) ∙ sym (and_false (f.line == line_of addr))
  fill_words addr len i f true e bound some set placed =
      and_true (has_tag addr (tag_by (Some f)))
      ∙ (same_bools (has_tag addr (tag_by (Some f))) (f.line == line_of addr)
      (λ tagged. eq-eqb f.line (line_of addr) (line_same addr i f bound set placed tagged))
      (λ same. line_tagged addr f (nonzero f.valid (addr / 4 % 8) ((len + 3) / 4) (omega (arith, some)) e) (eqb-true f.line (line_of addr) same))
      ∙ sym (and_true (f.line == line_of addr)))

  by_fill : (addr len i : ℕ) (f : Option LineFill) → ((g : LineFill) → f ≡ Some g → Placed g i) → addr < 2 ^ 32 → 1 ≤ len → InSet addr i
      → (has_tag addr (tag_by f) && words_in addr len (tag_by f)) ≡ option_map_or (fill_has addr len) f false
  by_fill addr len i None placed bound some set = refl
  by_fill addr len i (Some f) placed bound some set = fill_words addr len i f (words_in addr len (tag_by (Some f))) refl bound some set (placed f refl)

  pub fill_is : (addr len i : ℕ) (c : Cache) (F : ℕ → Option LineFill) → Fits c F → addr < 2 ^ 32 → 1 ≤ len → InSet addr i
      → (holds addr (slot_at i c) && has_wanted_words addr len (slot_at i c)) ≡ option_map_or (fill_has addr len) (F i) false
  fill_is addr len i c F h bound some set =
      ap (λ tag. has_tag addr tag && words_in addr len tag) (h.tags i) ∙ by_fill addr len i (F i) (h.placed i) bound some set

  -- ---- the law, of a cache whose tags are known

  and_assoc : (a b d : Bool) → (a && (b && d)) ≡ ((a && b) && d)
  and_assoc true b d = refl
  and_assoc false b d = refl

  -- by whether a tag byte of the slot is struck
  by_struck : (addr len i : ℕ) (c : Cache) (F : ℕ → Option LineFill) → Fits c F → addr < 2 ^ 32 → 1 ≤ len → InSet addr i
      → (struck : Bool) → (s : Slot) → s ≡ (if struck then dropped_by_tag (slot_at i c) else slot_at i c)
      → (holds addr s && (has_wanted_words addr len s && not (has_struck_byte addr len s)))
      ≡ (option_map_or (fill_has addr len) (F i) false && (not struck && not (has_struck_byte addr len (slot_at i c))))
  by_struck addr len i c F h bound some set true s e =
      ap (λ (s : Slot). holds addr s && (has_wanted_words addr len s && not (has_struck_byte addr len s))) e ∙ sym (and_false (option_map_or (fill_has addr len) (F i) false))
  by_struck addr len i c F h bound some set false s e =
      ap (λ (s : Slot). holds addr s && (has_wanted_words addr len s && not (has_struck_byte addr len s))) e
      ∙ (and_assoc (holds addr (slot_at i c)) (has_wanted_words addr len (slot_at i c)) (not (has_struck_byte addr len (slot_at i c)))
      ∙ ap (λ b. b && not (has_struck_byte addr len (slot_at i c))) (fill_is addr len i c F h bound some set))

  pub hit_is : (addr len i : ℕ) (c : Cache) (F : ℕ → Option LineFill) → Fits c F → addr < 2 ^ 32 → 1 ≤ len → is_in_set addr c i ≡ true
      → is_hit_in i (look addr len c).answer
      ≡ (option_map_or (fill_has addr len) (F i) false && (not (has_struck_tag (slot_at i c)) && not (has_struck_byte addr len (slot_at i c))))
  unfolding look
  hit_is addr len i c F h bound some e =
      let g = fits_checked addr c F h in
      let set = set_holds addr i c F h e in
      hit_by addr len i (checked addr c) (matching addr (after_check addr c))
      ∙ (ap (λ b. b && good_words addr len (after_check addr c) i) (match_is addr i (after_check addr c) (checked_fill addr c F) g (set_is addr i (after_check addr c) (checked_fill addr c F) g ∙ (sym (set_is addr i c F h) ∙ e)))
      ∙ by_struck addr len i c F h bound some set (has_struck_tag (slot_at i c)) (slot_at i (after_check addr c))
      (after_slot addr i c ∙ ap (λ of_set. check_slot has_struck_tag dropped_by_tag refl fixed of_set (slot_at i c)) e))
