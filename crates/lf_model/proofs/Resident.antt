-- A look-up hits exactly where the wanted words are resident, after all that was done to the cache since reset.
use Rattle.std.proofs.Common.{◌≡◌, ◌∙◌, ◌*◌, ◌==◌, ◌||◌, ◌<◌, ◌⊎◌, ℕ, Bool, true, false, List, [], ◌∷◌, Option, Some, None, length, refl, ap, sym, if◌then◌else◌, inl, inr, not}
use Rattle.std.proofs.lemmas.List.{length-map, length-replicate, length-set}
use Rattle.std.specs.List.{AllByRecursion}
use Rattle.std.specs.Option.{option_map_or, option_or}
use Rattle.lf_model.proofs.FillLemmas.{fits_filled, set_within}
use Rattle.lf_model.proofs.HitLemmas.{true_not_false, find_passes}
use Rattle.lf_model.proofs.ResidenceLaw.{Fits, fits_less, checked_fill, fits_checked, set_holds, hit_is}
use Rattle.lf_model.proofs.TagLemmas.{tag_at, tag_set, tag_kept, tag_used, tag_flushed, tag_empty, look_tags, merged}
use Rattle.lf_model.specs.Caches.Slot.{holds, dropped, has_wanted_words, has_struck_byte}
use Rattle.lf_model.specs.Caches.Cache.{Cache, empty_cache, slot_at, with_slot, set_of, matching}
use Rattle.lf_model.specs.Caches.Change.{stored_in, update_by, updated, drop_by, snooped, flushed}
use Rattle.lf_model.specs.Caches.Look.{Checked, Looked, checked, look_by, look}
use Rattle.lf_model.specs.Caches.Residence.{Act, LineFill, IsShape, FitsTag, HitsWhereResident, acted, after_check, cache_after, check_drops, drops, fills, last_fill, is_match, with_tag_flip, with_line_flip}
use Rattle.lf_model.specs.Caches.Residence.Act.{ALook, AStore, ASnoop, AFill, AFlush, ATagFlip, ALineFlip}
use Rattle.lf_model.specs.declared.config.Shape.{Shape}

module _ (shape : Shape) (ok : IsShape shape) where
  -- the same lines in a cache whose tags are the same
  fits_same : (c d : Cache) (F : ℕ → Option LineFill) → Fits shape ok c F → d.shape ≡ c.shape → length d.slots ≡ length c.slots
      → ((i : ℕ) → tag_at i d ≡ tag_at i c) → Fits shape ok d F
  fits_same c d F h shaped count tags = fits_less shape ok c d F F h shaped count (λ i. tags i ∙ h.tags i) (λ i. inl refl)

  fits_empty : Fits shape ok (empty_cache shape) (λ i. None)
  fits_empty = record {
    shaped = refl;
    count = length-replicate (shape.ways * shape.sets) _;
    tags = λ i. tag_empty i shape;
    placed = λ i f e. absurd (none_not f e);
    apart = λ addr i j set_i set_j hi hj. absurd (true_not_false (sym hi ∙ ap (λ tag. holds addr (record (slot_at i (empty_cache shape)) { tag = tag })) (tag_empty i shape)));
  }
    where
      none_not : (f : LineFill) → None ≡ Some f → ⊥
      none_not f e = absurd cc

  -- ---- acts that drop at most

  found_within : (addr : ℕ) (c : Cache) (F : ℕ → Option LineFill) → Fits shape ok c F → (j : ℕ) → matching addr c ≡ Some j → j < length c.slots
  found_within addr c F h j e = set_within shape ok addr j (length c.slots) h.count
      (set_holds shape ok addr j c F h (find_passes (λ i. holds addr (slot_at i c)) (set_of addr c) j e).1)

  -- what a look-up, and a snooped store, leave of shape and number of slots
  pick_shape : (c : Cache) (w b : Bool) (x y z : Looked) → (x.cache.shape ≡ c.shape) × (length x.cache.slots ≡ length c.slots)
      → (y.cache.shape ≡ c.shape) × (length y.cache.slots ≡ length c.slots) → (z.cache.shape ≡ c.shape) × (length z.cache.slots ≡ length c.slots)
      → ((if not w then x else if b then y else z).cache.shape ≡ c.shape) × (length (if not w then x else if b then y else z).cache.slots ≡ length c.slots)
  pick_shape c true true x y z hx hy hz = hy
  pick_shape c true false x y z hx hy hz = hz
  pick_shape c false b x y z hx hy hz = hx

  look_shape : (addr len : ℕ) (k : Checked) (m : Option ℕ) → ((look_by addr len k m).cache.shape ≡ k.cache.shape) × (length (look_by addr len k m).cache.slots ≡ length k.cache.slots)
  look_shape addr len k None = (refl, refl)
  look_shape addr len k (Some j) = pick_shape k.cache (has_wanted_words addr len (slot_at j k.cache)) (has_struck_byte addr len (slot_at j k.cache)) _ _ _
      (refl, refl) (refl, length-set k.cache.slots j _) (refl, length-set k.cache.slots j _)

  less_twice : (a b : Bool) (f : Option LineFill) → ((if a || b then None else f) ≡ (if a then None else f)) ⊎ ((if a || b then None else f) ≡ None)
  less_twice true b f = inl refl
  less_twice false true f = inr refl
  less_twice false false f = inl refl

  fits_look : (addr len : ℕ) (c : Cache) (F : ℕ → Option LineFill) → Fits shape ok c F
      → Fits shape ok (look addr len c).cache (λ i. option_or (fills c i (ALook addr len)) (if drops c i (ALook addr len) then None else F i))
  unfolding look
  fits_look addr len c F h =
      let g = fits_checked shape ok addr c F h in
      let s = look_shape addr len (checked addr c) (matching addr (after_check addr c)) in
      fits_less shape ok (after_check addr c) (look_by addr len (checked addr c) (matching addr (after_check addr c))).cache (checked_fill shape ok addr c F) _ g s.0 s.1
      (λ i. look_tags addr len i (checked addr c) (matching addr (after_check addr c)) (found_within addr (after_check addr c) (checked_fill shape ok addr c F) g)
      ∙ merged (check_drops addr c i) _ (tag_at i (after_check addr c)) (F i) (g.tags i))
      (λ i. less_twice (check_drops addr c i) _ (F i))

  update_fits : (addr len : ℕ) (c : Cache) (F : ℕ → Option LineFill) (m : Option ℕ) → Fits shape ok c F → Fits shape ok (update_by addr len c m) F
  update_fits addr len c F None h = h
  update_fits addr len c F (Some j) h = fits_same c (update_by addr len c (Some j)) F h refl (length-set (with_slot (stored_in addr len) j c).slots j _ ∙ length-set c.slots j _)
      (λ i. tag_used i j (with_slot (stored_in addr len) j c) ∙ tag_kept (stored_in addr len) (λ s. refl) i j c)

  fits_store : (addr len : ℕ) (c : Cache) (F : ℕ → Option LineFill) → Fits shape ok c F
      → Fits shape ok (updated addr len c) (λ i. option_or (fills c i (AStore addr len)) (if drops c i (AStore addr len) then None else F i))
  unfolding updated
  fits_store addr len c F h = update_fits addr len (after_check addr c) (checked_fill shape ok addr c F) (matching addr (after_check addr c)) (fits_checked shape ok addr c F h)

  drop_shape : (c : Cache) (m : Option ℕ) → ((drop_by c m).shape ≡ c.shape) × (length (drop_by c m).slots ≡ length c.slots)
  drop_shape c None = (refl, refl)
  drop_shape c (Some j) = (refl, length-set c.slots j _)

  drop_tags : (i : ℕ) (c : Cache) (m : Option ℕ) → ((j : ℕ) → m ≡ Some j → j < length c.slots)
      → tag_at i (drop_by c m) ≡ (if option_map_or (λ j. j == i) m false then 0 ∷ 0 ∷ 0 ∷ 0 ∷ [] else tag_at i c)
  drop_tags i c None within = refl
  drop_tags i c (Some j) within = tag_set dropped (0 ∷ 0 ∷ 0 ∷ 0 ∷ []) i j c refl (within j refl)

  fits_snoop : (addr : ℕ) (c : Cache) (F : ℕ → Option LineFill) → Fits shape ok c F
      → Fits shape ok (snooped c addr) (λ i. option_or (fills c i (ASnoop addr)) (if drops c i (ASnoop addr) then None else F i))
  unfolding snooped
  fits_snoop addr c F h =
      let g = fits_checked shape ok addr c F h in
      let s = drop_shape (after_check addr c) (matching addr (after_check addr c)) in
      fits_less shape ok (after_check addr c) (drop_by (after_check addr c) (matching addr (after_check addr c))) (checked_fill shape ok addr c F) _ g s.0 s.1
      (λ i. drop_tags i (after_check addr c) (matching addr (after_check addr c)) (found_within addr (after_check addr c) (checked_fill shape ok addr c F) g)
      ∙ merged (check_drops addr c i) (is_match addr c i) (tag_at i (after_check addr c)) (F i) (g.tags i))
      (λ i. less_twice (check_drops addr c i) (is_match addr c i) (F i))

  flush_shape : (c : Cache) → ((flushed c).shape ≡ c.shape) × (length (flushed c).slots ≡ length c.slots)
  unfolding flushed
  flush_shape c = (refl, length-map c.slots dropped)

  fits_flush : (c : Cache) (F : ℕ → Option LineFill) → Fits shape ok c F → Fits shape ok (flushed c) (λ i. None)
  fits_flush c F h = fits_less shape ok c (flushed c) F (λ i. None) h (flush_shape c).0 (flush_shape c).1 (λ i. tag_flushed i c) (λ i. inr refl)

  -- ---- all acts

  fits_act : (act : Act) (c : Cache) (F : ℕ → Option LineFill) → FitsTag act → Fits shape ok c F
      → Fits shape ok (acted c act) (λ i. option_or (fills c i act) (if drops c i act then None else F i))
  fits_act (ALook addr len) c F small h = fits_look addr len c F h
  fits_act (AStore addr len) c F small h = fits_store addr len c F h
  fits_act (ASnoop addr) c F small h = fits_snoop addr c F h
  fits_act (AFill addr valid) c F small h = fits_filled shape ok addr valid c F h small.0
  fits_act AFlush c F small h = fits_flush c F h
  fits_act (ATagFlip slot byte number bit) c F small h = fits_same c (acted c (ATagFlip slot byte number bit)) F h refl (length-set c.slots slot _)
      (λ i. tag_kept (with_tag_flip byte number bit) (λ s. refl) i slot c)
  fits_act (ALineFlip slot byte number bit) c F small h = fits_same c (acted c (ALineFlip slot byte number bit)) F h refl (length-set c.slots slot _)
      (λ i. tag_kept (with_line_flip byte number bit) (λ s. refl) i slot c)

  fits_after : (acts : List Act) → AllByRecursion FitsTag acts → Fits shape ok (cache_after shape acts) (λ i. last_fill shape i acts)
  fits_after [] small = fits_empty
  fits_after (act ∷ earlier) small = fits_act act (cache_after shape earlier) (λ i. last_fill shape i earlier) small.0 (fits_after earlier small.1)

pub hits_where_resident : HitsWhereResident
hits_where_resident shape acts addr len i ok small bound some of_set =
    hit_is shape ok addr len i (cache_after shape acts) (λ j. last_fill shape j acts) (fits_after shape ok acts small) bound some of_set
