-- A fill takes a slot of its set, and keeps the lines of a set apart.
use Rattle.std.proofs.Common.{◌≡◌, ◌∙◌, ◌+◌, ◌*◌, ◌/◌, ◌%◌, ◌^◌, ◌==◌, ◌&&◌, ◌≤◌, ◌<◌, not, nat_lt, ℕ, zero, suc, Bool, true, false, List, [], ◌∷◌, Option, Some, None, find, fold, length, unwrap_or, refl, ap, sym, subst, arith, if◌then◌else◌, slice_index}
use Rattle.std.proofs.Math.Nat.{mul-le-mul_right, suc-mul, mod-lt, mul_comm}
use Rattle.std.proofs.lemmas.Bool.{eqb-true, eq-eqb}
use Rattle.std.proofs.lemmas.List.{length-set}
use Rattle.std.specs.List.{list_any, range_with_len}
use Rattle.std.specs.Option.{option_or}
use Rattle.lf_model.proofs.HitLemmas.{both, find_passes, find_one}
use Rattle.lf_model.proofs.LineLemmas.{or_left, or_right, is_among, same_set}
use Rattle.lf_model.proofs.ResidenceLaw.{tag_by, has_tag, InSet, Placed, Fits, set_holds, set_is}
use Rattle.lf_model.proofs.TagLemmas.{tag_at, tag_set, tag_used}
use Rattle.lf_model.specs.Caches.Slot.{tag_of, line_of, holds, is_present, filled_slot}
use Rattle.lf_model.specs.Caches.Cache.{Cache, slot_at, with_slot, set_of, matching}
use Rattle.lf_model.specs.Caches.Change.{older, victim, filled}
use Rattle.lf_model.specs.Caches.Residence.{LineFill, IsShape, is_in_set}
use Rattle.lf_model.specs.declared.config.Shape.{Shape}

-- ---- the slot that a fill takes is one of the set

is_one : List ℕ → Option ℕ → Type 0
is_one ws None = ⊥
is_one ws (Some m) = list_any (λ j. j == m) ws ≡ true

older_one : (c : Cache) (all : List ℕ) (w j : ℕ) (less : Bool) → list_any (λ i. i == w) all ≡ true → list_any (λ i. i == j) all ≡ true
    → is_one all (if less then Some w else Some j)
unfolding is_one
older_one c all w j true of_w of_j = of_w
older_one c all w j false of_w of_j = of_j

fold_one : (c : Cache) (ws all : List ℕ) (j : ℕ) → ((i : ℕ) → list_any (λ m. m == i) ws ≡ true → list_any (λ m. m == i) all ≡ true)
    → (m : Option ℕ) → is_one all m → is_one all (fold (older c) m ws)
unfolding is_one
fold_one c [] all j sub m one = one
fold_one c (w ∷ ws) all j sub None one = absurd one
fold_one c (w ∷ ws) all j sub (Some m) one = fold_one c ws all j (λ i e. sub i (or_right (w == i) _ e)) (older c (Some m) w)
    (older_one c all w m (nat_lt (slot_at w c).used (slot_at m c).used) (sub w (or_left (w == w) _ (eq-eqb w w refl))) one)

oldest_one : (c : Cache) (first n : ℕ) → 1 ≤ n → is_one (range_with_len first n) (fold (older c) None (range_with_len first n))
unfolding is_one
oldest_one c first zero some = absurd (omega (arith, some))
oldest_one c first (suc n) some = fold_one c (range_with_len (first + 1) n) (range_with_len first (suc n)) first
    (λ i e. or_right (first == i) _ e) (Some first) (or_left (first == first) _ (eq-eqb first first refl))

one_or : (all : List ℕ) (a b : Option ℕ) → ((m : ℕ) → a ≡ Some m → list_any (λ j. j == m) all ≡ true) → is_one all b → is_one all (option_or a b)
unfolding is_one
one_or all None b found one = one
one_or all (Some m) b found one = found m refl

one_is : (all : List ℕ) (a : Option ℕ) → is_one all a → list_any (λ j. j == unwrap_or a 0) all ≡ true
unfolding is_one
one_is all None one = absurd one
one_is all (Some m) one = one

pub victim_in_set : (addr : ℕ) (c : Cache) → 1 ≤ c.shape.ways → is_in_set addr c (victim addr c) ≡ true
unfolding victim
victim_in_set addr c some = one_is (set_of addr c) _
    (one_or (set_of addr c) (matching addr c) _ (λ m e. (find_passes (λ i. holds addr (slot_at i c)) (set_of addr c) m e).1)
    (one_or (set_of addr c) (find (λ i. not (is_present (slot_at i c))) (set_of addr c)) _ (λ m e. (find_passes (λ i. not (is_present (slot_at i c))) (set_of addr c) m e).1)
    (oldest_one c (addr / 32 % c.shape.sets * c.shape.ways) c.shape.ways some)))

-- where the line is present the fill takes that slot
pub victim_matches : (addr m : ℕ) (c : Cache) → matching addr c ≡ Some m → victim addr c ≡ m
unfolding victim
victim_matches addr m c e = rw e refl

module _ (shape : Shape) (ok : IsShape shape) where
  -- a slot of a set is one of the cache
  pub set_within : (addr i n : ℕ) → n ≡ shape.ways * shape.sets → InSet shape ok addr i → i < n
  set_within addr i n count set = below_all (addr / 32 % shape.sets * shape.ways) (suc (addr / 32 % shape.sets) * shape.ways) (shape.sets * shape.ways) shape.ways i n
      (mul-le-mul_right shape.ways (mod-lt (addr / 32) ok.sets)) (suc-mul (addr / 32 % shape.sets) shape.ways) (count ∙ mul_comm shape.ways shape.sets) set.below
    where
      below_all : (a b d w i n : ℕ) → b ≤ d → b ≡ a + w → n ≡ d → i < a + w → i < n
      below_all a b d w i n h0 h1 h2 h3 = omega (arith, h0, h1, h2, h3)

  -- ---- the tag of a line

  three : {A B C D : Type 0} (f : A → B → C → D) {a a' : A} {b b' : B} {c c' : C} → a ≡ a' → b ≡ b' → c ≡ c' → f a b c ≡ f a' b' c'
  three f p q r = rw (p, q, r) refl

  tag_line : (addr valid : ℕ) → tag_of addr valid ≡ tag_of (line_of addr) valid
  tag_line addr valid = three (λ a b d. a ∷ b ∷ d ∷ valid ∷ []) (omega arith) (omega arith) (omega arith)

  line_set : (addr i : ℕ) → InSet shape ok addr i → InSet shape ok (line_of addr) i
  line_set addr i set = record {
    from = subst (λ n. n % shape.sets * shape.ways ≤ i) (same addr) set.from;
    below = subst (λ n. i < n % shape.sets * shape.ways + shape.ways) (same addr) set.below;
  }
    where
      same : (addr : ℕ) → addr / 32 ≡ line_of addr / 32
      same addr = omega arith

  -- an address with the tag bytes of another
  tag_same : (a addr valid : ℕ) (tag : List ℕ) → has_tag a (tag_of addr valid) ≡ true → has_tag a tag ≡ has_tag addr tag
  tag_same a addr valid tag e =
      let p = both (not (valid == 0)) _ e in
      let q = both _ (addr / 2 ^ 8 % 256 == a / 2 ^ 8 % 256) p.1 in
      let r = both (addr / 2 ^ 24 % 256 == a / 2 ^ 24 % 256) _ q.0 in
      three (λ x y z. not (slice_index tag 3 == 0) && (slice_index tag 0 == x && slice_index tag 1 == y && slice_index tag 2 == z))
      (sym (eqb-true (addr / 2 ^ 24 % 256) (a / 2 ^ 24 % 256) r.0)) (sym (eqb-true (addr / 2 ^ 16 % 256) (a / 2 ^ 16 % 256) r.1))
      (sym (eqb-true (addr / 2 ^ 8 % 256) (a / 2 ^ 8 % 256) q.1))

  set_from : (a addr i j : ℕ) → InSet shape ok a i → InSet shape ok addr i → InSet shape ok a j → InSet shape ok addr j
  set_from a addr i j a_i addr_i a_j =
      let e = same_set (a / 32 % shape.sets) (addr / 32 % shape.sets) shape.ways i a_i.from a_i.below addr_i.from addr_i.below in
      record { from = subst (λ n. n * shape.ways ≤ j) e a_j.from; below = subst (λ n. j < n * shape.ways + shape.ways) e a_j.below }

  -- ---- a fill

  module _ (addr valid : ℕ) (c : Cache) (F : ℕ → Option LineFill) (h : Fits shape ok c F) where
    abbrev pub fill_put : LineFill
    fill_put = record { line = line_of addr; valid = valid }

    abbrev pub filled_by : ℕ → Option LineFill
    filled_by i = option_or (if victim addr c == i then Some fill_put else None) (F i)

    set_taken : InSet shape ok addr (victim addr c)
    set_taken = set_holds shape ok addr (victim addr c) c F h (victim_in_set addr c (subst (λ (s : Shape). 1 ≤ s.ways) (sym h.shaped) ok.ways))

    tag_filled : (i : ℕ) → tag_at i (filled addr valid c) ≡ (if victim addr c == i then tag_of addr valid else tag_at i c)
    unfolding filled
    tag_filled i = tag_used i (victim addr c) (with_slot (filled_slot addr valid) (victim addr c) c)
        ∙ tag_set (filled_slot addr valid) (tag_of addr valid) i (victim addr c) c refl (set_within addr (victim addr c) (length c.slots) h.count set_taken)

    tags_by : (i : ℕ) (same : Bool) → (if same then tag_of addr valid else tag_at i c) ≡ tag_by (option_or (if same then Some fill_put else None) (F i))
    tags_by i true = tag_line addr valid
    tags_by i false = h.tags i

    some_same : (f g : LineFill) → Some f ≡ Some g → f ≡ g
    some_same f g e = cc

    placed_by : addr < 2 ^ 32 → (i : ℕ) (f : LineFill) (same : Bool) → (victim addr c == i) ≡ same
        → option_or (if same then Some fill_put else None) (F i) ≡ Some f → Placed shape ok f i
    placed_by bound i f true at e = subst (λ g. Placed shape ok g i) (some_same fill_put f e) (subst (λ j. Placed shape ok fill_put j) (eqb-true (victim addr c) i at)
        (record { aligned = omega arith; bound = omega (arith, bound); set = line_set addr (victim addr c) set_taken }))
    placed_by bound i f false at e = h.placed i f e

    -- another slot that holds the line is the one that the fill takes
    only_taken : (a j : ℕ) → InSet shape ok a (victim addr c) → InSet shape ok a j → has_tag a (tag_of addr valid) ≡ true → holds a (slot_at j c) ≡ true → victim addr c ≡ j
    only_taken a j set_v set_j tagged present =
        let addr_j = set_from a addr (victim addr c) j set_v set_taken set_j in
        let held = sym (tag_same a addr valid (tag_at j c) tagged) ∙ present in
        let among_set = set_is shape ok addr j c F h ∙ is_among j (addr / 32 % shape.sets * shape.ways) shape.ways addr_j.from addr_j.below in
        victim_matches addr j c (find_one (λ i. holds addr (slot_at i c)) j (set_of addr c) among_set held
        (λ i of_set at_i. h.apart addr i j (set_holds shape ok addr i c F h of_set) addr_j at_i held))

    apart_by : (a i j : ℕ) → InSet shape ok a i → InSet shape ok a j → (at_i at_j : Bool) → (victim addr c == i) ≡ at_i → (victim addr c == j) ≡ at_j
        → has_tag a (if at_i then tag_of addr valid else tag_at i c) ≡ true → has_tag a (if at_j then tag_of addr valid else tag_at j c) ≡ true → i ≡ j
    apart_by a i j set_i set_j true true ei ej hi hj = sym (eqb-true (victim addr c) i ei) ∙ eqb-true (victim addr c) j ej
    apart_by a i j set_i set_j true false ei ej hi hj =
        sym (eqb-true (victim addr c) i ei) ∙ only_taken a j (subst (λ m. InSet shape ok a m) (sym (eqb-true (victim addr c) i ei)) set_i) set_j hi hj
    apart_by a i j set_i set_j false true ei ej hi hj =
        sym (only_taken a i (subst (λ m. InSet shape ok a m) (sym (eqb-true (victim addr c) j ej)) set_j) set_i hj hi) ∙ eqb-true (victim addr c) j ej
    apart_by a i j set_i set_j false false ei ej hi hj = h.apart a i j set_i set_j hi hj

    filled_shape : ((filled addr valid c).shape ≡ c.shape) × (length (filled addr valid c).slots ≡ length c.slots)
    unfolding filled
    filled_shape = (refl, length-set (with_slot (filled_slot addr valid) (victim addr c) c).slots (victim addr c) _ ∙ length-set c.slots (victim addr c) _)

    pub fits_filled : addr < 2 ^ 32 → Fits shape ok (filled addr valid c) filled_by
    fits_filled bound = record {
      shaped = filled_shape.0 ∙ h.shaped;
      count = filled_shape.1 ∙ h.count;
      tags = λ i. tag_filled i ∙ tags_by i (victim addr c == i);
      placed = λ i f e. placed_by bound i f (victim addr c == i) refl e;
      apart = λ a i j set_i set_j hi hj. apart_by a i j set_i set_j (victim addr c == i) (victim addr c == j) refl refl
          (ap (has_tag a) (sym (tag_filled i)) ∙ hi) (ap (has_tag a) (sym (tag_filled j)) ∙ hj);
    }
