-- Which slots are of the set of an address, and which line a slot of it holds.
use Rattle.std.proofs.Common.{◌≡◌, ◌==◌, ◌&&◌, ℕ, suc, ◌+◌, ◌-◌, ◌*◌, ◌/◌, ◌%◌, ◌^◌, ◌<◌, ◌≤◌, Bool, true, false, List, [], ◌∷◌, length, slice_index, Contains, Some, None, find, nat_eq, refl, sym, ap, ◌∙◌, subst, arith, inl, inr}
use Rattle.std.specs.List.{list_any, range_with_len}
use Rattle.std.proofs.Math.Nat.{mul-le-mul_right, suc-mul, mod-lt, mul_comm}
use Rattle.std.proofs.lemmas.Bool.{cases_Bool, or_cases, eqb-true}
use Rattle.std.proofs.lemmas.List.FromFn.{length-range_with_len, get_or-range_with_len}
use Rattle.lf_model.proofs.HitLemmas.{true_not_false, both, find_one, find_passes}
use Rattle.lf_model.proofs.LineLemmas.{among, is_among, same_line, same_set}
use Rattle.lf_model.specs.Caches.Cache.{Cache, slot_at, set_of, matching, is_number_of_sets}
use Rattle.lf_model.specs.Caches.Slot.{Slot, holds, is_present}
use Rattle.parity_cache.specs.Resident.{IsApart}

-- ---- shapes

pub record AreSets (n : ℕ) : Type 0 where
  pub some : 1 ≤ n
  pub by_eight : n % 8 ≡ 0

sets_of : (n m : ℕ) → nat_eq n m ≡ true → AreSets m → AreSets n
sets_of n m e are = subst AreSets (sym (eqb-true n m e)) are

pub are_sets : (n : ℕ) → is_number_of_sets n ≡ true → AreSets n
are_sets n is = elim (or_cases (nat_eq n 8) _ is) [
  | inl e ↦ sets_of n 8 e (record { some = omega arith; by_eight = refl })
  | inr is ↦ elim (or_cases (nat_eq n 16) _ is) [
    | inl e ↦ sets_of n 16 e (record { some = omega arith; by_eight = refl })
    | inr is ↦ elim (or_cases (nat_eq n 32) _ is) [
      | inl e ↦ sets_of n 32 e (record { some = omega arith; by_eight = refl })
      | inr is ↦ elim (or_cases (nat_eq n 64) _ is) [
        | inl e ↦ sets_of n 64 e (record { some = omega arith; by_eight = refl })
        | inr is ↦ elim (or_cases (nat_eq n 128) _ is) [
          | inl e ↦ sets_of n 128 e (record { some = omega arith; by_eight = refl })
          | inr is ↦ elim (or_cases (nat_eq n 256) _ is) [
            | inl e ↦ sets_of n 256 e (record { some = omega arith; by_eight = refl })
            | inr none ↦ absurd (no none)
          ]
        ]
      ]
    ]
  ]
]
  where
    no : false ≡ true → ⊥
    no e = cc

-- ---- a slot of a set

pub record InRange (first n i : ℕ) : Type 0 where
  pub from : first ≤ i
  pub below : i < first + n

pub in_range : (first n i : ℕ) → Contains (range_with_len first n) i → InRange first n i
in_range first n i has =
    let few : has.0 < n = subst (λ (m : ℕ). has.0 < m) (length-range_with_len first n) has.1 in
    let is = sym (get_or-range_with_len first n has.0 i few) ∙ has.2 in
    record { from = omega (arith, is); below = omega (arith, is, few) }

pub contained : (first n i : ℕ) → InRange first n i → Contains (range_with_len first n) i
contained first n i range =
    let few : i - first < n = omega (arith, range.from, range.below) in
    let is : first + (i - first) ≡ i = omega (arith, range.from) in
    (i - first, subst (λ (m : ℕ). i - first < m) (sym (length-range_with_len first n)) few, get_or-range_with_len first n (i - first) i few ∙ is)

pub range_any : (first n i : ℕ) → InRange first n i → list_any (λ j. j == i) (range_with_len first n) ≡ true
range_any first n i range = is_among i first n range.from range.below

pub any_range : (first n i : ℕ) → list_any (λ j. j == i) (range_with_len first n) ≡ true → InRange first n i
any_range first n i e = let h = among i first n e in record { from = h.0; below = h.1 }

module _ (cache : Cache) where
  abbrev pub InSet : ℕ → ℕ → Type 0
  InSet addr i = Contains (set_of addr cache) i

  abbrev pub first_of : ℕ → ℕ
  first_of addr = addr / 32 % cache.shape.sets * cache.shape.ways

  pub set_range : (addr i : ℕ) → InSet addr i → InRange (first_of addr) cache.shape.ways i
  set_range addr i has = in_range (first_of addr) cache.shape.ways i has

  -- it is one of the cache
  pub set_within : (addr i : ℕ) → InSet addr i → 1 ≤ cache.shape.sets → length cache.slots ≡ cache.shape.ways * cache.shape.sets → i < length cache.slots
  set_within addr i has some all =
      below_all (first_of addr) (suc (addr / 32 % cache.shape.sets) * cache.shape.ways) (cache.shape.sets * cache.shape.ways) cache.shape.ways i (length cache.slots)
      (mul-le-mul_right cache.shape.ways (mod-lt (addr / 32) some)) (suc-mul (addr / 32 % cache.shape.sets) cache.shape.ways) (all ∙ mul_comm cache.shape.ways cache.shape.sets) (set_range addr i has).below
    where
      below_all : (a b d w i n : ℕ) → b ≤ d → b ≡ a + w → n ≡ d → i < a + w → i < n
      below_all a b d w i n h0 h1 h2 h3 = omega (arith, h0, h1, h2, h3)

  -- the same set and line for each address of a line
  pub same_set_of : (a b : ℕ) → a / 32 ≡ b / 32 → set_of a cache ≡ set_of b cache
  same_set_of a b e = ap (λ (q : ℕ). range_with_len (q % cache.shape.sets * cache.shape.ways) cache.shape.ways) e

  -- a slot of two sets
  pub one_set : (a b i : ℕ) → InSet a i → InSet b i → a / 32 % cache.shape.sets ≡ b / 32 % cache.shape.sets
  one_set a b i of_a of_b =
      let ra = set_range a i of_a in
      let rb = set_range b i of_b in
      same_set (a / 32 % cache.shape.sets) (b / 32 % cache.shape.sets) cache.shape.ways i ra.from ra.below rb.from rb.below

three : {A B C D : Type 0} (f : A → B → C → D) {a a' : A} {b b' : B} {c c' : C} → a ≡ a' → b ≡ b' → c ≡ c' → f a b c ≡ f a' b' c'
three f p q r = rw (p, q, r) refl

abbrev pub HasTag : Slot → ℕ → ℕ → ℕ → Bool
HasTag s x y z = is_present s && (slice_index s.tag 0 == x && slice_index s.tag 1 == y && slice_index s.tag 2 == z)

pub same_holds : (a b : ℕ) (s : Slot) → a / 32 ≡ b / 32 → holds a s ≡ holds b s
same_holds a b s e = three (HasTag s) (omega (arith, e)) (omega (arith, e)) (omega (arith, e))

-- the tag bytes of a line that a slot holds
pub record HasBytes (s : Slot) (addr : ℕ) : Type 0 where
  pub high : slice_index s.tag 0 ≡ addr / 2 ^ 24 % 256
  pub middle : slice_index s.tag 1 ≡ addr / 2 ^ 16 % 256
  pub low : slice_index s.tag 2 ≡ addr / 2 ^ 8 % 256

pub has_bytes : (addr : ℕ) (s : Slot) → holds addr s ≡ true → HasBytes s addr
has_bytes addr s e =
    let p = both (is_present s) _ e in
    let q = both _ (slice_index s.tag 2 == addr / 2 ^ 8 % 256) p.1 in
    let r = both (slice_index s.tag 0 == addr / 2 ^ 24 % 256) _ q.0 in
    record {
      high = eqb-true (slice_index s.tag 0) (addr / 2 ^ 24 % 256) r.0;
      middle = eqb-true (slice_index s.tag 1) (addr / 2 ^ 16 % 256) r.1;
      low = eqb-true (slice_index s.tag 2) (addr / 2 ^ 8 % 256) q.1;
    }

-- with the tag bytes of two addresses, they are the same for every slot
pub same_tag : (s : Slot) (a b : ℕ) (t : Slot) → HasBytes s a → HasBytes s b → holds a t ≡ holds b t
same_tag s a b t ha hb = three (HasTag t) (sym ha.high ∙ hb.high) (sym ha.middle ∙ hb.middle) (sym ha.low ∙ hb.low)

-- a slot holds one line of its set
pub one_line : (cache : Cache) (a b i : ℕ) (s : Slot) → AreSets cache.shape.sets → a < 2 ^ 32 → b < 2 ^ 32 → InSet cache a i → InSet cache b i → HasBytes s a → HasBytes s b → a / 32 ≡ b / 32
one_line cache a b i s are la lb of_a of_b ha hb =
    let is = same_line a b cache.shape.sets la lb are.by_eight (sym ha.high ∙ hb.high) (sym ha.middle ∙ hb.middle) (sym ha.low ∙ hb.low) (one_set cache a b i of_a of_b) in
    omega (arith, is)

-- ---- the slot that holds the line of an address

none_passes : (p : ℕ → Bool) (i : ℕ) (ws : List ℕ) → find p ws ≡ None → list_any (λ j. j == i) ws ≡ true → p i ≡ true → ⊥
none_passes p i [] none any is = absurd cc
none_passes p i (w ∷ ws) none any is = elim (cases_Bool (p w)) [
  | inl good ↦ some_not w (rw good at none)
  | inr bad ↦ elim (or_cases (w == i) (list_any (λ j. j == i) ws) any) [
    | inl same ↦ true_not_false (sym is ∙ (ap p (sym (eqb-true w i same)) ∙ bad))
    | inr later ↦ none_passes p i ws (rw bad at none) later is
  ]
]
  where
    some_not : (w : ℕ) → Some w ≡ None → ⊥
    some_not w e = absurd cc

-- none does
pub none_holds : (cache : Cache) (addr i : ℕ) → matching addr cache ≡ None → InSet cache addr i → holds addr (slot_at i cache) ≡ true → ⊥
none_holds cache addr i none of_set is = none_passes (λ j. holds addr (slot_at j cache)) i (set_of addr cache) none (range_any (first_of cache addr) cache.shape.ways i (set_range cache addr i of_set)) is

-- one does
pub record Matches (cache : Cache) (addr i : ℕ) : Type 0 where
  pub held : holds addr (slot_at i cache) ≡ true
  pub of_set : InSet cache addr i

pub matches : (cache : Cache) (addr i : ℕ) → matching addr cache ≡ Some i → Matches cache addr i
matches cache addr i found =
    let h = find_passes (λ j. holds addr (slot_at j cache)) (set_of addr cache) i found in
    record { held = h.0; of_set = contained (first_of cache addr) cache.shape.ways i (any_range (first_of cache addr) cache.shape.ways i h.1) }

-- and no other, so that it is found
pub found_one : (cache : Cache) (addr i : ℕ) → IsApart cache → InSet cache addr i → holds addr (slot_at i cache) ≡ true → matching addr cache ≡ Some i
found_one cache addr i apart of_set is = find_one (λ j. holds addr (slot_at j cache)) i (set_of addr cache) (range_any (first_of cache addr) cache.shape.ways i (set_range cache addr i of_set)) is
    (λ j among_set at_j. apart addr j i (contained (first_of cache addr) cache.shape.ways j (any_range (first_of cache addr) cache.shape.ways j among_set)) of_set at_j is)
