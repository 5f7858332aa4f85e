-- A look-up after its tag check hits in a slot of the set exactly where the line is present there, the wanted words are valid,
-- and none of their bytes is struck.
use Rattle.std.proofs.Common.{◌≡◌, ◌∙◌, ◌==◌, ◌&&◌, not, ℕ, Bool, true, false, List, [], ◌∷◌, Option, Some, None, find, refl, ap, sym, if◌then◌else◌, inl, inr}
use Rattle.std.proofs.lemmas.Bool.{cases_Bool, eqb-true, eq-eqb}
use Rattle.lf_model.proofs.LineLemmas.{or_case, or_left, or_right}
use Rattle.std.specs.List.{list_any}
use Rattle.std.specs.Option.{option_map_or}
use Rattle.lf_model.specs.Caches.Slot.{has_wanted_words, has_struck_byte}
use Rattle.lf_model.specs.Caches.Cache.{Cache, slot_at}
use Rattle.lf_model.specs.Caches.Look.{Checked, Looked, look_in, look_by}
use Rattle.lf_model.specs.Caches.Residence.{is_hit_in}

pub true_not_false : true ≡ false → ⊥
true_not_false e = absurd cc

pub and_false : (b : Bool) → (b && false) ≡ false
and_false true = refl
and_false false = refl

pub and_true : (b : Bool) → (b && true) ≡ b
and_true true = refl
and_true false = refl

pub both : (p q : Bool) → (p && q) ≡ true → (p ≡ true) × (q ≡ true)
both true q h = (refl, h)
both false q h = absurd cc

pub same_bools : (a b : Bool) → (a ≡ true → b ≡ true) → (b ≡ true → a ≡ true) → a ≡ b
same_bools true b f g = sym (f refl)
same_bools false true f g = g refl
same_bools false false f g = refl

-- ---- the first number that passes a test

pub find_one : (p : ℕ → Bool) (i : ℕ) (ws : List ℕ) → list_any (λ j. j == i) ws ≡ true → p i ≡ true
    → ((j : ℕ) → list_any (λ m. m == j) ws ≡ true → p j ≡ true → j ≡ i) → find p ws ≡ Some i
find_one p i [] among passes only = absurd cc
find_one p i (w ∷ ws) among passes only = elim (cases_Bool (p w)) [
  | inl yes_w ↦ rw yes_w (ap Some (only w (or_left (w == w) _ (eq-eqb w w refl)) yes_w))
  | inr no_w ↦ rw no_w (find_one p i ws (later no_w) passes (λ j among_ws. only j (or_right (w == j) _ among_ws)))
]
  where
    later : p w ≡ false → list_any (λ j. j == i) ws ≡ true
    later no_w = elim (or_case (w == i) (list_any (λ j. j == i) ws) among) [
      | inl same ↦ absurd (true_not_false (sym passes ∙ (ap p (sym (eqb-true w i same)) ∙ no_w)))
      | inr rest ↦ rest
    ]

pub find_passes : (p : ℕ → Bool) (ws : List ℕ) (m : ℕ) → find p ws ≡ Some m → (p m ≡ true) × (list_any (λ j. j == m) ws ≡ true)
find_passes p [] m e = absurd cc
find_passes p (w ∷ ws) m e = elim (cases_Bool (p w)) [
  | inl yes_w ↦ let h : w ≡ m = same (rw yes_w at e) in (ap p (sym h) ∙ yes_w, or_left (w == m) _ (eq-eqb w m h))
  | inr no_w ↦ let h = find_passes p ws m (rw no_w at e) in (h.0, or_right (w == m) _ h.1)
]
  where
    same : Some w ≡ Some m → w ≡ m
    same h = cc

-- ---- the answer of a look-up

pick : (i : ℕ) (e w b : Bool) (x y z : Looked) → is_hit_in i x.answer ≡ false → is_hit_in i y.answer ≡ false → is_hit_in i z.answer ≡ e
    → is_hit_in i (if not w then x else if b then y else z).answer ≡ (e && (w && not b))
pick i e true true x y z hx hy hz = hy ∙ sym (and_false e)
pick i e true false x y z hx hy hz = hz ∙ sym (and_true e)
pick i e false b x y z hx hy hz = hx ∙ sym (and_false e)

abbrev pub good_words : ℕ → ℕ → Cache → ℕ → Bool
good_words addr len c i = has_wanted_words addr len (slot_at i c) && not (has_struck_byte addr len (slot_at i c))

hit_in : (addr len i j : ℕ) (c : Cache) → is_hit_in i (look_in addr len j c).answer ≡ ((j == i) && good_words addr len c j)
hit_in addr len i j c = pick i (j == i) (has_wanted_words addr len (slot_at j c)) (has_struck_byte addr len (slot_at j c)) _ _ _ refl refl refl

at_same : (f : ℕ → Bool) (i j : ℕ) (same : Bool) → (j == i) ≡ same → (same && f j) ≡ (same && f i)
at_same f i j true e = ap f (eqb-true j i e)
at_same f i j false e = refl

pub hit_by : (addr len i : ℕ) (k : Checked) (m : Option ℕ)
    → is_hit_in i (look_by addr len k m).answer ≡ (option_map_or (λ j. j == i) m false && good_words addr len k.cache i)
hit_by addr len i k None = refl
hit_by addr len i k (Some j) = hit_in addr len i j k.cache ∙ at_same (good_words addr len k.cache) i j (j == i) refl
