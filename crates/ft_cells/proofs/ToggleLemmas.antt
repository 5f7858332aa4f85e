-- To toggle a place of the set of the ones of a number is to turn that bit of the number.
use Rattle.std.proofs.Common.{◌≡◌, ℕ, zero, suc, ◌+◌, ◌%◌, ◌^◌, ◌<◌, ◌≤◌, Bool, true, false, not, ◌||◌, cond, nat_eq, List, [], ◌∷◌, refl, sym, ap, ◌∙◌, arith, inl, inr}
use Rattle.std.specs.Prelude.{filter}
use Rattle.std.specs.Int.{bit_at}
use Rattle.std.specs.Int.Bits.{bit_xor}
use Rattle.std.proofs.lemmas.Bool.{cases_eq, ne_eqb, eq-eqb}
use Rattle.std.proofs.lemmas.Nat.Bits.{bit_at-lt, bit_at-zero}
use Rattle.lf_num.specs.Toggles.{places}
use Rattle.lf_num.proofs.ToggleLemmas.{bit_at-turned, bit_at-kept, turned_back}
use Rattle.lf_model.specs.Flips.{places_below}
use Rattle.ft_cells.specs.Toggling.{has_place, with_toggled}

-- the test for a one at a place
abbrev pub is_one : ℕ → ℕ → Bool
is_one n place = nat_eq (bit_at n place) 1

-- two tests that agree below a width keep the same places
pub filter-same : (width : ℕ) (f g : ℕ → Bool) → ((place : ℕ) → place < width → f place ≡ g place) → filter f (places_below width) ≡ filter g (places_below width)
filter-same zero f g same = refl
filter-same (suc width) f g same =
    ap (λ (b : Bool). cond b (width ∷ filter f (places_below width)) (filter f (places_below width))) (same width (omega arith))
    ∙ ap (λ (rest : List ℕ). cond (g width) (width ∷ rest) rest) (filter-same width f g (λ place lt. same place (omega arith)))

-- the places of the ones of a number, by the test
pub places-filter : (width n : ℕ) → places width n ≡ filter (is_one n) (places_below width)
unfolding places
places-filter zero n = refl
places-filter (suc width) n = ap (λ (rest : List ℕ). cond (is_one n width) (width ∷ rest) rest) (places-filter width n)

-- a place at or above the width is not among them
has_place-above : (width n place : ℕ) → width ≤ place → has_place (places width n) place ≡ false
unfolding places
has_place-above zero n place above = refl
has_place-above (suc width) n place above =
    one (is_one n width) (places width n) (ne_eqb width place (λ e. absurd (omega arith))) (has_place-above width n place (omega arith))
  where
    one : (b : Bool) (rest : List ℕ) → nat_eq width place ≡ false → has_place rest place ≡ false → has_place (cond b (width ∷ rest) rest) place ≡ false
    one true rest other before = ap (λ (x : Bool). x || has_place rest place) other ∙ before
    one false rest other before = before

-- a place below the width is among them where the number has a one
pub has_place-places : (width n place : ℕ) → place < width → has_place (places width n) place ≡ is_one n place
unfolding places
has_place-places zero n place lt = absurd (omega arith)
has_place-places (suc width) n place lt =
    elim (cases_eq place width) [
      | inl same ↦
          top (is_one n width) (places width n) (eq-eqb width place (sym same)) (has_place-above width n place (omega arith)) ∙ ap (is_one n) (sym same)
      | inr other ↦
          below (is_one n width) (places width n) (ne_eqb width place (λ e. other (sym e))) ∙ has_place-places width n place (omega arith)
    ]
  where
    top : (b : Bool) (rest : List ℕ) → nat_eq width place ≡ true → has_place rest place ≡ false → has_place (cond b (width ∷ rest) rest) place ≡ b
    top true rest same none = ap (λ (x : Bool). x || has_place rest place) same
    top false rest same none = none

    below : (b : Bool) (rest : List ℕ) → nat_eq width place ≡ false → has_place (cond b (width ∷ rest) rest) place ≡ has_place rest place
    below true rest other = ap (λ (x : Bool). x || has_place rest place) other
    below false rest other = refl

-- a turned bit is a one just where it was none
is_one-turned : (n place : ℕ) → is_one (bit_xor n (2 ^ place)) place ≡ not (is_one n place)
is_one-turned n place = ap (λ (d : ℕ). nat_eq d 1) (bit_at-turned n place) ∙ turned (bit_at n place) (bit_at-lt n place)
  where
    turned : (d : ℕ) → d < 2 → nat_eq ((d + 1) % 2) 1 ≡ not (nat_eq d 1)
    turned zero small = refl
    turned (suc zero) small = refl
    turned (suc (suc d)) small = absurd (omega arith)

pub with_toggled-places : (width n place : ℕ) → with_toggled width (places width n) place ≡ places width (bit_xor n (2 ^ place))
unfolding with_toggled
with_toggled-places width n place =
    filter-same width _ (is_one (bit_xor n (2 ^ place))) (λ other lt.
    elim (cases_eq other place) [
      | inl same ↦ rw (eq-eqb other place same) (ap not (has_place-places width n other lt) ∙ ap (λ (p : ℕ). not (is_one n p)) same ∙ sym (is_one-turned n place) ∙ ap (is_one (bit_xor n (2 ^ place))) (sym same))
      | inr different ↦ rw (ne_eqb other place different) (has_place-places width n other lt ∙ ap (λ (d : ℕ). nat_eq d 1) (sym (bit_at-kept n place other different)))
    ])
    ∙ sym (places-filter width (bit_xor n (2 ^ place)))

-- 0 has no ones
pub places-zero : (width : ℕ) → places width 0 ≡ []
unfolding places
places-zero zero = refl
places-zero (suc width) = rw (bit_at-zero width) (places-zero width)
