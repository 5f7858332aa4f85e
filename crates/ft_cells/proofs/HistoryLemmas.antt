-- A cell follows the history of its unit.
use Rattle.std.proofs.Common.{◌≡◌, ℕ, zero, suc, ◌+◌, ◌-◌, ◌%◌, ◌<◌, ◌≤◌, Bool, true, false, not, ◌||◌, cond, nat_eq, nat_lt, List, ◌∷◌, length, refl, sym, ap, ◌∙◌, zero-add, arith, inl, inr}
use Rattle.std.specs.Prelude.{filter}
use Rattle.std.specs.List.{count_by}
use Rattle.std.proofs.lemmas.Bool.{cases_eq, ne_eqb, eq-eqb, lt-ltb, le-ltb}
use Rattle.std.proofs.lemmas.List.Sums.{sum_by-cons}
use Rattle.lf_num.specs.Columns.{columns_sum}
use Rattle.lf_model.specs.Flips.{How, Moment, Standing, struck, standing, places_below, is_turned, turned, word_budget, word_bits, is_bad_word, syndrome}
use Rattle.lf_model.specs.Flips.Moment.{Struck, Written}
use Rattle.ft_cells.specs.Toggling.{has_place, with_toggled}
use Rattle.ft_cells.specs.WordCells.{CellState, fresh, FlipsCell, syndrome_of}
use Rattle.ft_cells.specs.declared.flipped.Flipped.{Flipped}
use Rattle.ft_cells.specs.declared.flipped.Flipped.TheVariants.{Applied, Declined}
use Rattle.ft_cells.proofs.ToggleLemmas.{filter-same}
use Rattle.ft_cells.specs.Histories.{IsCellOf}

-- a place at or above the width is not among those that pass a test
has_place-above : (width : ℕ) (p : ℕ → Bool) (place : ℕ) → width ≤ place → has_place (filter p (places_below width)) place ≡ false
has_place-above zero p place above = refl
has_place-above (suc width) p place above =
    one (p width) (filter p (places_below width)) (ne_eqb width place (λ e. absurd (omega arith))) (has_place-above width p place (omega arith))
  where
    one : (b : Bool) (rest : List ℕ) → nat_eq width place ≡ false → has_place rest place ≡ false → has_place (cond b (width ∷ rest) rest) place ≡ false
    one true rest other before = ap (λ (x : Bool). x || has_place rest place) other ∙ before
    one false rest other before = before

-- one below it is among them where it passes
has_place-below : (width : ℕ) (p : ℕ → Bool) (place : ℕ) → place < width → has_place (filter p (places_below width)) place ≡ p place
has_place-below zero p place lt = absurd (omega arith)
has_place-below (suc width) p place lt =
    elim (cases_eq place width) [
      | inl same ↦
          top (p width) (filter p (places_below width)) (eq-eqb width place (sym same)) (has_place-above width p place (omega arith)) ∙ ap p (sym same)
      | inr other ↦
          below (p width) (filter p (places_below width)) (ne_eqb width place (λ e. other (sym e))) ∙ has_place-below width p place (omega arith)
    ]
  where
    top : (b : Bool) (rest : List ℕ) → nat_eq width place ≡ true → has_place rest place ≡ false → has_place (cond b (width ∷ rest) rest) place ≡ b
    top true rest same none = ap (λ (x : Bool). x || has_place rest place) same
    top false rest same none = none

    below : (b : Bool) (rest : List ℕ) → nat_eq width place ≡ false → has_place (cond b (width ∷ rest) rest) place ≡ has_place rest place
    below true rest other = ap (λ (x : Bool). x || has_place rest place) other
    below false rest other = refl

-- one more makes an odd number even, and an even one odd
parity : (n : ℕ) → nat_eq ((1 + n) % 2) 1 ≡ not (nat_eq (n % 2) 1)
parity n =
    let small : n % 2 < 2 = omega arith in
    let next : (1 + n) % 2 ≡ 1 - n % 2 = omega arith in
    ap (λ (d : ℕ). nat_eq d 1) next ∙ turn (n % 2) small
  where
    turn : (d : ℕ) → d < 2 → nat_eq (1 - d) 1 ≡ not (nat_eq d 1)
    turn zero small = refl
    turn (suc zero) small = refl
    turn (suc (suc d)) small = absurd (omega arith)

-- one more flip turns its bit, and no other
is_turned-more : (flip : Standing) (flips : List Standing) (place : ℕ)
    → is_turned (flip ∷ flips) place ≡ cond (nat_eq place flip.bit) (not (is_turned flips place)) (is_turned flips place)
is_turned-more flip flips place =
    let count : count_by (λ (f : Standing). nat_eq f.bit place) (flip ∷ flips) ≡ cond (nat_eq flip.bit place) 1 0 + count_by (λ (f : Standing). nat_eq f.bit place) flips =
    sum_by-cons (λ (f : Standing). cond (nat_eq f.bit place) 1 0) flip flips in
    ap (λ (n : ℕ). nat_eq (n % 2) 1) count ∙ (elim (cases_eq place flip.bit) [
      | inl same ↦ rw (eq-eqb place flip.bit same, eq-eqb flip.bit place (sym same)) (parity (count_by (λ (f : Standing). nat_eq f.bit place) flips))
      | inr other ↦ rw (ne_eqb place flip.bit other, ne_eqb flip.bit place (λ e. other (sym e))) (ap (λ (n : ℕ). nat_eq (n % 2) 1) (zero-add (count_by (λ (f : Standing). nat_eq f.bit place) flips)))
    ])

turned-more : (width : ℕ) (flip : Standing) (flips : List Standing) → turned width (flip ∷ flips) ≡ with_toggled width (turned width flips) flip.bit
unfolding with_toggled
turned-more width flip flips =
    filter-same width _ _ (λ place lt.
    is_turned-more flip flips place
    ∙ ap (λ (b : Bool). cond (nat_eq place flip.bit) (not b) b) (sym (has_place-below width (is_turned flips) place lt)))

-- an applied flip, and one that is declined
turned-applied : (width most number bit : ℕ) (flips : List Standing) → nat_lt (length flips) most ≡ true
    → turned width (struck most number bit flips) ≡ with_toggled width (turned width flips) bit
turned-applied width most number bit flips below =
    ap (λ (b : Bool). turned width (cond b (record { number = number; bit = bit } ∷ flips) flips)) below ∙ turned-more width (record { number = number; bit = bit }) flips

length-applied : (most number bit : ℕ) (flips : List Standing) → nat_lt (length flips) most ≡ true → length (struck most number bit flips) ≡ length flips + 1
length-applied most number bit flips below =
    let is : length (struck most number bit flips) ≡ suc (length flips) = ap (λ (b : Bool). length (cond b (record { number = number; bit = bit } ∷ flips) flips)) below in
    omega (arith, is)

struck-declined : (most number bit : ℕ) (flips : List Standing) → nat_lt (length flips) most ≡ false → struck most number bit flips ≡ flips
struck-declined most number bit flips full = ap (λ (b : Bool). cond b (record { number = number; bit = bit } ∷ flips) flips) full

pub cell_written : (how : How) (h : List Moment) (value : ℕ) → IsCellOf (Written how ∷ h) (fresh value)
cell_written how h value = record { toggled = refl; hits = refl }

-- a cell after a flip
pub cell_struck : (h : List Moment) (number bit : ℕ) (old new : CellState) (answer : Flipped) → IsCellOf h old → FlipsCell old bit answer new
    → IsCellOf (Struck number bit ∷ h) new
cell_struck h number bit old new Applied is flips =
    let below : nat_lt (length (standing word_budget h)) word_budget ≡ true = lt-ltb (length (standing word_budget h)) word_budget (omega (arith, is.hits, flips.0)) in
    record {
      toggled =
          ap (λ (c : CellState). c.toggled) flips.1
          ∙ ap (λ (set : List ℕ). with_toggled word_bits set bit) is.toggled
          ∙ sym (turned-applied word_bits word_budget number bit (standing word_budget h) below);
      hits =
          ap (λ (c : CellState). c.hits) flips.1
          ∙ ap (λ (n : ℕ). n + 1) is.hits
          ∙ sym (length-applied word_budget number bit (standing word_budget h) below);
    }
cell_struck h number bit old new (Declined hits) is flips =
    let full : nat_lt (length (standing word_budget h)) word_budget ≡ false = le-ltb (length (standing word_budget h)) word_budget (omega (arith, is.hits, flips.0)) in
    let same : standing word_budget (Struck number bit ∷ h) ≡ standing word_budget h = struck-declined word_budget number bit (standing word_budget h) full in
    record {
      toggled = ap (λ (c : CellState). c.toggled) flips.2 ∙ is.toggled ∙ sym (ap (turned word_bits) same);
      hits = ap (λ (c : CellState). c.hits) flips.2 ∙ is.hits ∙ sym (ap (length {A = Standing}) same);
    }

-- a cell reads good or bad by its history, and with its syndrome
pub good_history : (h : List Moment) (cell : CellState) → IsCellOf h cell → length cell.toggled < 2 → is_bad_word h ≡ false
good_history h cell is few = ap (λ (set : List ℕ). nat_eq (length set) 2) (sym is.toggled) ∙ ne_eqb (length cell.toggled) 2 (λ e. absurd (omega (arith, e, few)))

pub same_syndrome : (h : List Moment) (cell : CellState) → IsCellOf h cell → syndrome_of cell ≡ syndrome h
same_syndrome h cell is = ap columns_sum is.toggled
