-- The table has the cell of each register in each window, which is computed for each entry.
use Rattle.std.proofs.Common.{◌≡◌, ℕ, ◌+◌, ◌<◌, Bool, true, false, nat_eq, [], refl, ap, sym, ◌∙◌, arith, inl, inr}
use Rattle.std.specs.List.{list_all, range_with_len, slice_index_or}
use Rattle.std.proofs.lemmas.Bool.{cases_Bool, eqb-true}
use Rattle.std.proofs.lemmas.List.Folds.{list_all_at}
use Rattle.std.proofs.lemmas.List.FromFn.{length-range_with_len, get_or-range_with_len}
use Rattle.lf_model.specs.State.{cell}
use Rattle.v8_windows.specs.declared.TheConstants.{CELLS}

-- what holds of each number below n holds of this one
all_below : (p : ℕ → Bool) (n i : ℕ) → list_all p (range_with_len 0 n) ≡ true → i < n → p i ≡ true
all_below p n i all below = elim (cases_Bool (p i)) [
  | inl holds ↦ holds
  | inr fails ↦
      let none : list_all p (range_with_len 0 n) ≡ false =
      list_all_at p (range_with_len 0 n) i 0 (omega (arith, length-range_with_len 0 n, below)) (ap p (get_or-range_with_len 0 n i 0 below ∙ start i) ∙ fails) in
      let e : true ≡ false = sym all ∙ none in
      cc
]
  where
    start : (i : ℕ) → 0 + i ≡ i
    start i = omega arith

abbrev in_table : ℕ → ℕ → ℕ
in_table window n = slice_index_or (slice_index_or CELLS window []) n 0

each_entry : list_all (λ window. list_all (λ n. nat_eq (in_table window n) (cell window n)) (range_with_len 0 32)) (range_with_len 0 8) ≡ true
each_entry = refl

pub table_cell : (window n : ℕ) → window < 8 → n < 32 → slice_index_or (slice_index_or CELLS window []) n 0 ≡ cell window n
table_cell window n window_fits n_fits =
    let of_window = all_below (λ w. list_all (λ m. nat_eq (in_table w m) (cell w m)) (range_with_len 0 32)) 8 window each_entry window_fits in
    eqb-true (in_table window n) (cell window n) (all_below (λ m. nat_eq (in_table window m) (cell window m)) 32 n of_window n_fits)
