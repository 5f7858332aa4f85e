-- What the tables of the code are, each fact computed from the table.
use Rattle.std.proofs.Common.{◌≡◌, ℕ, zero, suc, ◌+◌, ◌%◌, ◌^◌, ◌<◌, ◌≢◌, Bool, true, false, not, ◌&&◌, ◌||◌, cond, nat_eq, nat_lt, slice_index, slice_get, All, Some, refl, sym, ap, ◌∙◌, arith, inl, inr}
use Rattle.std.specs.Int.{bit_at}
use Rattle.std.specs.Int.Bits.{bit_xor}
use Rattle.std.proofs.lemmas.Bool.{eqb-true, eqb-false, ltb-true, not-true, and_parts, or_cases, cases_eq}
use Rattle.std.proofs.lemmas.Option.{slice_get_within, get_or_from_slice_get}
use Rattle.std.proofs.lemmas.Nat.Bits.{bit_at-zero}
use Rattle.lf_num.specs.Bits.{sum_below, ones_below}
use Rattle.lf_num.proofs.Sums.{sum_below-zeros}
use Rattle.lf_num.specs.Columns.{columns, column}
use Rattle.edac_code.specs.declared.TheConstants.{COLUMNS, CHECKED_BITS}

-- the test holds at each number below n
abbrev pub each_below : ℕ → (ℕ → Bool) → Bool
each_below zero test = true
each_below (suc n) test = cond (test n) (each_below n test) false

pub each_below-at : (n : ℕ) (test : ℕ → Bool) → each_below n test ≡ true → (i : ℕ) → i < n → test i ≡ true
each_below-at zero test all i lt = absurd (omega arith)
each_below-at (suc n) test all i lt =
    let parts : (test n ≡ true) × (each_below n test ≡ true) = split (test n) (each_below n test) all in
    elim (cases_eq i n) [
      | inl same ↦ ap test same ∙ parts.0
      | inr other ↦ each_below-at n test parts.1 i (omega arith)
    ]
  where
    split : (a b : Bool) → cond a b false ≡ true → (a ≡ true) × (b ≡ true)
    split true b all = (refl, all)
    split false b all = cc

-- the columns have seven bits and an odd number of ones, no two are equal, and the sum modulo 2 of two is no column
follow_rule : ℕ → ℕ → ℕ → Bool
follow_rule a b other =
    nat_lt (column a) 128 && nat_eq (ones_below 7 (column a) % 2) 1 && (nat_eq a b || not (nat_eq (column a) (column b)))
    && not (nat_eq (bit_xor (column a) (column b)) (column other))

rule_everywhere : each_below 39 (λ a. each_below 39 (λ b. each_below 39 (λ other. follow_rule a b other))) ≡ true
unfolding column columns follow_rule sum_below
rule_everywhere = refl

pub record ColumnRule (a b other : ℕ) : Type 0 where
  pub fits : column a < 2 ^ 7
  pub odd : ones_below 7 (column a) % 2 ≡ 1
  pub distinct : a ≢ b → column a ≢ column b
  pub no_sum : bit_xor (column a) (column b) ≢ column other

pub column_rule : (a b other : ℕ) → a < 39 → b < 39 → other < 39 → ColumnRule a b other
unfolding follow_rule
column_rule a b other a_lt b_lt other_lt =
    let at_a = each_below-at 39 (λ x. each_below 39 (λ y. each_below 39 (λ z. follow_rule x y z))) rule_everywhere a a_lt in
    let at_b = each_below-at 39 (λ y. each_below 39 (λ z. follow_rule a y z)) at_a b b_lt in
    let holds : follow_rule a b other ≡ true = each_below-at 39 (λ z. follow_rule a b z) at_b other other_lt in
    let three = and_parts _ _ holds in
    let two = and_parts _ _ three.0 in
    let one = and_parts _ _ two.0 in
    record {
      fits = ltb-true (column a) 128 one.0;
      odd = eqb-true (ones_below 7 (column a) % 2) 1 one.1;
      distinct = λ different same. elim (or_cases _ _ two.1) [
        | inl equal ↦ different (eqb-true a b equal)
        | inr unequal ↦ eqb-false (column a) (column b) (not-true _ unequal) same
      ];
      no_sum = eqb-false (bit_xor (column a) (column b)) (column other) (not-true _ three.1);
    }

-- a number with an odd number of ones is not 0
pub column-nonzero : (bit : ℕ) → bit < 39 → column bit ≢ 0
column-nonzero bit lt none =
    let odd = (column_rule bit bit bit lt lt lt).odd in
    let count : ones_below 7 (column bit) ≡ 0 = ap (ones_below 7) none ∙ sum_below-zeros 7 (λ i. bit_at 0 i) (λ i i_lt. bit_at-zero i) in
    absurd (omega (arith, odd))

-- the column of a check bit is its own bit
check_columns : each_below 7 (λ j. nat_eq (column (32 + j)) (2 ^ j)) ≡ true
unfolding column columns
check_columns = refl

pub column-check : (j : ℕ) → j < 7 → column (32 + j) ≡ 2 ^ j
column-check j lt = eqb-true (column (32 + j)) (2 ^ j) (each_below-at 7 (λ k. nat_eq (column (32 + k)) (2 ^ k)) check_columns j lt)

-- the masks are the columns, turned on their side
mask_columns : each_below 7 (λ j. each_below 32 (λ i. nat_eq (bit_at (slice_index CHECKED_BITS j) i) (bit_at (column i) j))) ≡ true
unfolding column columns
mask_columns = refl

pub bit_at-mask : (i j : ℕ) → i < 32 → j < 7 → bit_at (slice_index CHECKED_BITS j) i ≡ bit_at (column i) j
bit_at-mask i j i_lt j_lt =
    let at_j = each_below-at 7 (λ k. each_below 32 (λ l. nat_eq (bit_at (slice_index CHECKED_BITS k) l) (bit_at (column l) k))) mask_columns j j_lt in
    eqb-true (bit_at (slice_index CHECKED_BITS j) i) (bit_at (column i) j)
    (each_below-at 32 (λ l. nat_eq (bit_at (slice_index CHECKED_BITS j) l) (bit_at (column l) j)) at_j i i_lt)

-- what is found in the code's table is the column of that bit, and a number that is not found is no column
pub column-found : (place entry : ℕ) → slice_get COLUMNS place ≡ Some entry → (place < 39) × (entry ≡ column place)
unfolding column columns
column-found place entry found = (slice_get_within COLUMNS place entry found, sym (get_or_from_slice_get COLUMNS place entry 0 found))

pub column-absent : (entry : ℕ) → All (λ other. other ≢ entry) COLUMNS → (bit : ℕ) → bit < 39 → entry ≢ column bit
unfolding column columns
column-absent entry absent bit lt same = absent bit 0 lt (sym same)
