-- A word is bad by its syndrome, which is neither 0 nor a column, exactly where two of its bits are turned. This holds since the
-- columns are 39 different numbers, none of them 0, each with an odd number of ones; here it is computed for all pairs of bits.
use Rattle.std.proofs.Common.{◌≡◌, ◌∙◌, ◌<◌, ◌≤◌, ◌==◌, ◌&&◌, inl, inr, ℕ, zero, suc, Bool, true, false, nat_lt, List, [], ◌∷◌, length, filter, refl, ap, sym, arith, if◌then◌else◌}
use Rattle.std.proofs.lemmas.Bool.{false≢true, ltb-true, lt-ltb, ne_eqb, and_parts, cases_eq}
use Rattle.lf_num.specs.Columns.{columns, column, columns_sum}
use Rattle.lf_model.specs.Course.Syndromes.{is_bad_syndrome}
use Rattle.lf_model.specs.Flips.{Moment, Standing, struck, standing, places_below, is_turned, turned, is_bad_word, syndrome, word_budget}
use Rattle.lf_model.specs.Flips.Moment.{Struck, Written, Found, Named}
use Rattle.lf_model.specs.Ledger.Same.{same_bool}
use Rattle.lf_model.proofs.SameAccount.{bools}

-- ---- what a test that computes says of each number below one

abbrev pub each_below : ℕ → (ℕ → Bool) → Bool
each_below zero test = true
each_below (suc n) test = test n && each_below n test

pub at_each : (n : ℕ) (test : ℕ → Bool) → each_below n test ≡ true → (i : ℕ) → i < n → test i ≡ true
at_each zero test all i within = absurd (omega (arith, within))
at_each (suc n) test all i within =
    let parts = and_parts (test n) (each_below n test) all in
    elim (cases_eq i n) [
      | inl same ↦ ap test same ∙ parts.0
      | inr other ↦ at_each n test parts.1 i (omega (arith, within, other))
    ]

-- ---- at most two flips stand

one_more : (number bit : ℕ) (flips : List Standing) → length flips ≤ 2 → (b : Bool) → nat_lt (length flips) word_budget ≡ b
    → length (struck word_budget number bit flips) ≤ 2
one_more number bit flips least true is = rw is (omega (arith, ltb-true _ _ is))
one_more number bit flips least false is = rw is least

pub few : (h : List Moment) → length (standing word_budget h) ≤ 2
few [] = omega arith
few (Struck number bit ∷ h) = one_more number bit (standing word_budget h) (few h) (nat_lt (length (standing word_budget h)) word_budget) refl
few (Written how ∷ h) = omega arith
few (Found ∷ h) = few h
few (Named ∷ h) = few h

-- ---- a bit that is none of a word's turns nothing

abbrev clamped : ℕ → ℕ
clamped bit = if nat_lt bit 39 then bit else 39

same_place : (bit place : ℕ) → place < 39 → (bit == place) ≡ (clamped bit == place)
same_place bit place within = by_size (nat_lt bit 39) refl
  where
    by_size : (b : Bool) → nat_lt bit 39 ≡ b → (bit == place) ≡ (clamped bit == place)
    by_size true is = rw is refl
    by_size false is = rw is (ne_eqb bit place (λ e. false≢true (sym is ∙ lt-ltb bit 39 (omega (arith, e, within)))) ∙ sym (ne_eqb 39 place (λ e. omega (arith, e, within))))

clamped_below : (bit : ℕ) → clamped bit < 40
clamped_below bit = by_size (nat_lt bit 39) refl
  where
    by_size : (b : Bool) → nat_lt bit 39 ≡ b → clamped bit < 40
    by_size true is = rw is (omega (arith, ltb-true bit 39 is))
    by_size false is = rw is (omega arith)

filtered : (n : ℕ) (test other : ℕ → Bool) → ((place : ℕ) → place < n → test place ≡ other place) → filter test (places_below n) ≡ filter other (places_below n)
filtered zero test other same = refl
filtered (suc n) test other same =
    rw (same n (omega arith), filtered n test other (λ place within. same place (omega (arith, within)))) refl

-- ---- the law of no flip, one and two

abbrev one : ℕ → Standing
one bit = record { number = 0; bit = bit }

-- what holds of the bits that stand turned: the law, and that the syndrome has seven bits
abbrev law_of : List ℕ → Bool
law_of bits = same_bool (is_bad_syndrome (columns_sum bits)) (length bits == 2) && nat_lt (columns_sum bits) 128

none_turned : law_of (turned 39 []) ≡ true
unfolding columns column
none_turned = refl

one_turned : each_below 40 (λ a. law_of (turned 39 (one a ∷ []))) ≡ true
unfolding columns column
one_turned = refl

two_turned : each_below 40 (λ a. each_below 40 (λ b. law_of (turned 39 (one a ∷ one b ∷ [])))) ≡ true
unfolding columns column
two_turned = refl

one_clamped : (f : Standing) → turned 39 (f ∷ []) ≡ turned 39 (one (clamped f.bit) ∷ [])
one_clamped f = filtered 39 (is_turned (f ∷ [])) (is_turned (one (clamped f.bit) ∷ [])) (λ place within. rw (same_place f.bit place within) refl)

two_clamped : (f g : Standing) → turned 39 (f ∷ g ∷ []) ≡ turned 39 (one (clamped f.bit) ∷ one (clamped g.bit) ∷ [])
two_clamped f g = filtered 39 (is_turned (f ∷ g ∷ [])) (is_turned (one (clamped f.bit) ∷ one (clamped g.bit) ∷ [])) (λ place within. rw (same_place f.bit place within, same_place g.bit place within) refl)

law : (flips : List Standing) → length flips ≤ 2 → law_of (turned 39 flips) ≡ true
law [] least = none_turned
law (f ∷ []) least = ap law_of (one_clamped f) ∙ at_each 40 (λ a. law_of (turned 39 (one a ∷ []))) one_turned (clamped f.bit) (clamped_below f.bit)
law (f ∷ g ∷ []) least =
    ap law_of (two_clamped f g)
    ∙ at_each 40 (λ b. law_of (turned 39 (one (clamped f.bit) ∷ one b ∷ [])))
    (at_each 40 (λ a. each_below 40 (λ b. law_of (turned 39 (one a ∷ one b ∷ [])))) two_turned (clamped f.bit) (clamped_below f.bit))
    (clamped g.bit) (clamped_below g.bit)
law (f ∷ g ∷ e ∷ rest) least = absurd (omega (arith, least))

-- a word is bad by its syndrome exactly where two of its bits are turned
pub bad_by_syndrome : (h : List Moment) → is_bad_syndrome (syndrome h) ≡ is_bad_word h
bad_by_syndrome h = bools _ _ (and_parts _ _ (law (standing word_budget h) (few h))).0

-- a syndrome has seven bits
pub syndrome_below : (h : List Moment) → syndrome h < 128
syndrome_below h = ltb-true _ _ (and_parts _ _ (law (standing word_budget h) (few h))).1
