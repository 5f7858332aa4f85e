-- What a word reads as tells whether it is clean, fixed or bad by its history.
use Rattle.std.proofs.Common.{◌≡◌, ℕ, ◌≤◌, true, false, nat_eq, List, [], ◌∷◌, length, refl, sym, ap, arith}
use Rattle.edac_code.specs.Reading.{read_of}
use Rattle.edac_code.specs.declared.answer.Read39.TheVariants.{Clean, Fixed, Bad}
use Rattle.lf_num.specs.Columns.{columns_sum}
use Rattle.lf_model.specs.Flips.{turned_bits, is_fixed_word, is_bad_word, syndrome}
use Rattle.coded_words.specs.WordState.{WordState, answer_of, IsInBudget}

-- what holds of a word by its answer
pub record IsClean (word : WordState) (v : ℕ) : Type 0 where
  pub value : v ≡ word.value
  pub not_bad : is_bad_word word.history ≡ false
  pub not_fixed : is_fixed_word word.history ≡ false
  pub none : syndrome word.history ≡ 0

pub record IsFixed (word : WordState) (v bit : ℕ) : Type 0 where
  pub value : v ≡ word.value
  pub not_bad : is_bad_word word.history ≡ false
  pub fixed : is_fixed_word word.history ≡ true
  pub turned : turned_bits word.history ≡ bit ∷ []

pub record IsBad (word : WordState) (syn : ℕ) : Type 0 where
  pub syndrome_is : syn ≡ syndrome word.history
  pub bad : is_bad_word word.history ≡ true
  pub not_fixed : is_fixed_word word.history ≡ false

-- by the set of the bits that stand turned
clean_set : (value v : ℕ) (set : List ℕ) → read_of value set ≡ Clean v → (v ≡ value) × (set ≡ [])
clean_set value v [] is = (sym (let e : Clean value ≡ Clean v = is in let same : value ≡ v = cc in same), refl)
clean_set value v (a ∷ []) is = cc
clean_set value v (a ∷ b ∷ set) is = cc

fixed_set : (value v bit : ℕ) (set : List ℕ) → read_of value set ≡ Fixed v bit → (v ≡ value) × (set ≡ bit ∷ [])
fixed_set value v bit [] is = cc
fixed_set value v bit (a ∷ []) is =
    let e : Fixed value a ≡ Fixed v bit = is in
    let same : value ≡ v = cc in
    let there : a ≡ bit = cc in
    (sym same, ap (λ (x : ℕ). x ∷ []) there)
fixed_set value v bit (a ∷ b ∷ set) is = cc

bad_set : (value syn : ℕ) (set : List ℕ) → length set ≤ 2 → read_of value set ≡ Bad syn → (syn ≡ columns_sum set) × (length set ≡ 2)
bad_set value syn [] few is = cc
bad_set value syn (a ∷ []) few is = cc
bad_set value syn (a ∷ b ∷ []) few is = (sym (let e : Bad (columns_sum (a ∷ b ∷ [])) ≡ Bad syn = is in let same : columns_sum (a ∷ b ∷ []) ≡ syn = cc in same), refl)
bad_set value syn (a ∷ b ∷ c ∷ set) few is = absurd (omega (arith, few))

pub clean_answer : (word : WordState) (v : ℕ) → answer_of word ≡ Clean v → IsClean word v
unfolding answer_of
clean_answer word v is =
    let set = clean_set word.value v (turned_bits word.history) is in
    record {
      value = set.0;
      not_bad = ap (λ (bits : List ℕ). nat_eq (length bits) 2) set.1;
      not_fixed = ap (λ (bits : List ℕ). nat_eq (length bits) 1) set.1;
      none = ap columns_sum set.1;
    }

pub fixed_answer : (word : WordState) (v bit : ℕ) → answer_of word ≡ Fixed v bit → IsFixed word v bit
unfolding answer_of
fixed_answer word v bit is =
    let set = fixed_set word.value v bit (turned_bits word.history) is in
    record {
      value = set.0;
      not_bad = ap (λ (bits : List ℕ). nat_eq (length bits) 2) set.1;
      fixed = ap (λ (bits : List ℕ). nat_eq (length bits) 1) set.1;
      turned = set.1;
    }

pub bad_answer : (word : WordState) (syn : ℕ) → IsInBudget word.history → answer_of word ≡ Bad syn → IsBad word syn
unfolding answer_of
bad_answer word syn budget is =
    let set = bad_set word.value syn (turned_bits word.history) budget.few is in
    record {
      syndrome_is = set.0;
      bad = ap (λ (n : ℕ). nat_eq n 2) set.1;
      not_fixed = ap (λ (n : ℕ). nat_eq n 1) set.1;
    }
