-- Tests of the places of a run, and the bytes of a number.
use Rattle.std.proofs.Common.{◌≡◌, ℕ, zero, suc, ◌+◌, ◌*◌, ◌^◌, ◌<◌, Bool, true, false, ◌||◌, cond, List, [], ◌∷◌, ◌++◌, length, take, drop, slice_index, refl, sym, ap, ◌∙◌, subst, arith, add-one}
use Rattle.std.specs.Prelude.{filter}
use Rattle.std.specs.List.{list_any, range_with_len}
use Rattle.std.proofs.Math.Nat.{pow-suc}
use Rattle.std.proofs.lemmas.Grind.{fold-append}
use Rattle.std.proofs.lemmas.List.{take_more, length-drop, get_or-drop}
use Rattle.parity_slots.specs.SlotState.{number_of}

module _ (p : ℕ → Bool) where
  -- none of the places passed, and the next one doesn't
  pub any_more : (a n : ℕ) → list_any p (range_with_len a n) ≡ false → p (a + n) ≡ false → list_any p (range_with_len a (suc n)) ≡ false
  any_more a zero none next = ap (λ (b : Bool). b || false) (subst (λ (i : ℕ). p i ≡ false) (omega arith) next)
  any_more a (suc n) none next = both (p a) none (λ e. any_more (a + 1) n e (subst (λ (i : ℕ). p i ≡ false) (omega arith) next))
    where
      both : (b : Bool) → (b || list_any p (range_with_len (a + 1) n)) ≡ false → (list_any p (range_with_len (a + 1) n) ≡ false → list_any p (range_with_len (a + 1) (suc n)) ≡ false)
          → (b || list_any p (range_with_len (a + 1) (suc n))) ≡ false
      both true e later = e
      both false e later = later e

  -- one passes
  pub any_found : (a n i : ℕ) → i < n → p (a + i) ≡ true → list_any p (range_with_len a n) ≡ true
  any_found a zero i lt is = absurd (omega arith)
  any_found a (suc n) zero lt is = ap (λ (b : Bool). b || list_any p (range_with_len (a + 1) n)) (subst (λ (j : ℕ). p j ≡ true) (omega arith) is)
  any_found a (suc n) (suc i) lt is = later (p a) (any_found (a + 1) n i (omega arith) (subst (λ (j : ℕ). p j ≡ true) (omega arith) is))
    where
      later : (b : Bool) → list_any p (range_with_len (a + 1) n) ≡ true → (b || list_any p (range_with_len (a + 1) n)) ≡ true
      later true e = refl
      later false e = e

  -- none passes
  pub any_none : (a n i : ℕ) → i < n → list_any p (range_with_len a n) ≡ false → p (a + i) ≡ false
  any_none a n i lt none = cases (p (a + i)) refl
    where
      cases : (b : Bool) → p (a + i) ≡ b → b ≡ false
      cases true e = sym (any_found a n i lt e) ∙ none
      cases false e = refl

-- a run with one place more
pub range_more : (a n : ℕ) → range_with_len a (suc n) ≡ range_with_len a n ++ (a + n) ∷ []
range_more a zero = ap (λ (i : ℕ). i ∷ []) (omega arith)
range_more a (suc n) = ap (λ (rest : List ℕ). a ∷ rest) (range_more (a + 1) n ∙ ap (λ (i : ℕ). range_with_len (a + 1) n ++ i ∷ []) (omega arith))

filter-append : (p : ℕ → Bool) (xs ys : List ℕ) → filter p (xs ++ ys) ≡ filter p xs ++ filter p ys
filter-append p [] ys = refl
filter-append p (x ∷ xs) ys = one (p x) (filter-append p xs ys)
  where
    one : (b : Bool) → filter p (xs ++ ys) ≡ filter p xs ++ filter p ys → cond b (x ∷ filter p (xs ++ ys)) (filter p (xs ++ ys)) ≡ cond b (x ∷ filter p xs) (filter p xs) ++ filter p ys
    one true e = ap (λ (rest : List ℕ). x ∷ rest) e
    one false e = e

pub filtered_more : (p : ℕ → Bool) (a n : ℕ) → filter p (range_with_len a (suc n)) ≡ filter p (range_with_len a n) ++ cond (p (a + n)) ((a + n) ∷ []) []
filtered_more p a n = ap (filter p) (range_more a n) ∙ filter-append p (range_with_len a n) ((a + n) ∷ [])

-- ---- the number of some bytes

pub number_more : (bytes : List ℕ) (at i : ℕ) → at + i < length bytes → number_of (take (i + 1) (drop at bytes)) ≡ number_of (take i (drop at bytes)) * 256 + slice_index bytes (at + i)
number_more bytes at i lt =
    let within : i < length (drop at bytes) = omega (arith, lt, length-drop at bytes) in
    ap number_of (take_more (drop at bytes) i 0 within)
    ∙ fold-append (λ (n byte : ℕ). n * 256 + byte) 0 (take i (drop at bytes)) (slice_index (drop at bytes) i ∷ [])
    ∙ ap (λ (byte : ℕ). number_of (take i (drop at bytes)) * 256 + byte) (get_or-drop at bytes i 0)

-- it fits as many bytes
pub number_fits : (n byte i : ℕ) → n < 256 ^ i → byte < 256 → n * 256 + byte < 256 ^ (i + 1)
number_fits n byte i lt small =
    let p : ℕ = 256 ^ i in
    let next : 256 ^ (i + 1) ≡ 256 ^ i * 256 = ap (λ (k : ℕ). 256 ^ k) (add-one i) ∙ pow-suc 256 i in
    omega (arith, next, lt, small)

pub number_small : (n i : ℕ) → n < 256 ^ i → i < 8 → n * 256 + 255 < 2 ^ 64
number_small n zero lt few = omega arith
number_small n (suc zero) lt few = omega arith
number_small n (suc (suc zero)) lt few = omega arith
number_small n (suc (suc (suc zero))) lt few = omega arith
number_small n (suc (suc (suc (suc zero)))) lt few = omega arith
number_small n (suc (suc (suc (suc (suc zero))))) lt few = omega arith
number_small n (suc (suc (suc (suc (suc (suc zero)))))) lt few = omega arith
number_small n (suc (suc (suc (suc (suc (suc (suc zero))))))) lt few = omega arith
number_small n (suc (suc (suc (suc (suc (suc (suc (suc i)))))))) lt few = absurd (omega arith)
