-- Bytes of big-endian numbers.
use Rattle.std.proofs.Common.{◌≡◌, ℕ, zero, suc, ◌+◌, ◌-◌, ◌*◌, ◌/◌, ◌%◌, ◌^◌, ◌<◌, refl, ap, sym, subst, ◌∙◌, arith, inl, inr, lit<}
use Rattle.std.proofs.Math.Nat.{pow-suc, pow-succ', div-div-eq-div-mul}
use Rattle.std.proofs.lemmas.Bool.{cases_eq}
use Rattle.std.proofs.lemmas.Nat.{pow-add}
use Rattle.lf_model.specs.Start.{number_at}
use Rattle.lf_model.specs.Operation.{byte_of}

pow256 : (k : ℕ) → 2 ^ (8 * k) ≡ 256 ^ k
pow256 zero = refl
pow256 (suc k) =
    let e : 8 * suc k ≡ 8 * k + 8 = omega arith in
    ap (λ (n : ℕ). 2 ^ n) e ∙ pow-add 2 (8 * k) 8 ∙ ap (λ (p : ℕ). p * 256) (pow256 k) ∙ sym (pow-suc 256 k)

-- one more byte behind a number of n bytes
grown : (n value byte : ℕ) → value < 2 ^ (8 * n) → byte < 256 → value * 256 + byte < 2 ^ (8 * (n + 1))
grown n value byte small low =
    let p : 2 ^ (8 * (n + 1)) ≡ 2 ^ (8 * n) * 256 = ap (λ (m : ℕ). 2 ^ (8 * m)) (omega arith) ∙ pow256 (suc n) ∙ pow-suc 256 n ∙ ap (λ (q : ℕ). q * 256) (sym (pow256 n)) in
    omega (arith, p)

-- byte i of a number read byte by byte is the byte at place i
pub byte_of_number : (f : ℕ → ℕ) (a len : ℕ) → ((j : ℕ) → j < len → f (a + j) < 256) → (i : ℕ) → i < len → byte_of (number_at f a len) len i ≡ f (a + i)
unfolding number_at
byte_of_number f a zero small i within = absurd (omega arith)
byte_of_number f a (suc n) small i within = elim (cases_eq i n) [
  | inl last ↦
      let e : suc n - 1 - i ≡ 0 = omega arith in
      let v : number_at f a n * 256 + f (a + n) ≡ number_at f a (suc n) = refl in
      let b : f (a + n) < 256 = small n (omega arith) in
      let here : (number_at f a n * 256 + f (a + n)) / 1 % 256 ≡ f (a + n) = omega arith in
      ap (λ (k : ℕ). (number_at f a n * 256 + f (a + n)) / 256 ^ k % 256) e ∙ here ∙ ap (λ (k : ℕ). f (a + k)) (sym last)
  | inr earlier ↦
      let before : i < n = omega arith in
      let e : suc n - 1 - i ≡ suc (n - 1 - i) = omega arith in
      let b : f (a + n) < 256 = small n (omega arith) in
      let cut : (number_at f a n * 256 + f (a + n)) / 256 ≡ number_at f a n = omega arith in
      ap (λ (k : ℕ). (number_at f a n * 256 + f (a + n)) / 256 ^ k % 256) e
      ∙ ap (λ (p : ℕ). (number_at f a n * 256 + f (a + n)) / p % 256) (pow-succ' 256 (n - 1 - i))
      ∙ ap (λ (m : ℕ). m % 256) (sym (div-div-eq-div-mul (number_at f a n * 256 + f (a + n)) 256 (256 ^ (n - 1 - i))))
      ∙ ap (λ (m : ℕ). m / 256 ^ (n - 1 - i) % 256) cut
      ∙ byte_of_number f a n (λ j lt. small j (omega arith)) i before
]

-- the number of the bytes of a word is that word again
pub number_of_word : (f : ℕ → ℕ) (a value : ℕ) → value < 2 ^ 32 → ((i : ℕ) → i < 4 → f (a + i) ≡ byte_of value 4 i) → number_at f a 4 ≡ value
unfolding number_at
number_of_word f a value small bytes = rw (bytes 0 (lit< tt), bytes 1 (lit< tt), bytes 2 (lit< tt), bytes 3 (lit< tt)) (omega arith)

-- a number of so many bytes
pub number_small : (f : ℕ → ℕ) (a len : ℕ) → ((j : ℕ) → j < len → f (a + j) < 256) → number_at f a len < 2 ^ (8 * len)
unfolding number_at
number_small f a zero small = omega arith
number_small f a (suc n) small = subst (λ (m : ℕ). number_at f a n * 256 + f (a + n) < 2 ^ (8 * m)) (omega arith) (grown n (number_at f a n) (f (a + n)) (number_small f a n (λ j lt. small j (omega arith))) (small n (omega arith)))
