-- The steps of MULScc multiply: halving the value and Y, as one number with its sign, and adding b to the value
-- where the bit that leaves Y is 1, comes after 32 steps to twice the product, which the last step halves.
use Rattle.std.proofs.Common.{◌≡◌, ℕ, zero, suc, ◌+◌, ◌-◌, ◌*◌, ◌/◌, ◌%◌, ◌^◌, ◌<◌, refl, sym, ap, ◌∙◌, arith, inl, inr, add-one, mul_comm, add_comm}
use Rattle.std.specs.Prelude.{◌⊎◌, pos, negsuc, neg_ℤ, Bool, false}
use Rattle.std.specs.Int.{bit_at, cast_signed, cast_unsigned, from_bool, w32, w64}
use Rattle.std.proofs.lemmas.Int.{ints}
use Rattle.std.proofs.lemmas.Bool.{cases_lt}
use Rattle.std.proofs.lemmas.Bool.Decides.{nat_tests}
use Rattle.std.proofs.lemmas.Nat.{mod-pow-add, shr-shr, pow-add}
use Rattle.std.proofs.Math.Nat.{pow-suc, mul_assoc, add-mul, mul-add}
use Rattle.lf_num.specs.Arithmetic.{sign_of, icc_of, word_sum, sum_icc, sum_overflows, sum_carries, step_augend, step_addend, Steps, stepped, stepped_times, product, mixed_product, StepsMultiply}

-- the sign of the number that a step has made, of 33 bits
sign_made : ℕ → ℕ
sign_made icc = (bit_at icc 3 + bit_at icc 1) % 2

-- V is bit 1 of icc, N is bit 3 and the sign of the result
overflow_bit : (value : ℕ) (v c : Bool) → bit_at (icc_of value v c) 1 ≡ from_bool v
overflow_bit value v c = grind (arith, nat_tests)

negative_bit : (value : ℕ) (v c : Bool) → bit_at (icc_of value v c) 3 ≡ sign_of value
negative_bit value v c = grind (arith, nat_tests)

-- the sum of two signed words has 33 bits, the upper one of which is N xor V
sum_with_sign : (p q : ℕ) → p < 2 ^ 32 → q < 2 ^ 32 → word_sum p q 0 + 2 ^ 32 * (sign_of p + sign_of q) ≡ p + q + 2 ^ 32 * ((sign_of (word_sum p q 0) + from_bool (sum_overflows p q 0)) % 2)
sum_with_sign p q word_p word_q = grind (arith, nat_tests)

-- the sign that a sum's codes show
made_by_sum : (p q : ℕ) → sign_made (sum_icc p q 0) ≡ (sign_of (word_sum p q 0) + from_bool (sum_overflows p q 0)) % 2
unfolding sign_made
made_by_sum p q =
    rw (negative_bit (word_sum p q 0) (sum_overflows p q 0) (sum_carries p q 0), overflow_bit (word_sum p q 0) (sum_overflows p q 0) (sum_carries p q 0)) refl

-- the first operand of a step has the sign made, over the upper bits of the value
augend_is : (a icc : ℕ) → a < 2 ^ 32 → step_augend a icc ≡ sign_made icc * 2 ^ 31 + a / 2
unfolding sign_made
augend_is a icc word = refl

-- a step that adds nothing, and one that adds b, whose sign is g
step_even : (a y n t A B r n' : ℕ) → a * 2 ^ 32 + y + A * 2 * 2 ^ 32 ≡ t + B * 2 + n * 2 ^ 64 → y % 2 ≡ 0
    → r + 2 ^ 32 * n ≡ n * 2 ^ 31 + a / 2 + 2 ^ 32 * n' → r * 2 ^ 32 + (a % 2 * 2 ^ 31 + y / 2) + A * 2 ^ 32 ≡ t / 2 + B + n' * 2 ^ 64
step_even a y n t A B r n' before even sum = omega arith

step_odd : (a y n t A B r n' b g : ℕ) → a * 2 ^ 32 + y + A * 2 * 2 ^ 32 ≡ t + B * 2 + n * 2 ^ 64 → y % 2 ≡ 1
    → r + 2 ^ 32 * (n + g) ≡ n * 2 ^ 31 + a / 2 + b + 2 ^ 32 * n'
    → r * 2 ^ 32 + (a % 2 * 2 ^ 31 + y / 2) + (A + g * 2 ^ 32) * 2 ^ 32 ≡ t / 2 + (B + b * 2 ^ 32) + n' * 2 ^ 64
step_odd a y n t A B r n' b g before odd sum = omega arith

-- the bit of Y that a step reads
read_bit : (a y n t A B : ℕ) → a * 2 ^ 32 + y + A * 2 * 2 ^ 32 ≡ t + B * 2 + n * 2 ^ 64 → y % 2 ≡ t % 2
read_bit a y n t A B before = omega arith

doubled : (m g h : ℕ) → m * g * (h * 2) ≡ m * g * h * 2
doubled m g h = omega arith

one_more : (m u g h : ℕ) → u * h ≡ 2 ^ 32 → (m + u) * g * h ≡ m * g * h + g * 2 ^ 32
one_more m u g h whole =
    let split : (m + u) * g * h ≡ m * g * h + u * g * h = ap (λ (x : ℕ). x * h) (add-mul m u g) ∙ add-mul (m * g) (u * g) h in
    let turned : u * g * h ≡ u * h * g = mul_assoc u g h ∙ ap (λ (x : ℕ). u * x) (mul_comm g h) ∙ sym (mul_assoc u h g) in
    let full : u * h * g ≡ 2 ^ 32 * g = ap (λ (x : ℕ). x * g) whole in
    omega arith

-- the part of Y that was read grows by the bit read, and the rest loses it
read_more : (first k : ℕ) → first % 2 ^ suc k ≡ first % 2 ^ k + first / 2 ^ k % 2 * 2 ^ k
read_more first k =
    let more : first % 2 ^ (1 + k) ≡ first / 2 ^ k % 2 ^ 1 * 2 ^ k + first % 2 ^ k = mod-pow-add first 1 k in
    ap (λ (x : ℕ). first % 2 ^ x) (omega arith) ∙ more ∙ add_comm (first / 2 ^ k % 2 * 2 ^ k) (first % 2 ^ k)

rest_less : (first k : ℕ) → first / 2 ^ suc k ≡ first / 2 ^ k / 2
rest_less first k = ap (λ (x : ℕ). first / 2 ^ x) (sym (add-one k)) ∙ sym (shr-shr first k 1)

-- After k steps with b the value and Y, as one number with its sign, are the rest of Y and the product of its read
-- part and b: the step to come halves it, so that part counts 2 ^ d times, with d = 33 - k.
record IsPart (first b k d : ℕ) (s : Steps) : Type 0 where
  value : s.value < 2 ^ 32
  low : s.y < 2 ^ 32
  sum : s.value * 2 ^ 32 + s.y + first % 2 ^ k * sign_of b * 2 ^ d * 2 ^ 32 ≡ first / 2 ^ k + first % 2 ^ k * b * 2 ^ d + sign_made s.icc * 2 ^ 64

sign_made-lt : (icc : ℕ) → sign_made icc < 2
unfolding sign_made
sign_made-lt icc = omega arith

next_even : (first' t' m t g b h a y n r n' : ℕ) → first' ≡ m → t' ≡ t / 2 → a * 2 ^ 32 + y + m * g * h * 2 * 2 ^ 32 ≡ t + m * b * h * 2 + n * 2 ^ 64
    → y % 2 ≡ 0 → r + 2 ^ 32 * n ≡ n * 2 ^ 31 + a / 2 + 2 ^ 32 * n'
    → r * 2 ^ 32 + (a % 2 * 2 ^ 31 + y / 2) + first' * g * h * 2 ^ 32 ≡ t' + first' * b * h + n' * 2 ^ 64
next_even first' t' m t g b h a y n r n' same half before even sum = rw same (rw half (step_even a y n t (m * g * h) (m * b * h) r n' before even sum))

next_odd : (first' t' m u t g b h a y n r n' : ℕ) → u * h ≡ 2 ^ 32 → first' ≡ m + u → t' ≡ t / 2 → a * 2 ^ 32 + y + m * g * h * 2 * 2 ^ 32 ≡ t + m * b * h * 2 + n * 2 ^ 64
    → y % 2 ≡ 1 → r + 2 ^ 32 * (n + g) ≡ n * 2 ^ 31 + a / 2 + b + 2 ^ 32 * n'
    → r * 2 ^ 32 + (a % 2 * 2 ^ 31 + y / 2) + first' * g * h * 2 ^ 32 ≡ t' + first' * b * h + n' * 2 ^ 64
next_odd first' t' m u t g b h a y n r n' whole more half before odd sum =
    rw more (rw half (rw (one_more m u g h whole, one_more m u b h whole) (step_odd a y n t (m * g * h) (m * b * h) r n' b g before odd sum)))

addend_even : (b y : ℕ) → y % 2 ≡ 0 → step_addend b y ≡ 0
addend_even b y even = grind (arith, nat_tests)

addend_odd : (b y : ℕ) → y % 2 ≡ 1 → step_addend b y ≡ b
addend_odd b y odd = grind (arith, nat_tests)

-- the sum of a step, with the sign n' that its codes show
sum_of_step : (a icc q : ℕ) → a < 2 ^ 32 → q < 2 ^ 32
    → word_sum (step_augend a icc) q 0 + 2 ^ 32 * (sign_made icc + sign_of q) ≡ sign_made icc * 2 ^ 31 + a / 2 + q + 2 ^ 32 * sign_made (sum_icc (step_augend a icc) q 0)
sum_of_step a icc q word_a word_q =
    rw made_by_sum (of_sign (sign_made icc) (step_augend a icc) (sign_made-lt icc) (augend_is a icc word_a))
  where
    with_sign : (n s p q r x g base : ℕ) → s ≡ n → p ≡ base → r + 2 ^ 32 * (s + g) ≡ p + q + 2 ^ 32 * x → r + 2 ^ 32 * (n + g) ≡ base + q + 2 ^ 32 * x
    with_sign n s p q r x g base sign is sum = omega arith

    of_sign : (n p : ℕ) → n < 2 → p ≡ n * 2 ^ 31 + a / 2
        → word_sum p q 0 + 2 ^ 32 * (n + sign_of q) ≡ n * 2 ^ 31 + a / 2 + q + 2 ^ 32 * ((sign_of (word_sum p q 0) + from_bool (sum_overflows p q 0)) % 2)
    of_sign n p digit is =
        let sign : sign_of p ≡ n = omega arith in
        with_sign n (sign_of p) p q (word_sum p q 0) _ (sign_of q) (n * 2 ^ 31 + a / 2) sign is (sum_with_sign p q (omega arith) word_q)

-- one more step
part_stepped : (first b k d : ℕ) (s : Steps) → b < 2 ^ 32 → k + d ≡ 32 → IsPart first b k (suc d) s → IsPart first b (suc k) d (stepped b s)
part_stepped first b k d s word_b total part =
    let n : ℕ = sign_made s.icc in
    let m : ℕ = first % 2 ^ k in
    let half : 2 ^ suc d ≡ 2 ^ d * 2 = pow-suc 2 d in
    let whole : 2 ^ k * 2 ^ d ≡ 2 ^ 32 = sym (pow-add 2 k d) ∙ ap (λ (x : ℕ). 2 ^ x) total in
    let before = halved (first % 2 ^ k) (sign_of b) b (2 ^ d) (2 ^ suc d) (first / 2 ^ k) s.value s.y (sign_made s.icc) half part.sum in
    let bit = read_bit s.value s.y (sign_made s.icc) (first / 2 ^ k) (first % 2 ^ k * sign_of b * 2 ^ d) (first % 2 ^ k * b * 2 ^ d) before in
    record {
      value = omega arith;
      low = low_word_of s.value s.y part.low;
      sum = elim (cases_digit (s.y % 2) (omega arith)) [
        | inl even ↦
            let sum = sum_of_step s.value s.icc 0 part.value (omega arith) in
            rw (addend_even b s.y even)
            (next_even (first % 2 ^ suc k) (first / 2 ^ suc k) (first % 2 ^ k) (first / 2 ^ k) (sign_of b) b (2 ^ d) s.value s.y (sign_made s.icc) _ _
            (read_zero first k (sym bit ∙ even)) (rest_less first k) before even (plain_sum _ _ _ _ sum))
        | inr odd ↦
            rw (addend_odd b s.y odd)
            (next_odd (first % 2 ^ suc k) (first / 2 ^ suc k) (first % 2 ^ k) (2 ^ k) (first / 2 ^ k) (sign_of b) b (2 ^ d) s.value s.y (sign_made s.icc) _ _
            whole (read_one first k (sym bit ∙ odd)) (rest_less first k) before odd (sum_of_step s.value s.icc b part.value word_b))
      ];
    }
  where
    halved : (m g b h h' t a y n : ℕ) → h' ≡ h * 2 → a * 2 ^ 32 + y + m * g * h' * 2 ^ 32 ≡ t + m * b * h' + n * 2 ^ 64 → a * 2 ^ 32 + y + m * g * h * 2 * 2 ^ 32 ≡ t + m * b * h * 2 + n * 2 ^ 64
    halved m g b h h' t a y n half sum = rw (sym (doubled m g h), sym (doubled m b h), sym half) sum

    low_word_of : (a y : ℕ) → y < 2 ^ 32 → a % 2 * 2 ^ 31 + y / 2 < 2 ^ 32
    low_word_of a y low = omega arith

    cases_digit : (n : ℕ) → n < 2 → (n ≡ 0) ⊎ (n ≡ 1)
    cases_digit zero lt = inl refl
    cases_digit (suc zero) lt = inr refl
    cases_digit (suc (suc n)) lt = absurd (omega arith)

    read_zero : (first k : ℕ) → first / 2 ^ k % 2 ≡ 0 → first % 2 ^ suc k ≡ first % 2 ^ k
    read_zero first k bit = read_more first k ∙ ap (λ (x : ℕ). first % 2 ^ k + x * 2 ^ k) bit ∙ omega arith

    read_one : (first k : ℕ) → first / 2 ^ k % 2 ≡ 1 → first % 2 ^ suc k ≡ first % 2 ^ k + 2 ^ k
    read_one first k bit = read_more first k ∙ ap (λ (x : ℕ). first % 2 ^ k + x * 2 ^ k) bit ∙ omega arith

    plain_sum : (r n base x : ℕ) → r + 2 ^ 32 * (n + sign_of 0) ≡ base + 0 + 2 ^ 32 * x → r + 2 ^ 32 * n ≡ base + 2 ^ 32 * x
    plain_sum r n base x sum = omega arith

part_after : (first b icc k d : ℕ) → first < 2 ^ 32 → b < 2 ^ 32 → sign_made icc ≡ 0 → k + d ≡ 33 → IsPart first b k d (stepped_times k b (record { value = 0; icc = icc; y = first }))
unfolding stepped_times
part_after first b icc zero d word_first word_b plain total = record {
  value = omega arith;
  low = word_first;
  sum = start first (sign_of b) b (2 ^ d) (first % 2 ^ 0) (first / 2 ^ 0) (sign_made icc) plain (omega arith) (omega arith);
}
  where
    start : (y g b h m t n : ℕ) → n ≡ 0 → m ≡ 0 → t ≡ y → 0 * 2 ^ 32 + y + m * g * h * 2 ^ 32 ≡ t + m * b * h + n * 2 ^ 64
    start y g b h m t n plain none all = rw none (omega arith)
part_after first b icc (suc k) d word_first word_b plain total =
    part_stepped first b k d _ word_b (omega arith) (part_after first b icc k (suc d) word_first word_b plain (omega arith))

-- the last step, with 0, halves once more
part_last : (first b : ℕ) (s : Steps) → first < 2 ^ 32 → IsPart first b 32 1 s
    → (stepped 0 s).value * 2 ^ 32 + (stepped 0 s).y + first * sign_of b * 2 ^ 32 ≡ first * b + sign_made s.icc * 2 ^ 64
part_last first b s word_first part =
    let sum = sum_of_step s.value s.icc 0 part.value (omega arith) in
    let read : first % 2 ^ 32 ≡ first = omega arith in
    let rest : first / 2 ^ 32 ≡ 0 = omega arith in
    rw (addend_zero s.y)
    (last s.value s.y (sign_made s.icc) _ first (first % 2 ^ 32) (first / 2 ^ 32) (sign_of b) b read rest part.sum (whole s.value (sign_made s.icc) s.icc part.value refl))
  where
    addend_zero : (y : ℕ) → step_addend 0 y ≡ 0
    addend_zero y = grind (arith, nat_tests)

    whole : (a n icc : ℕ) → a < 2 ^ 32 → sign_made icc ≡ n → word_sum (step_augend a icc) 0 0 ≡ n * 2 ^ 31 + a / 2
    whole a n icc word_a is =
        let digit : sign_made icc < 2 = sign_made-lt icc in
        let augend : step_augend a icc ≡ sign_made icc * 2 ^ 31 + a / 2 = augend_is a icc word_a in
        rw augend (omega arith)

    last : (a y n r first read rest g b : ℕ) → read ≡ first → rest ≡ 0 → a * 2 ^ 32 + y + read * g * 2 ^ 1 * 2 ^ 32 ≡ rest + read * b * 2 ^ 1 + n * 2 ^ 64
        → r ≡ n * 2 ^ 31 + a / 2 → r * 2 ^ 32 + (a % 2 * 2 ^ 31 + y / 2) + first * g * 2 ^ 32 ≡ first * b + n * 2 ^ 64
    last a y n r first read rest g b is none sum augend = rw (sym is) (omega arith)

-- the two's complement number of a product whose second operand has the sign g
mixed : (y b p n : ℕ) → b < 2 ^ 32 → p < 2 ^ 64 → n < 2 → p + y * sign_of b * 2 ^ 32 ≡ y * b + n * 2 ^ 64 → p ≡ mixed_product y b
mixed y b p n word_b fits digit sum =
    elim (cases_lt b (2 ^ 31)) [
      | inl low ↦
          let sign : sign_of b ≡ 0 = omega arith in
          let same : cast_signed w32 b ≡ pos b = omega (arith, ints) in
          rw same (positive y b (sign_of b) sign sum)
      | inr high ↦
          let sign : sign_of b ≡ 1 = omega arith in
          let same : cast_signed w32 b ≡ negsuc (2 ^ 32 - suc b) = grind (arith, nat_tests) in
          let total : suc (2 ^ 32 - suc b) + b ≡ 2 ^ 32 = omega arith in
          rw same (negative (y * suc (2 ^ 32 - suc b)) (part y (suc (2 ^ 32 - suc b)) (sign_of b) sign total sum))
    ]
  where
    positive : (y b g : ℕ) → g ≡ 0 → p + y * g * 2 ^ 32 ≡ y * b + n * 2 ^ 64 → p ≡ y * b
    positive y b g sign sum = let none : y * g ≡ 0 = ap (λ (x : ℕ). y * x) sign ∙ omega arith in omega arith

    part : (y c g : ℕ) → g ≡ 1 → c + b ≡ 2 ^ 32 → p + y * g * 2 ^ 32 ≡ y * b + n * 2 ^ 64 → p + y * c ≡ n * 2 ^ 64
    part y c g sign total sum =
        let one : y * g ≡ y = ap (λ (x : ℕ). y * x) sign ∙ omega arith in
        let whole : y * c + y * b ≡ y * 2 ^ 32 = sym (mul-add y c b) ∙ ap (λ (x : ℕ). y * x) total in
        omega arith

    negative : (e : ℕ) → p + e ≡ n * 2 ^ 64 → p ≡ cast_unsigned w64 (neg_ℤ (pos e))
    negative zero sum = omega arith
    negative (suc e) sum = omega arith

sign_none : (icc : ℕ) → bit_at icc 3 ≡ 0 → bit_at icc 1 ≡ 0 → sign_made icc ≡ 0
unfolding sign_made
sign_none icc negative overflow = omega arith

-- the law of MULScc
pub steps-multiply : (y b : ℕ) → y < 2 ^ 32 → b < 2 ^ 32 → StepsMultiply y b
steps-multiply y b word_y word_b icc negative overflow =
    let part = part_after y b icc 32 1 word_y word_b (sign_none icc negative overflow) (omega arith) in
    let sum = part_last y b _ word_y part in
    mixed y b _ _ word_b (omega (arith, low_of _ part)) (sign_made-lt _) sum
  where
    low_of : (s : Steps) → IsPart y b 32 1 s → (stepped 0 s).y < 2 ^ 32
    low_of s part = let low : s.y < 2 ^ 32 = part.low in omega arith

-- below 2 ^ 31 the product is UMUL's
pub mixed_product-unsigned : (y b : ℕ) → b < 2 ^ 31 → mixed_product y b ≡ product false y b
mixed_product-unsigned y b low =
    let same : cast_signed w32 b ≡ pos b = omega (arith, ints) in
    rw same refl
