-- A byte of a number by a shift.
use Rattle.std.proofs.Common.{◌≡◌, ℕ, zero, suc, ◌+◌, ◌*◌, ◌/◌, ◌%◌, ◌^◌, refl, ap, sym, ◌∙◌, arith}
use Rattle.std.proofs.Math.Nat.{pow-suc}
use Rattle.std.proofs.lemmas.Nat.{pow-add}

pub pow256 : (k : ℕ) → 2 ^ (8 * k) ≡ 256 ^ k
pow256 zero = refl
pow256 (suc k) =
    let e : 8 * suc k ≡ 8 * k + 8 = omega arith in
    ap (λ (n : ℕ). 2 ^ n) e ∙ pow-add 2 (8 * k) 8 ∙ ap (λ (p : ℕ). p * 256) (pow256 k) ∙ sym (pow-suc 256 k)

pub shifted : (value k : ℕ) → value / 2 ^ (8 * k) % 256 ≡ value / 256 ^ k % 256
shifted value k = ap (λ (p : ℕ). value / p % 256) (pow256 k)
