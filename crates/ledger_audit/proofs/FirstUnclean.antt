-- The first number that passes a test, one number further.
use Rattle.std.proofs.Common.{◌≡◌, ◌+◌, ◌-◌, ◌<◌, ℕ, suc, Bool, false, refl, arith}
use Rattle.std.specs.Prelude.{find}
use Rattle.std.specs.List.{range_with_len}

pub find_next : (p : ℕ → Bool) (a n : ℕ) → a < n → p a ≡ false → find p (range_with_len a (n - a)) ≡ find p (range_with_len (a + 1) (n - (a + 1)))
find_next p a n low fails = let e : n - a ≡ suc (n - (a + 1)) = omega (arith, low) in rw (e, fails) refl
