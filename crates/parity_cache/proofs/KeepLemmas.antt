-- What calls keep of a cache, one after the other.
use Rattle.std.proofs.Common.{ℕ, ◌+◌, ◌≤◌, refl, ◌∙◌, arith}
use Rattle.parity_cache.specs.CacheState.{CacheState}
use Rattle.parity_cache.specs.Keeps.{Keeps}

-- two calls
pub keeps_then : (m n k : ℕ) (a b c : CacheState) → m + n ≤ k → Keeps m a b → Keeps n b c → Keeps k a c
keeps_then m n k a b c all first second = record {
  shape = second.shape ∙ first.shape;
  slots = second.slots ∙ first.slots;
  flips = second.flips ∙ first.flips;
  uses_at_most = omega (arith, all, first.uses_at_most, second.uses_at_most);
  tag_errors = λ few. second.tag_errors (first.tag_errors few);
  byte_errors = λ few. second.byte_errors (first.byte_errors few);
}

-- no call
pub keeps_same : (a : CacheState) → Keeps 0 a a
keeps_same a = record { shape = refl; slots = refl; flips = refl; uses_at_most = omega arith; tag_errors = λ few. few; byte_errors = λ few. few }

-- a call that uses fewer slots
pub keeps_more : (m n : ℕ) (a b : CacheState) → m ≤ n → Keeps m a b → Keeps n a b
keeps_more m n a b le keeps = record {
  shape = keeps.shape;
  slots = keeps.slots;
  flips = keeps.flips;
  uses_at_most = omega (arith, le, keeps.uses_at_most);
  tag_errors = keeps.tag_errors;
  byte_errors = keeps.byte_errors;
}
