-- Facts about numerals, which compute, and facts about all numbers below one.
use Rattle.std.proofs.Common.{ℕ, zero, suc, ◌≡◌, ◌≤◌, ◌<◌, ◌&&◌, ◌⊎◌, inl, inr, nat_le, nat_lt, Bool, true, false, subst, sym, arith}
use Rattle.std.specs.Prelude.{◌==◌}
use Rattle.std.proofs.lemmas.Bool.{leb-true, ltb-true, eqb-false, and_parts, cases_eq}

-- different numerals
pub apart : (a b : ℕ) → (a == b) ≡ false → a ≡ b → ⊥
apart a b = eqb-false a b

pub le : (a b : ℕ) → nat_le a b ≡ true → a ≤ b
le a b = leb-true a b

pub lt : (a b : ℕ) → nat_lt a b ≡ true → a < b
lt a b = ltb-true a b

-- a test passes at each number below this one
abbrev pub passes_below : (ℕ → Bool) → ℕ → Bool
passes_below test zero = true
passes_below test (suc n) = test n && passes_below test n

passes_last : (test : ℕ → Bool) (n i : ℕ) → test n ≡ true → ((i < n) → test i ≡ true) → i < suc n → (i ≡ n) ⊎ (i ≡ n → ⊥) → test i ≡ true
passes_last test n i last before within (inl e) = subst (λ j. test j ≡ true) (sym e) last
passes_last test n i last before within (inr other) = before (omega (arith, within, other))

pub passes_at : (test : ℕ → Bool) (n : ℕ) → passes_below test n ≡ true → (i : ℕ) → i < n → test i ≡ true
passes_at test zero passes i within = absurd (omega (arith, within))
passes_at test (suc n) passes i within = let parts = and_parts (test n) (passes_below test n) passes in
    passes_last test n i parts.0 (passes_at test n parts.1 i) within (cases_eq i n)
