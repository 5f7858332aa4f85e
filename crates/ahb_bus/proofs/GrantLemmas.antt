-- The masters after the last one, tried one after the other.
use Rattle.std.proofs.Common.{◌≡◌, ℕ, suc, ◌+◌, ◌-◌, ◌<◌, Bool, true, false, cond, map, Some, None, refl, ap, ◌∙◌, arith}
use Rattle.std.specs.Prelude.{find}
use Rattle.std.specs.List.{range_with_len}
use Rattle.ahb_bus.specs.Grant.{master_after, asks_for, granted_from}

next : (asking last n : ℕ) → n < 10 → granted_from asking last n ≡ cond (asks_for asking (master_after last n)) (Some (master_after last n)) (granted_from asking last (n + 1))
unfolding granted_from
next asking last n within =
    let left : 10 - n ≡ suc (10 - (n + 1)) = omega arith in
    ap (λ (k : ℕ). find (asks_for asking) (map (master_after last) (range_with_len n k))) left

-- the next one asks, or does not
pub granted_here : (asking last n : ℕ) → n < 10 → asks_for asking (master_after last n) ≡ true → granted_from asking last n ≡ Some (master_after last n)
granted_here asking last n within is =
    next asking last n within ∙ ap (λ (b : Bool). cond b (Some (master_after last n)) (granted_from asking last (n + 1))) is

pub granted_later : (asking last n : ℕ) → n < 10 → asks_for asking (master_after last n) ≡ false → granted_from asking last n ≡ granted_from asking last (n + 1)
granted_later asking last n within is =
    next asking last n within ∙ ap (λ (b : Bool). cond b (Some (master_after last n)) (granted_from asking last (n + 1))) is

-- none is left
pub granted_none : (asking last : ℕ) → granted_from asking last 10 ≡ None
unfolding granted_from
granted_none asking last = refl
