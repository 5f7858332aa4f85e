-- The byte at an address after some stores and atomics is that of the last one which touches it.
use Rattle.std.proofs.Common.{◌≡◌, ℕ, zero, suc, ◌<◌, ◌≤◌, true, false, List, [], ◌∷◌, length, get_or, take, drop, refl, arith}
use Rattle.std.specs.Prelude.{if◌then◌else◌}
use Rattle.std.specs.List.{AllByRecursion as Each}
use Rattle.lf_model.specs.Operation.{touches, byte_put}
use Rattle.lf_model.specs.Value.{stored}
use Rattle.lf_model.specs.declared.bus.Entry.{Entry}

-- none of them touches the byte at this address
abbrev pub LeaveAlone : ℕ → List Entry → Type 0
LeaveAlone a es = Each (λ e. touches a e ≡ false) es

pub stored_untouched : (a : ℕ) (es : List Entry) (before : ℕ) → LeaveAlone a es → stored a es before ≡ before
stored_untouched a [] before alone = refl
stored_untouched a (e ∷ es) before alone = rw alone.0 (stored_untouched a es before alone.1)

-- one of the first i touches it, and none of those after that one does
pub stored_last : (a : ℕ) (es : List Entry) (i place : ℕ) (last : Entry) (before : ℕ) → place < i → i ≤ length es
    → last ≡ get_or es place last → touches a last ≡ true → LeaveAlone a (drop (suc place) (take i es))
    → stored a (take i es) before ≡ byte_put a last
stored_last a [] i place last before below within is touched alone = absurd (omega arith)
stored_last a (e ∷ es) zero place last before below within is touched alone = absurd (omega arith)
stored_last a (e ∷ es) (suc i) zero last before below within is touched alone =
    rw (← is, touched) (stored_untouched a (take i es) (byte_put a last) alone)
stored_last a (e ∷ es) (suc i) (suc place) last before below within is touched alone =
    stored_last a es i place last (if touches a e then byte_put a e else before) (omega arith) (omega arith) is touched alone
