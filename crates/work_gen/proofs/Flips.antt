-- The flips of a script, one after another.
use Rattle.std.proofs.Common.{ℕ, zero, suc, ◌≡◌, ◌+◌, ◌-◌, ◌<◌, ◌≤◌, List, [], ◌∷◌, ◌++◌, append_assoc, append-nil, sym, ap, ◌∙◌, arith}
use Rattle.lf_model.specs.declared.flip.Flip.{Flip}
use Rattle.work_gen.specs.Draws.{next_state, drawn}
use Rattle.work_gen.specs.Drill.{flip_of, flips_from}

-- the rest of a script: its next flip, and the rest behind it
next_flip : (size n i state : ℕ) → i < n
    → flips_from size i (n - i) state ≡ flip_of size i (drawn (next_state state)) ∷ flips_from size (i + 1) (n - (i + 1)) (next_state state)
next_flip size n i state below =
    let left : n - i ≡ suc (n - (i + 1)) = omega (arith, below) in ap (λ count. flips_from size i count state) left

pub flips_more : (size n i state : ℕ) (flips now all : List Flip) → i < n → now ≡ flips ++ flip_of size i (drawn (next_state state)) ∷ []
    → flips ++ flips_from size i (n - i) state ≡ all → now ++ flips_from size (i + 1) (n - (i + 1)) (next_state state) ≡ all
flips_more size n i state flips now all below is whole =
    ap (λ list. list ++ flips_from size (i + 1) (n - (i + 1)) (next_state state)) is
    ∙ append_assoc flips (flip_of size i (drawn (next_state state)) ∷ []) (flips_from size (i + 1) (n - (i + 1)) (next_state state))
    ∙ ap (λ rest. flips ++ rest) (sym (next_flip size n i state below)) ∙ whole

-- behind the last flip
pub flips_end : (size n i state : ℕ) (flips all : List Flip) → n ≤ i → flips ++ flips_from size i (n - i) state ≡ all → flips ≡ all
flips_end size n i state flips all end whole =
    let none : n - i ≡ zero = omega (arith, end) in
    sym (append-nil flips) ∙ ap (λ count. flips ++ flips_from size i count state) (sym none) ∙ whole
