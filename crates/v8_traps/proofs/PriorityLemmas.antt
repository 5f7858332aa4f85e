-- The first trap of a list, as the split of the list at it.
use Rattle.std.proofs.Common.{◌≡◌, ℕ, ◌↔◌, List, [], ◌∷◌, Option, Some, None, IsNone, IfSome, refl, ap, sym}
use Rattle.std.specs.List.{All}
use Rattle.std.proofs.lemmas.List.Elements.{All-nil, All-cons, All-head, All-tail}
use Rattle.lf_model.specs.Traps.{first_trap}
use Rattle.v8_traps.specs.Priority.{IsFirst}

-- the trap that is found has none before it
pub first_trap-some : (traps : List (Option ℕ)) (trap_type : ℕ) → first_trap traps ≡ Some trap_type → IsFirst traps trap_type
first_trap-some [] trap_type e = absurd (cc)
first_trap-some (None ∷ traps) trap_type e =
    let found : IsFirst traps trap_type = first_trap-some traps trap_type e in
    (None ∷ found.0, found.1, ap (λ (l : List (Option ℕ)). None ∷ l) found.2, All-cons IsNone None found.0 refl found.3)
first_trap-some (Some x ∷ traps) trap_type e =
    ([], traps, ap (λ (t : Option ℕ). t ∷ traps) e, All-nil IsNone)

-- where none is found there is none
pub first_trap-none : (traps : List (Option ℕ)) → first_trap traps ≡ None → All IsNone traps
first_trap-none [] e = All-nil IsNone
first_trap-none (None ∷ traps) e = All-cons IsNone None traps refl (first_trap-none traps e)
first_trap-none (Some x ∷ traps) e = absurd (cc)

-- where there is none, none is found
pub first_trap-all_none : (traps : List (Option ℕ)) → All IsNone traps → first_trap traps ≡ None
first_trap-all_none [] all = refl
first_trap-all_none (None ∷ traps) all = first_trap-all_none traps (All-tail IsNone None traps all)
first_trap-all_none (Some x ∷ traps) all = let head : IsNone (Some x) = All-head IsNone (Some x) traps all in absurd (cc)

-- an answer that is the first trap, told by the split
pub is_first : (traps : List (Option ℕ)) (answer : Option ℕ) → answer ≡ first_trap traps → IfSome answer (IsFirst traps)
is_first traps None e = tt
is_first traps (Some x) e = first_trap-some traps x (sym e)

-- an answer that is the first trap is None exactly where there is none
pub is_none_iff : (traps : List (Option ℕ)) (answer : Option ℕ) → answer ≡ first_trap traps → IsNone answer ↔ All IsNone traps
is_none_iff traps None e = ((λ _. first_trap-none traps (sym e)), (λ _. refl))
is_none_iff traps (Some x) e =
    ((λ h. absurd (cc)), (λ all. let none : first_trap traps ≡ None = first_trap-all_none traps all in absurd (cc)))
