-- The rows of a text, taken one after the other, and its first faulty row.
use Rattle.std.proofs.Common.{ℕ, ◌≡◌, ◌+◌, ◌<◌, List, [], ◌∷◌, length, drop, get_or, Option, Some, sym, ap, ◌∙◌, inl, inr, arith, add-one}
use Rattle.std.proofs.Math.Seq.{drop-cons}
use Rattle.std.proofs.lemmas.Bool.{cases_lt, cases_eq}
use Rattle.std.proofs.lemmas.Option.{same_Some}
use Rattle.std.proofs.lemmas.List.{drop_all}
use Rattle.run_texts.specs.declared.error.TextWhy.{TextWhy}
use Rattle.run_texts.specs.Faults.{IsFirst}

-- x is the element at place n, and these elements are left behind it; d serves as the default past the end
pub record IsNext {X : Type 0} (xs : List X) (n : ℕ) (x : X) (left : List X) (d : X) : Type 0 where
  pub within : n < length xs
  pub here : get_or xs n d ≡ x
  pub behind : left ≡ drop (n + 1) xs

pub at_drop : {X : Type 0} (xs : List X) (n : ℕ) (x : X) (left : List X) (d : X) → x ∷ left ≡ drop n xs → IsNext xs n x left d
at_drop xs n x left d behind =
    elim (cases_lt n (length xs)) [
      | inl within ↦
          let parts : x ∷ left ≡ get_or xs n d ∷ drop (n + 1) xs = behind ∙ rw add-one (drop-cons xs n d within) in
          record { within = within; here = cc; behind = cc }
      | inr past ↦ let none : x ∷ left ≡ [] = behind ∙ drop_all n xs past in absurd cc
    ]

-- a text has one first fault
pub one_fault : (fault_at : ℕ → Option TextWhy) (line other : ℕ) (why cause : TextWhy)
    → IsFirst fault_at line why → IsFirst fault_at other cause → (line ≡ other) × (why ≡ cause)
one_fault fault_at line other why cause f g =
    let same : f.place ≡ g.place = same_place fault_at line other why cause f g in
    let fault : Some why ≡ Some cause = sym f.fault ∙ ap fault_at same ∙ g.fault in
    (omega (arith, f.number, g.number), same_Some why cause fault)
  where
    same_place : (fault_at : ℕ → Option TextWhy) (line other : ℕ) (why cause : TextWhy)
        → (f : IsFirst fault_at line why) → (g : IsFirst fault_at other cause) → f.place ≡ g.place
    same_place fault_at line other why cause f g =
        elim (cases_lt f.place g.place) [
          | inl before ↦ let none = g.first f.place before in let some = f.fault in absurd cc
          | inr after ↦ elim (cases_eq g.place f.place) [
            | inl equal ↦ sym equal
            | inr other ↦ let none = f.first g.place (omega arith) in let some = g.fault in absurd cc
          ]
        ]
