-- The bits of a word that stand turned, where no flip, one or two stand: computed for all bits and pairs of bits.
use Rattle.std.proofs.Common.{◌≡◌, ◌∙◌, ℕ, ◌<◌, ◌&&◌, not, Bool, true, false, nat_eq, List, [], ◌∷◌, length, map, refl, sym, ap, ap₂, subst}
use Rattle.std.specs.Prelude.{bit_xor}
use Rattle.std.specs.List.{AllByRecursion}
use Rattle.std.proofs.lemmas.Bool.{and_parts, eqb-true}
use Rattle.lf_model.proofs.SameAccount.{bools}
use Rattle.lf_model.proofs.SyndromeLaw.{each_below, at_each}
use Rattle.lf_model.specs.Flips.{Standing, turned}
use Rattle.lf_model.specs.Ledger.Same.{same_bool}
use Rattle.lf_num.specs.Columns.{columns, column, columns_sum}
use Rattle.replay_units.specs.Bits.{bits_of, bit_of, IsPlace}
use Rattle.replay_units.specs.declared.bits.Bits.{Bits}
use Rattle.replay_units.specs.declared.bits.Bits.TheVariants.{Empty, One, Two}

-- a flip that stands, of this bit
abbrev at : ℕ → Standing
at bit = record { number = 0; bit = bit }

abbrev one_right : List ℕ → ℕ → Bool
one_right bits a = nat_eq (length bits) 1 && nat_eq (columns_sum bits) (column a)

abbrev two_right : List ℕ → ℕ → ℕ → Bool
two_right bits a b =
    same_bool (not (nat_eq a b)) (nat_eq (length bits) 2)
    && (same_bool false (nat_eq (length bits) 1) && nat_eq (bit_xor (column a) (column b)) (columns_sum bits))

one_computed : each_below 39 (λ a. one_right (turned 39 (at a ∷ [])) a) ≡ true
unfolding columns column
one_computed = refl

two_computed : each_below 39 (λ a. each_below 39 (λ b. two_right (turned 39 (at b ∷ at a ∷ [])) a b)) ≡ true
unfolding columns column
two_computed = refl

-- ---- no flip stands

no_flip : (flips : List Standing) → map bit_of flips ≡ [] → flips ≡ []
no_flip [] is = refl
no_flip (f ∷ flips) is = cc

pub none_turned : (flips : List Standing) → map bit_of flips ≡ [] → turned 39 flips ≡ []
none_turned flips is = ap (turned 39) (no_flip flips is)

-- ---- one stands

one_flip : (flips : List Standing) (a : ℕ) → map bit_of flips ≡ a ∷ [] → turned 39 flips ≡ turned 39 (at a ∷ [])
one_flip [] a is = cc
one_flip (f ∷ []) a is = let e : f.bit ≡ a = cc in ap (λ (b : ℕ). turned 39 (at b ∷ [])) e
one_flip (f ∷ g ∷ flips) a is = cc

one_is : (flips : List Standing) (a : ℕ) → a < 39 → map bit_of flips ≡ a ∷ [] → one_right (turned 39 flips) a ≡ true
one_is flips a below is = ap (λ (bits : List ℕ). one_right bits a) (one_flip flips a is) ∙ at_each 39 (λ a. one_right (turned 39 (at a ∷ [])) a) one_computed a below

module _ (flips : List Standing) (a : ℕ) (below : a < 39) (is : map bit_of flips ≡ a ∷ []) where
  one_length : length (turned 39 flips) ≡ 1
  one_length = eqb-true _ _ (and_parts _ _ (one_is flips a below is)).0

  pub fixed_one : true ≡ nat_eq (length (turned 39 flips)) 1
  fixed_one = ap (λ (n : ℕ). nat_eq n 1) (sym one_length)

  pub bad_one : false ≡ nat_eq (length (turned 39 flips)) 2
  bad_one = ap (λ (n : ℕ). nat_eq n 2) (sym one_length)

  pub syndrome_one : column a ≡ columns_sum (turned 39 flips)
  syndrome_one = sym (eqb-true _ _ (and_parts _ _ (one_is flips a below is)).1)

-- ---- two stand

two_flips : (flips : List Standing) (a b : ℕ) → map bit_of flips ≡ b ∷ a ∷ [] → turned 39 flips ≡ turned 39 (at b ∷ at a ∷ [])
two_flips [] a b is = cc
two_flips (f ∷ []) a b is = cc
two_flips (f ∷ g ∷ []) a b is = let e : f.bit ≡ b = cc in let d : g.bit ≡ a = cc in ap₂ (λ (x y : ℕ). turned 39 (at x ∷ at y ∷ [])) e d
two_flips (f ∷ g ∷ h ∷ flips) a b is = cc

two_is : (flips : List Standing) (a b : ℕ) → a < 39 → b < 39 → map bit_of flips ≡ b ∷ a ∷ [] → two_right (turned 39 flips) a b ≡ true
two_is flips a b below within is =
    ap (λ (bits : List ℕ). two_right bits a b) (two_flips flips a b is)
    ∙ at_each 39 (λ b. two_right (turned 39 (at b ∷ at a ∷ [])) a b)
    (at_each 39 (λ a. each_below 39 (λ b. two_right (turned 39 (at b ∷ at a ∷ [])) a b)) two_computed a below) b within

module _ (flips : List Standing) (a b : ℕ) (below : a < 39) (within : b < 39) (is : map bit_of flips ≡ b ∷ a ∷ []) where
  pub bad_two : not (nat_eq a b) ≡ nat_eq (length (turned 39 flips)) 2
  bad_two = bools _ _ (and_parts _ _ (two_is flips a b below within is)).0

  pub fixed_two : false ≡ nat_eq (length (turned 39 flips)) 1
  fixed_two = bools _ _ (and_parts _ _ (and_parts _ _ (two_is flips a b below within is)).1).0

  pub syndrome_two : bit_xor (column a) (column b) ≡ columns_sum (turned 39 flips)
  syndrome_two = eqb-true _ _ (and_parts _ _ (and_parts _ _ (two_is flips a b below within is)).1).1

-- ---- by the bits as they are stored

module _ (bits : Bits) (flips : List Standing) (places : AllByRecursion IsPlace (bits_of bits)) (is : map bit_of flips ≡ bits_of bits) where
  pub bad_else : ((older newer : ℕ) → bits ≡ Two older newer → ⊥) → false ≡ nat_eq (length (turned 39 flips)) 2
  bad_else not_two = by bits refl
    where
      by : (b : Bits) → bits ≡ b → false ≡ nat_eq (length (turned 39 flips)) 2
      by Empty e = ap (λ (xs : List ℕ). nat_eq (length xs) 2) (sym (none_turned flips (is ∙ ap bits_of e)))
      by (One a) e = bad_one flips a (subst (λ (b : Bits). AllByRecursion IsPlace (bits_of b)) e places).0 (is ∙ ap bits_of e)
      by (Two a b) e = absurd (not_two a b e)

  pub fixed_else : ((a : ℕ) → bits ≡ One a → ⊥) → false ≡ nat_eq (length (turned 39 flips)) 1
  fixed_else not_one = by bits refl
    where
      by : (b : Bits) → bits ≡ b → false ≡ nat_eq (length (turned 39 flips)) 1
      by Empty e = ap (λ (xs : List ℕ). nat_eq (length xs) 1) (sym (none_turned flips (is ∙ ap bits_of e)))
      by (One a) e = absurd (not_one a e)
      by (Two a b) e =
          let all = subst (λ (b : Bits). AllByRecursion IsPlace (bits_of b)) e places in
          fixed_two flips a b all.1.0 all.0 (is ∙ ap bits_of e)
