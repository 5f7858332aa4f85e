-- The set of an address by a mask.
use Rattle.std.proofs.Common.{◌≡◌, ℕ, ◌-◌, ◌%◌, ◌^◌, true, false, nat_eq, sym, subst, inl, inr}
use Rattle.std.specs.Int.Bits.{bit_and}
use Rattle.std.proofs.lemmas.Bool.{or_cases, eqb-true}
use Rattle.std.proofs.lemmas.Nat.{and_mask}
use Rattle.lf_model.specs.Caches.Cache.{is_number_of_sets}

module _ (n sets : ℕ) where
  power : (k : ℕ) → nat_eq sets (2 ^ k) ≡ true → bit_and n (sets - 1) ≡ n % sets
  power k is = subst (λ (m : ℕ). bit_and n (m - 1) ≡ n % m) (sym (eqb-true sets (2 ^ k) is)) (and_mask n k)

  none : false ≡ true → bit_and n (sets - 1) ≡ n % sets
  none e = cc

  -- each number of sets that a cache may have is a power of two
  pub masked : is_number_of_sets sets ≡ true → bit_and n (sets - 1) ≡ n % sets
  masked is = elim (or_cases (nat_eq sets 8) _ is) [
    | inl e ↦ power 3 e
    | inr is ↦ elim (or_cases (nat_eq sets 16) _ is) [
      | inl e ↦ power 4 e
      | inr is ↦ elim (or_cases (nat_eq sets 32) _ is) [
        | inl e ↦ power 5 e
        | inr is ↦ elim (or_cases (nat_eq sets 64) _ is) [
          | inl e ↦ power 6 e
          | inr is ↦ elim (or_cases (nat_eq sets 128) _ is) [
            | inl e ↦ power 7 e
            | inr is ↦ elim (or_cases (nat_eq sets 256) _ is) [
              | inl e ↦ power 8 e
              | inr e ↦ none e
            ]
          ]
        ]
      ]
    ]
  ]
