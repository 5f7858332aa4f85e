-- What the words and bytes of an aligned access are.
use Rattle.std.proofs.Common.{◌≡◌, ◌⊎◌, ℕ, zero, suc, ◌+◌, ◌*◌, ◌/◌, ◌%◌, ◌<◌, ◌≤◌, [], ◌∷◌, slice_index_or, Contains, sym, arith, inl, inr}
use Rattle.parity_slots.specs.SlotState.{IsAccess}

pub len_cases : (len : ℕ) → Contains (1 ∷ 2 ∷ 4 ∷ 8 ∷ []) len → (len ≡ 1) ⊎ ((len ≡ 2) ⊎ ((len ≡ 4) ⊎ (len ≡ 8)))
len_cases len has = cases has.0 has.1 has.2
  where
    cases : (k : ℕ) → k < 4 → slice_index_or (1 ∷ 2 ∷ 4 ∷ 8 ∷ []) k len ≡ len → (len ≡ 1) ⊎ ((len ≡ 2) ⊎ ((len ≡ 4) ⊎ (len ≡ 8)))
    cases zero lt e = inl (sym e)
    cases (suc zero) lt e = inr (inl (sym e))
    cases (suc (suc zero)) lt e = inr (inr (inl (sym e)))
    cases (suc (suc (suc zero))) lt e = inr (inr (inr (sym e)))
    cases (suc (suc (suc (suc k)))) lt e = absurd (omega arith)

-- where an access lies in its line
pub record Lies (addr len : ℕ) : Type 0 where
  pub some : 1 ≤ len
  pub few : len ≤ 8
  pub bytes_fit : 4 * (addr / 4 % 8) + 4 * ((len + 3) / 4) ≤ 32
  pub begins : 4 * (addr / 4 % 8) ≤ addr % 32
  pub ends : addr % 32 + len ≤ 4 * (addr / 4 % 8) + 4 * ((len + 3) / 4)

pub lies : (addr len : ℕ) → IsAccess addr len → Lies addr len
lies addr len access = elim (len_cases len access.size) [
  | inl one ↦ made (omega (arith, one)) (omega (arith, one)) (omega (arith, one)) (omega arith) (omega (arith, one))
  | inr more ↦ elim more [
    | inl two ↦
        let even : addr % 2 ≡ 0 = rw (← two) access.aligned in
        made (omega (arith, two)) (omega (arith, two)) (omega (arith, two)) (omega arith) (omega (arith, two, even))
    | inr most ↦ elim most [
      | inl four ↦
          let even : addr % 4 ≡ 0 = rw (← four) access.aligned in
          made (omega (arith, four)) (omega (arith, four)) (omega (arith, four)) (omega arith) (omega (arith, four, even))
      | inr eight ↦
          let even : addr % 8 ≡ 0 = rw (← eight) access.aligned in
          made (omega (arith, eight)) (omega (arith, eight)) (omega (arith, eight, even)) (omega arith) (omega (arith, eight, even))
    ]
  ]
]
  where
    made : 1 ≤ len → len ≤ 8 → 4 * (addr / 4 % 8) + 4 * ((len + 3) / 4) ≤ 32 → 4 * (addr / 4 % 8) ≤ addr % 32 → addr % 32 + len ≤ 4 * (addr / 4 % 8) + 4 * ((len + 3) / 4) → Lies addr len
    made some few fits begins ends = record { some = some; few = few; bytes_fit = fits; begins = begins; ends = ends }
