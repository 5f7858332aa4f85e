-- Thread and Result at all cores, one after the other, from what the replay of each answers.
use Rattle.std.proofs.Common.{◌≡◌, ◌<◌, ℕ, List, Option, Some, sym, subst, ap, ◌∙◌, ◌+◌, below_more}
use Rattle.std.specs.Prelude.{IfSome, slice_get}
use Rattle.lf_model.specs.Places.{FailsFirst}
use Rattle.lf_model.specs.declared.trace.CoreResult.{CoreResult}

module _ (P : ℕ → CoreResult → Type 0) (results shown : List CoreResult) (same : results ≡ shown) where
  abbrev pub At : ℕ → Type 0
  At c = IfSome (slice_get shown c) (P c)

  looked_up : (c : ℕ) (r : CoreResult) → slice_get results c ≡ Some r → slice_get shown c ≡ Some r
  looked_up c r is = sym (ap (λ (xs : List CoreResult). slice_get xs c) same) ∙ is

  pub holds_at : (c : ℕ) (r : CoreResult) → slice_get results c ≡ Some r → At c → P c r
  holds_at c r is h = subst (λ (x : Option CoreResult). IfSome x (P c)) (looked_up c r is) h

  pub next_some : (c : ℕ) (r : CoreResult) → ((j : ℕ) → j < c → At j) → slice_get results c ≡ Some r → P c r → (j : ℕ) → j < c + 1 → At j
  next_some c r before is h = below_more At c before (subst (λ (x : Option CoreResult). IfSome x (P c)) (sym (looked_up c r is)) h)

  pub fails_at : (cores c : ℕ) (r : CoreResult) → c < cores → ((j : ℕ) → j < c → At j) → slice_get results c ≡ Some r → (P c r → ⊥) → FailsFirst cores At (Some c)
  fails_at cores c r low before is other = (low, (λ h. other (holds_at c r is h)), before)
