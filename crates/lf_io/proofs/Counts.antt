-- That a count rose, in two cases.
use Rattle.std.proofs.Common.{ℕ, ◌<◌, ◌≤◌, ◌⊎◌, arith, inl, inr}
use Rattle.std.proofs.lemmas.Bool.{cases_lt}
use Rattle.lf_io.specs.Count.{Rose, last_count}

pub Rose-cases : (before after : ℕ) → Rose before after → (before < after) ⊎ (last_count ≤ after)
Rose-cases before after rose = elim (cases_lt before after) [ inl larger ↦ inl larger | inr not_larger ↦ inr (omega arith) ]

pub Rose-larger : (before after : ℕ) → before < after → Rose before after
Rose-larger before after larger = omega arith

pub Rose-last : (before after : ℕ) → last_count ≤ after → Rose before after
Rose-last before after last = omega arith
