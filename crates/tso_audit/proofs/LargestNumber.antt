-- The largest number of the operations that pass a test, as a table of each core keeps it.
use Rattle.std.proofs.Common.{◌≡◌, ◌∙◌, ◌<◌, ◌≤◌, ◌≢◌, ◌+◌, ◌++◌, ℕ, Bool, true, false, List, [], ◌∷◌, length, get_or, set, take, max, ap, sym, inl, inr, arith}
use Rattle.std.specs.Prelude.{if◌then◌else◌}
use Rattle.std.proofs.lemmas.Bool.{cases_Bool, cases_eq}
use Rattle.std.proofs.lemmas.List.{take_more, get_or-set_same, get_or-set_other}
use Rattle.std.specs.List.{AllByRecursion as Each}
use Rattle.lf_model.specs.declared.trace.Op.{Op}

-- one more than the number of an operation that passes a test, else 0
abbrev pub number_if : (Op → Bool) → Op → ℕ
number_if t o = if t o then o.k + 1 else 0

-- one more than the largest number of those that pass, or 0
abbrev pub next_number : (Op → Bool) → List Op → ℕ
next_number t [] = 0
next_number t (o ∷ os) = max (number_if t o) (next_number t os)

next_last : (t : Op → Bool) (os : List Op) (o : Op) → next_number t (os ++ o ∷ []) ≡ max (next_number t os) (number_if t o)
next_last t [] o = omega arith
next_last t (p ∷ os) o = let e : next_number t (os ++ o ∷ []) ≡ max (next_number t os) (number_if t o) = next_last t os o in omega (arith, e)

next_more : (t : Op → Bool) (os : List Op) (i : ℕ) (d : Op) → i < length os
    → next_number t (take (i + 1) os) ≡ max (next_number t (take i os)) (number_if t (get_or os i d))
next_more t os i d h = ap (next_number t) (take_more os i d h) ∙ next_last t (take i os) (get_or os i d)

pub small_each : (t : Op → Bool) (os : List Op) (n : ℕ) → next_number t os ≤ n + 1 → Each (λ o. t o ≡ true → o.k ≤ n) os
small_each t [] n h = tt
small_each t (o ∷ os) n h = ((λ passes. small passes), small_each t os n (omega (arith, h)))
  where
    small : t o ≡ true → o.k ≤ n
    small passes = let e : number_if t o ≡ o.k + 1 = rw passes in omega (arith, h, e)

pub each_small : (t : Op → Bool) (os : List Op) (n : ℕ) → Each (λ o. t o ≡ true → o.k ≤ n) os → next_number t os ≤ n + 1
each_small t [] n h = omega arith
each_small t (o ∷ os) n h = elim (cases_Bool (t o)) [
  | inl passes ↦ let e : number_if t o ≡ o.k + 1 = rw passes in omega (arith, e, h.0 passes, each_small t os n h.1)
  | inr fails ↦ let e : number_if t o ≡ 0 = rw fails in omega (arith, e, each_small t os n h.1)
]

-- ---- the table of the cores

-- it keeps this of each of 8 cores
abbrev pub Keeps : (ℕ → Op → Bool) → List ℕ → List Op → Type 0
Keeps t next os = (c : ℕ) → c < 8 → get_or next c 0 ≡ next_number (t c) os

-- no operation passes the test of a core that is not its own
abbrev pub IsOwn : (ℕ → Op → Bool) → Type 0
IsOwn t = (c : ℕ) (o : Op) → c ≢ o.core → t c o ≡ false

pub keeps_more : (t : ℕ → Op → Bool) → IsOwn t → (next : List ℕ) (os : List Op) (i : ℕ) (d : Op) (v : ℕ) → i < length os → (get_or os i d).core < length next
    → Keeps t next (take i os) → v ≡ max (get_or next (get_or os i d).core 0) (number_if (t (get_or os i d).core) (get_or os i d))
    → Keeps t (set next (get_or os i d).core v) (take (i + 1) os)
keeps_more t own next os i d v within room keeps is c low = elim (cases_eq c (get_or os i d).core) [
  | inl same ↦ rw same (get_or-set_same next (get_or os i d).core v 0 room ∙ (is ∙ (ap (λ n. max n (number_if (t (get_or os i d).core) (get_or os i d))) (keeps (get_or os i d).core (omega (arith, low, same))) ∙ sym (next_more (t (get_or os i d).core) os i d within))))
  | inr other ↦
      let fails : number_if (t c) (get_or os i d) ≡ 0 = rw (own c (get_or os i d) other) in
      let e = next_more (t c) os i d within in
      get_or-set_other next (get_or os i d).core c v 0 other ∙ (keeps c low ∙ omega (arith, fails, e))
]
