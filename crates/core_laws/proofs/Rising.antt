-- Operations whose numbers rise, and two parts of them.
use Rattle.std.proofs.Common.{◌≡◌, ◌+◌, ◌<◌, ◌≤◌, ◌++◌, ℕ, suc, Bool, List, [], ◌∷◌, map, filter, ap, subst, arith, inl, inr}
use Rattle.std.proofs.lemmas.Bool.{cases_Bool}
use Rattle.std.specs.List.{slice_get}
use Rattle.std.specs.List.{AllByRecursion as Each}
use Rattle.std.specs.Option.{IfSome}
use Rattle.core_laws.proofs.ListLemmas.{if_there}
use Rattle.lf_model.proofs.EachLemmas.{each_second}
use Rattle.lf_model.specs.Operation.{made}
use Rattle.lf_model.specs.declared.bus.Entry.{Entry}
use Rattle.lf_model.specs.declared.trace.Op.{Op}

-- their numbers rise from n on
abbrev pub Rises : ℕ → List Op → Type 0
Rises n [] = Unit {0}
Rises n (o ∷ ops) = (n ≤ o.k) × Rises (o.k + 1) ops

rises_weaker : (m n : ℕ) (ops : List Op) → m ≤ n → Rises n ops → Rises m ops
rises_weaker m n [] le h = tt
rises_weaker m n (o ∷ ops) le h = (omega (arith, h.0), h.1)

rises_least : (m n : ℕ) (ops : List Op) → m ≤ n → Rises n ops → Each (λ (o : Op). m ≤ o.k) ops
rises_least m n [] le h = tt
rises_least m n (o ∷ ops) le h = (omega (arith, h.0), rises_least m (o.k + 1) ops (omega (arith, h.0)) h.1)

pub rises_filter : (p : Op → Bool) (n : ℕ) (ops : List Op) → Rises n ops → Rises n (filter p ops)
rises_filter p n [] h = tt
rises_filter p n (o ∷ ops) h = elim (cases_Bool (p o)) [
  | inl is_so ↦ rw is_so (h.0, rises_filter p (o.k + 1) ops h.1)
  | inr not_so ↦ rw not_so (rises_weaker n (o.k + 1) (filter p ops) (omega (arith, h.0)) (rises_filter p (o.k + 1) ops h.1))
]

pub rises_numbered : (n : ℕ) (ops : List Op) → ((k : ℕ) → IfSome (slice_get ops k) (λ o. o.k ≡ n + k)) → Rises n ops
rises_numbered n [] h = tt
rises_numbered n (o ∷ ops) h =
    let first : o.k ≡ n + 0 = h 0 in
    (omega arith, rises_numbered (o.k + 1) ops (λ k. if_there (slice_get ops k) (λ (x : Op). x.k ≡ n + suc k) (λ (x : Op). x.k ≡ o.k + 1 + k) (h (suc k)) (λ x there e. omega (arith, e, first))))

rises_before : (n : ℕ) (xs ys : List Op) (y : Op) → Rises n (xs ++ y ∷ ys) → Each (λ (x : Op). x.k < y.k) xs
rises_before n [] ys y h = tt
rises_before n (x ∷ xs) ys y h =
    let above : x.k + 1 ≤ y.k = (each_second (λ (o : Op). x.k + 1 ≤ o.k) xs (y ∷ ys) (rises_least (x.k + 1) (x.k + 1) (xs ++ y ∷ ys) (omega arith) h.1)).0 in
    (omega arith, rises_before (x.k + 1) xs ys y h.1)

rises_after : (n : ℕ) (xs ys : List Op) (y : Op) → Rises n (xs ++ y ∷ ys) → Each (λ (x : Op). y.k ≤ x.k) (y ∷ ys)
rises_after n [] ys y h = (omega arith, rises_least y.k (y.k + 1) ys (omega arith) h.1)
rises_after n (x ∷ xs) ys y h = rises_after (x.k + 1) xs ys y h.1

-- operations of which the second part made these entries, the first of them with number n
pub split_numbers : (first rest : List Op) (e : Entry) (later : List Entry) → Rises 0 (first ++ rest) → map made rest ≡ e ∷ later
    → Each (λ (o : Op). o.k < e.k) first × Each (λ (o : Op). e.k ≤ o.k) rest
split_numbers first [] e later rises same = absurd (cc)
split_numbers first (y ∷ ys) e later rises same =
    let entry : made y ≡ e = cc in
    let number : y.k ≡ e.k = ap (λ (x : Entry). x.k) entry in
    (subst (λ n. Each (λ (o : Op). o.k < n) first) number (rises_before 0 first ys y rises), subst (λ n. Each (λ (o : Op). n ≤ o.k) (y ∷ ys)) number (rises_after 0 first ys y rises))
