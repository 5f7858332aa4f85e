-- The operations of each core among those of all cores.
use Rattle.std.proofs.Common.{◌≡◌, ◌∙◌, ◌+◌, ◌≤◌, ◌<◌, ◌++◌, ℕ, zero, suc, Bool, true, false, List, [], ◌∷◌, length, filter, slice_get, Option, Some, None, IfSome, refl, ap, sym, subst, arith, add-one}
use Rattle.std.proofs.lemmas.Bool.{eq-eqb, ne_eqb}
use Rattle.std.proofs.lemmas.List.{append-nil}
use Rattle.std.proofs.lemmas.List.Elements.{filter-append}
use Rattle.std.specs.Prelude.{⊤}
use Rattle.std.specs.List.{AllByRecursion as Each}
use Rattle.lf_model.proofs.EachLemmas.{each_append, each_second, each_weaker, filter_none}
use Rattle.lf_model.specs.Operation.{of_core}
use Rattle.lf_model.specs.declared.record.CoreRecord.{CoreRecord}
use Rattle.lf_model.specs.declared.trace.Op.{Op}
use Rattle.run_trace.specs.Order.{chosen}
use Rattle.run_trace.proofs.Lists.{filter_all, each_pass, each_filter}

-- the operations of each record are of its core, the first of which has number n
abbrev pub OwnFrom : ℕ → List CoreRecord → Type 0
OwnFrom n [] = ⊤
OwnFrom n (kept ∷ records) = Each (λ (o : Op). o.core ≡ n) kept.ops × OwnFrom (n + 1) records

pub own_from : (n : ℕ) (records : List CoreRecord) → ((c : ℕ) → IfSome (slice_get records c) (λ kept. Each (λ (o : Op). o.core ≡ n + c) kept.ops)) → OwnFrom n records
own_from n [] h = tt
own_from n (kept ∷ records) h =
    (each_weaker (λ (o : Op). o.core ≡ n + 0) (λ (o : Op). o.core ≡ n) kept.ops (λ o e. omega (arith, e)) (h 0), own_from (n + 1) records (λ c. shifted c (slice_get records c) (h (suc c))))
  where
    shifted : (c : ℕ) (found : Option CoreRecord) → IfSome found (λ k. Each (λ (o : Op). o.core ≡ n + suc c) k.ops) → IfSome found (λ k. Each (λ (o : Op). o.core ≡ n + 1 + c) k.ops)
    shifted c None k = tt
    shifted c (Some r) k = each_weaker (λ (o : Op). o.core ≡ n + suc c) (λ (o : Op). o.core ≡ n + 1 + c) r.ops (λ o e. omega (arith, e, add-one c)) k

pub some_at : {X : Type 0} (xs : List X) (i : ℕ) → i < length xs → (x : X) × (slice_get xs i ≡ Some x)
some_at {X} [] i within = absurd (omega (arith, within))
some_at {X} (x ∷ xs) zero within = (x, refl)
some_at {X} (x ∷ xs) (suc i) within = some_at xs i (omega (arith, within, add-one i, add-one (length xs)))

module _ (test : CoreRecord → Op → Bool) where
  -- what follows from the test holds of each that is chosen
  pub chosen_pass : (P : Op → Type 0) → ((kept : CoreRecord) (o : Op) → test kept o ≡ true → P o) → (records : List CoreRecord) → Each P (chosen test records)
  chosen_pass P h [] = tt
  chosen_pass P h (kept ∷ records) =
      each_append P (filter (test kept) kept.ops) (chosen test records)
      (each_weaker (λ (o : Op). test kept o ≡ true) P (filter (test kept) kept.ops) (h kept) (each_pass (test kept) kept.ops)) (chosen_pass P h records)

  pub above : (n : ℕ) (records : List CoreRecord) → OwnFrom n records → Each (λ (o : Op). n ≤ o.core) (chosen test records)
  above n [] own = tt
  above n (kept ∷ records) own =
      each_append (λ (o : Op). n ≤ o.core) (filter (test kept) kept.ops) (chosen test records)
      (each_filter (λ (o : Op). n ≤ o.core) (test kept) kept.ops (each_weaker (λ (o : Op). o.core ≡ n) (λ (o : Op). n ≤ o.core) kept.ops (λ o e. omega (arith, e)) own.0))
      (each_weaker (λ (o : Op). n + 1 ≤ o.core) (λ (o : Op). n ≤ o.core) (chosen test records) (λ o e. omega (arith, e)) (above (n + 1) records own.1))

  pub chosen_within : (n : ℕ) (records : List CoreRecord) → OwnFrom n records → Each (λ (o : Op). o.core < n + length records) (chosen test records)
  chosen_within n [] own = tt
  chosen_within n (kept ∷ records) own =
      each_append (λ (o : Op). o.core < n + length (kept ∷ records)) (filter (test kept) kept.ops) (chosen test records)
      (each_filter (λ (o : Op). o.core < n + length (kept ∷ records)) (test kept) kept.ops
      (each_weaker (λ (o : Op). o.core ≡ n) (λ (o : Op). o.core < n + length (kept ∷ records)) kept.ops (λ o e. omega (arith, e, add-one (length records))) own.0))
      (each_weaker (λ (o : Op). o.core < n + 1 + length records) (λ (o : Op). o.core < n + length (kept ∷ records)) (chosen test records)
      (λ o e. omega (arith, e, add-one (length records))) (chosen_within (n + 1) records own.1))

  none_of : (n m : ℕ) (kept : CoreRecord) → Each (λ (o : Op). o.core ≡ n) kept.ops → (n ≡ m → ⊥) → filter (of_core m) (filter (test kept) kept.ops) ≡ []
  none_of n m kept own other = filter_none (of_core m) (filter (test kept) kept.ops)
      (each_filter (λ (o : Op). of_core m o ≡ false) (test kept) kept.ops
      (each_weaker (λ (o : Op). o.core ≡ n) (λ (o : Op). of_core m o ≡ false) kept.ops (λ o e. ne_eqb o.core m (λ same. other (sym e ∙ same))) own))

  all_of : (n m : ℕ) (kept : CoreRecord) → Each (λ (o : Op). o.core ≡ n) kept.ops → n ≡ m → filter (of_core m) (filter (test kept) kept.ops) ≡ filter (test kept) kept.ops
  all_of n m kept own same = filter_all (of_core m) (filter (test kept) kept.ops)
      (each_filter (λ (o : Op). of_core m o ≡ true) (test kept) kept.ops
      (each_weaker (λ (o : Op). o.core ≡ n) (λ (o : Op). of_core m o ≡ true) kept.ops (λ o e. eq-eqb o.core m (e ∙ same)) own))

  -- those of core m are those of its record
  pub own_chosen : (n m j : ℕ) (records : List CoreRecord) → m ≡ n + j → (kept : CoreRecord) → slice_get records j ≡ Some kept → OwnFrom n records
      → filter (of_core m) (chosen test records) ≡ filter (test kept) kept.ops
  own_chosen n m j [] e kept found own = absurd cc
  own_chosen n m zero (first ∷ records) e kept found own =
      filter-append (of_core m) (filter (test first) first.ops) (chosen test records)
      ∙ (ap (λ (os : List Op). os ++ filter (of_core m) (chosen test records)) (all_of n m first own.0 (omega (arith, e)))
      ∙ (ap (λ (os : List Op). filter (test first) first.ops ++ os)
      (filter_none (of_core m) (chosen test records)
      (each_weaker (λ (o : Op). n + 1 ≤ o.core) (λ (o : Op). of_core m o ≡ false) (chosen test records) (λ o high. ne_eqb o.core m (λ same. omega (arith, high, same, e))) (above (n + 1) records own.1)))
      ∙ (append-nil (filter (test first) first.ops) ∙ ap (λ (k : CoreRecord). filter (test k) k.ops) same)))
    where
      same : first ≡ kept
      same = cc
  own_chosen n m (suc j) (first ∷ records) e kept found own =
      filter-append (of_core m) (filter (test first) first.ops) (chosen test records)
      ∙ (ap (λ (os : List Op). os ++ filter (of_core m) (chosen test records)) (none_of n m first own.0 (λ same. omega (arith, same, e, add-one j)))
      ∙ own_chosen (n + 1) m j records (omega (arith, e, add-one j)) kept found own.1)

  -- an operation that is chosen: its record, and its place among those of its core
  pub record OwnSplit (records : List CoreRecord) (r : Op) (left right : List Op) : Type 0 where
    pub kept : CoreRecord
    pub found : slice_get records r.core ≡ Some kept
    pub passes : test kept r ≡ true
    pub parts : filter (test kept) kept.ops ≡ filter (of_core r.core) left ++ (r ∷ filter (of_core r.core) right)

  pub split_own : (r : Op) (left right : List Op) → filter (of_core r.core) (left ++ (r ∷ right)) ≡ filter (of_core r.core) left ++ (r ∷ filter (of_core r.core) right)
  split_own r left right = filter-append (of_core r.core) left (r ∷ right) ∙ rw (eq-eqb r.core r.core refl) refl

  pub is_chosen : (records : List CoreRecord) → OwnFrom 0 records → (r : Op) (left right : List Op) → chosen test records ≡ left ++ (r ∷ right) → OwnSplit records r left right
  is_chosen records own r left right e =
      let within = subst (λ (os : List Op). Each (λ (o : Op). o.core < 0 + length records) os) e (chosen_within 0 records own) in
      let here = each_second (λ (o : Op). o.core < 0 + length records) left (r ∷ right) within in
      let at = some_at records r.core (omega (arith, here.0)) in
      let parts : filter (test at.0) at.0.ops ≡ filter (of_core r.core) left ++ (r ∷ filter (of_core r.core) right)
      = sym (own_chosen 0 r.core r.core records (omega arith) at.0 at.1 own) ∙ (ap (filter (of_core r.core)) e ∙ split_own r left right) in
      let all = subst (λ (os : List Op). Each (λ (o : Op). test at.0 o ≡ true) os) parts (each_pass (test at.0) at.0.ops) in
      record {
        kept = at.0;
        found = at.1;
        passes = (each_second (λ (o : Op). test at.0 o ≡ true) (filter (of_core r.core) left) (r ∷ filter (of_core r.core) right) all).0;
        parts = parts;
      }
