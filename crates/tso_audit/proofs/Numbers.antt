-- Which core an operation belongs to, and what the table of the largest numbers says of the rules LoadOp and StoreStore.
use Rattle.std.proofs.Common.{◌≡◌, ◌<◌, ◌≤◌, ◌+◌, ◌&&◌, ℕ, Bool, true, false, List, length, get_or, take, drop, refl, sym, inl, inr, arith}
use Rattle.std.specs.Prelude.{if◌then◌else◌, nat_lt}
use Rattle.std.proofs.lemmas.Bool.{cases_Bool, and_parts, eq-eqb, eqb-true, ne_eqb, ltb-true, ltb-false}
use Rattle.lf_model.proofs.EachLemmas.{each_weaker}
use Rattle.lf_model.specs.Operation.{of_core, reads, stores}
use Rattle.lf_model.specs.Order.{LoadOpAt, StoreStoreAt}
use Rattle.lf_model.specs.Places.{AtPlace}
use Rattle.lf_model.specs.declared.trace.Op.{Op}
use Rattle.tso_audit.proofs.LargestNumber.{next_number, number_if, small_each, each_small, IsOwn, Keeps}
use Rattle.tso_audit.proofs.Places.{at_place, from_place}
use Rattle.tso_audit.specs.LastPlaces.{store_of}
use Rattle.tso_thread.specs.ReplayState.{no_op}

pub core_own : IsOwn of_core
core_own c o other = ne_eqb o.core c (λ same. other (sym same))

pub store_own : IsOwn store_of
store_own c o other = rw (core_own c o other) (and_false (stores o))
  where
    and_false : (b : Bool) → (b && false) ≡ false
    and_false true = refl
    and_false false = refl

second_false : (a b : Bool) → (a && b) ≡ false → a ≡ true → b ≡ false
second_false true b e is = e
second_false false b e is = absurd (cc)

-- ---- LoadOp

pub load_op_holds : (earlier : List Op) (r : Op) (later : List Op) → (reads r ≡ true → next_number (of_core r.core) earlier ≤ r.k + 1) → LoadOpAt earlier r later
load_op_holds earlier r later small reading =
    each_weaker (λ (o : Op). of_core r.core o ≡ true → o.k ≤ r.k) (λ (o : Op). o.core ≡ r.core → o.k ≤ r.k) earlier (λ o f same. f (eq-eqb o.core r.core same))
    (small_each (of_core r.core) earlier r.k (small reading))

pub load_op_small : (earlier : List Op) (r : Op) (later : List Op) → LoadOpAt earlier r later → reads r ≡ true → next_number (of_core r.core) earlier ≤ r.k + 1
load_op_small earlier r later holds reading =
    each_small (of_core r.core) earlier r.k
    (each_weaker (λ (o : Op). o.core ≡ r.core → o.k ≤ r.k) (λ (o : Op). of_core r.core o ≡ true → o.k ≤ r.k) earlier (λ o f same. f (eqb-true o.core r.core same)) (holds reading))

-- ---- StoreStore

pub store_store_holds : (earlier : List Op) (r : Op) (later : List Op) → (stores r ≡ true → next_number (store_of r.core) earlier ≤ r.k + 1) → StoreStoreAt earlier r later
store_store_holds earlier r later small storing =
    each_weaker (λ (o : Op). store_of r.core o ≡ true → o.k ≤ r.k) (λ (o : Op). stores o ≡ true → o.core ≡ r.core → o.k ≤ r.k) earlier
    (λ o f is same. f (rw (is, same) (eq-eqb r.core r.core refl))) (small_each (store_of r.core) earlier r.k (small storing))

pub store_store_small : (earlier : List Op) (r : Op) (later : List Op) → StoreStoreAt earlier r later → stores r ≡ true → next_number (store_of r.core) earlier ≤ r.k + 1
store_store_small earlier r later holds storing =
    each_small (store_of r.core) earlier r.k
    (each_weaker (λ (o : Op). stores o ≡ true → o.core ≡ r.core → o.k ≤ r.k) (λ (o : Op). store_of r.core o ≡ true → o.k ≤ r.k) earlier
    (λ o f both. f (and_parts (stores o) (of_core r.core o) both).0 (eqb-true o.core r.core (and_parts (stores o) (of_core r.core o) both).1)) (holds storing))

-- ---- what the code tests

pub number_of_core : (o : Op) → number_if (of_core o.core) o ≡ o.k + 1
number_of_core o = let same : of_core o.core o ≡ true = eq-eqb o.core o.core refl in rw same

pub number_of_store : (o : Op) → number_if (store_of o.core) o ≡ (if stores o then o.k + 1 else 0)
number_of_store o = let same : of_core o.core o ≡ true = eq-eqb o.core o.core refl in elim (cases_Bool (stores o)) [
  | inl is ↦ rw (is, same)
  | inr not ↦ rw not
]

module _ (order : List Op) (i largest : ℕ) (next : List ℕ) (within : i < length order) (low : (get_or order i no_op).core < 8) (is : largest ≡ get_or next (get_or order i no_op).core 0) where
  abbrev r : Op
  r = get_or order i no_op

  pub load_op_fails : Keeps of_core next (take i order) → (reads r && nat_lt (r.k + 1) largest) ≡ true → AtPlace LoadOpAt order i → ⊥
  load_op_fails keeps early holds =
      let both = and_parts (reads r) (nat_lt (r.k + 1) largest) early in
      let small = load_op_small (take i order) r (drop (i + 1) order) (from_place (λ (o : Op). LoadOpAt (take i order) o (drop (i + 1) order)) order i no_op within holds) both.0 in
      omega (arith, small, keeps r.core low, is, ltb-true (r.k + 1) largest both.1)

  pub load_op_passes : Keeps of_core next (take i order) → (reads r && nat_lt (r.k + 1) largest) ≡ false → AtPlace LoadOpAt order i
  load_op_passes keeps late =
      at_place (λ (o : Op). LoadOpAt (take i order) o (drop (i + 1) order)) order i no_op within
      (load_op_holds (take i order) r (drop (i + 1) order) (λ reading. omega (arith, keeps r.core low, is, ltb-false (r.k + 1) largest (second_false (reads r) (nat_lt (r.k + 1) largest) late reading))))

  pub store_store_fails : Keeps store_of next (take i order) → (stores r && nat_lt (r.k + 1) largest) ≡ true → AtPlace StoreStoreAt order i → ⊥
  store_store_fails keeps early holds =
      let both = and_parts (stores r) (nat_lt (r.k + 1) largest) early in
      let small = store_store_small (take i order) r (drop (i + 1) order) (from_place (λ (o : Op). StoreStoreAt (take i order) o (drop (i + 1) order)) order i no_op within holds) both.0 in
      omega (arith, small, keeps r.core low, is, ltb-true (r.k + 1) largest both.1)

  pub store_store_passes : Keeps store_of next (take i order) → (stores r && nat_lt (r.k + 1) largest) ≡ false → AtPlace StoreStoreAt order i
  store_store_passes keeps late =
      at_place (λ (o : Op). StoreStoreAt (take i order) o (drop (i + 1) order)) order i no_op within
      (store_store_holds (take i order) r (drop (i + 1) order) (λ storing. omega (arith, keeps r.core low, is, ltb-false (r.k + 1) largest (second_false (stores r) (nat_lt (r.k + 1) largest) late storing))))
