-- The first place of several rules, one for each core, is that of all of them; and Value speaks only of the bytes of RAM at the start.
use Rattle.std.proofs.Common.{◌≡◌, ◌∙◌, ◌<◌, ◌+◌, ◌-◌, ℕ, true, List, length, map, min, take, drop, get_or, refl, ap, sym, subst, inl, inr, arith, Option, Some, None}
use Rattle.std.specs.Prelude.{nat_le, nat_lt}
use Rattle.std.proofs.lemmas.Bool.{cases_lt, and_parts, leb-true, ltb-true}
use Rattle.lf_model.specs.Operation.{made, touches}
use Rattle.lf_model.specs.Places.{AtPlace, FailsFirst, FailsFirstIn}
use Rattle.lf_model.specs.Start.{ram_first, initial_byte}
use Rattle.lf_model.specs.Value.{ValueAt, stored, candidates}
use Rattle.lf_model.specs.declared.setup.Setup.{Setup}
use Rattle.lf_model.specs.declared.trace.Op.{Op}
use Rattle.lf_model.specs.declared.trace.Trace.{Trace}
use Rattle.tso_audit.proofs.Places.{at_place, from_place}
use Rattle.tso_audit.specs.FirstPlaces.{HasCoresBelow, LieInRam}
use Rattle.tso_audit.specs.LastPlaces.{start_in, ValueOf, earlier_of}
use Rattle.tso_thread.specs.ReplayState.{no_op}

-- two rules that agree at each place fail first at the same place
pub first_same : (n : ℕ) (P Q : ℕ → Type 0) → ((i : ℕ) → i < n → P i → Q i) → ((i : ℕ) → i < n → Q i → P i) → (a : Option ℕ) → FailsFirst n P a → FailsFirst n Q a
first_same n P Q to from None h = λ i low. to i low (h i low)
first_same n P Q to from (Some i) h = (h.0, (λ q. h.1 (from i h.0 q)), (λ j low. to j (omega (arith, low, h.0)) (h.2 j low)))

-- the rules of c cores, and that of one core more
pub first_of_more : (n c : ℕ) (V : ℕ → ℕ → Type 0) (a b : Option ℕ) → FailsFirst n (λ i. (d : ℕ) → d < c → V d i) a → FailsFirst n (V c) b
    → FailsFirst n (λ i. (d : ℕ) → d < c + 1 → V d i) (earlier_of a b)
first_of_more n c V = by
  where
    join : (i : ℕ) → ((d : ℕ) → d < c → V d i) → V c i → (d : ℕ) → d < c + 1 → V d i
    join i all one d low = elim (cases_lt d c) [ inl less ↦ all d less | inr more ↦ let e : c ≡ d = omega (arith, low, more) in subst (λ (m : ℕ). V m i) e one ]

    early : (i : ℕ) → ((d : ℕ) → d < c + 1 → V d i) → (d : ℕ) → d < c → V d i
    early i all d low = all d (omega (arith, low))

    by : (a b : Option ℕ) → FailsFirst n (λ i. (d : ℕ) → d < c → V d i) a → FailsFirst n (V c) b → FailsFirst n (λ i. (d : ℕ) → d < c + 1 → V d i) (earlier_of a b)
    by None None ha hb = λ i low. join i (ha i low) (hb i low)
    by None (Some j) ha hb = (hb.0, (λ all. hb.1 (all c (omega arith))), (λ k low. join k (ha k (omega (arith, low, hb.0))) (hb.2 k low)))
    by (Some i) None ha hb = (ha.0, (λ all. ha.1 (early i all)), (λ k low. join k (ha.2 k low) (hb k (omega (arith, low, ha.0)))))
    by (Some i) (Some j) ha hb = elim (cases_lt i j) [
      | inl less ↦
          let e : i ≡ min i j = omega (arith, less) in
          subst (λ (m : ℕ). FailsFirst n (λ i. (d : ℕ) → d < c + 1 → V d i) (Some m)) e (ha.0, (λ all. ha.1 (early i all)), (λ k low. join k (ha.2 k low) (hb.2 k (omega (arith, low, less)))))
      | inr more ↦
          let e : j ≡ min i j = omega (arith, more) in
          subst (λ (m : ℕ). FailsFirst n (λ i. (d : ℕ) → d < c + 1 → V d i) (Some m)) e
          (hb.0, (λ all. hb.1 (all c (omega arith))), (λ k low. join k (ha.2 k (omega (arith, low, more))) (hb.2 k low)))
    ]

-- Value is what it says of each core
pub value_of_all : (order : List Op) (cores : ℕ) (start : ℕ → ℕ) → HasCoresBelow cores order → (a : Option ℕ)
    → FailsFirst (length order) (λ i. (c : ℕ) → c < cores → AtPlace (ValueOf c start) order i) a → FailsFirstIn (ValueAt start) order a
value_of_all order cores start few = first_same (length order) (λ i. (c : ℕ) → c < cores → AtPlace (ValueOf c start) order i) (AtPlace (ValueAt start) order) to from
  where
    to : (i : ℕ) → i < length order → ((c : ℕ) → c < cores → AtPlace (ValueOf c start) order i) → AtPlace (ValueAt start) order i
    to i low all =
        let r = get_or order i no_op in
        at_place (λ (o : Op). ValueAt start (take i order) o (drop (i + 1) order)) order i no_op low
        (from_place (λ (o : Op). ValueOf r.core start (take i order) o (drop (i + 1) order)) order i no_op low (all r.core (few i no_op low)) refl)

    from : (i : ℕ) → i < length order → AtPlace (ValueAt start) order i → (c : ℕ) → c < cores → AtPlace (ValueOf c start) order i
    from i low one c small =
        at_place (λ (o : Op). ValueOf c start (take i order) o (drop (i + 1) order)) order i no_op low
        (λ of_it. from_place (λ (o : Op). ValueAt start (take i order) o (drop (i + 1) order)) order i no_op low one)

-- ---- the bytes at the start

value_same : (f g : ℕ → ℕ) (earlier : List Op) (r : Op) (later : List Op) → ((a : ℕ) → touches a (made r) ≡ true → f a ≡ g a) → ValueAt f earlier r later → ValueAt g earlier r later
value_same f g earlier r later same h = λ reading a hit. h reading a hit ∙ ap (stored a (map made (candidates earlier r later))) (same a hit)

pub value_at_start : (order : List Op) (ram : ℕ) (bytes : List ℕ) (initial : ℕ → ℕ) → ((k : ℕ) → k < ram → get_or bytes k 0 ≡ initial (ram_first + k)) → LieInRam ram order
    → (a : Option ℕ) → FailsFirstIn (ValueAt (start_in bytes)) order a → FailsFirstIn (ValueAt initial) order a
value_at_start order ram bytes initial is lie = first_same (length order) (AtPlace (ValueAt (start_in bytes)) order) (AtPlace (ValueAt initial) order) to from
  where
    same : (i : ℕ) → i < length order → (a : ℕ) → touches a (made (get_or order i no_op)) ≡ true → start_in bytes a ≡ initial a
    same i low a hit =
        let o = get_or order i no_op in
        let inside = and_parts (nat_le ram_first o.addr) (nat_le (o.addr + o.len) (ram_first + ram)) (lie i no_op low) in
        let at = and_parts (nat_le o.addr a) (nat_lt a (o.addr + o.len)) hit in
        let first = leb-true ram_first o.addr inside.0 in
        let last = leb-true (o.addr + o.len) (ram_first + ram) inside.1 in
        let from_a = leb-true o.addr a at.0 in
        let to_a = ltb-true a (o.addr + o.len) at.1 in
        let back : ram_first + (a - ram_first) ≡ a = omega (arith, first, from_a) in
        is (a - ram_first) (omega (arith, first, last, from_a, to_a)) ∙ ap initial back

    to : (i : ℕ) → i < length order → AtPlace (ValueAt (start_in bytes)) order i → AtPlace (ValueAt initial) order i
    to i low h =
        at_place (λ (o : Op). ValueAt initial (take i order) o (drop (i + 1) order)) order i no_op low
        (value_same (start_in bytes) initial (take i order) (get_or order i no_op) (drop (i + 1) order) (same i low)
        (from_place (λ (o : Op). ValueAt (start_in bytes) (take i order) o (drop (i + 1) order)) order i no_op low h))

    from : (i : ℕ) → i < length order → AtPlace (ValueAt initial) order i → AtPlace (ValueAt (start_in bytes)) order i
    from i low h =
        at_place (λ (o : Op). ValueAt (start_in bytes) (take i order) o (drop (i + 1) order)) order i no_op low
        (value_same initial (start_in bytes) (take i order) (get_or order i no_op) (drop (i + 1) order) (λ a hit. sym (same i low a hit))
        (from_place (λ (o : Op). ValueAt initial (take i order) o (drop (i + 1) order)) order i no_op low h))

-- in the words of the setup and the trace
pub value_first : (setup : Setup) (trace : Trace) (order : List Op) (bytes items : List ℕ) (found : Option ℕ) → order ≡ trace.order → bytes ≡ items
    → ((k : ℕ) → k < setup.config.ram → get_or items k 0 ≡ initial_byte setup.image (ram_first + k)) → LieInRam setup.config.ram trace.order
    → FailsFirstIn (ValueAt (start_in bytes)) order found → (a : Option ℕ) → found ≡ a → FailsFirstIn (ValueAt (initial_byte setup.image)) trace.order a
value_first setup trace order bytes items found order_is bytes_are is lie first a found_is =
    value_at_start trace.order setup.config.ram items (initial_byte setup.image) is lie a
    (subst (λ (p : Option ℕ). FailsFirstIn (ValueAt (start_in items)) trace.order p) found_is
    (subst (λ (xs : List ℕ). FailsFirstIn (ValueAt (start_in xs)) trace.order found) bytes_are
    (subst (λ (os : List Op). FailsFirstIn (ValueAt (start_in bytes)) os found) order_is first)))
