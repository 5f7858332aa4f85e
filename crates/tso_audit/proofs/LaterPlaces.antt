-- What a table of later places says of a read: its bytes are those that Value gives, and how the table grows with the order.
use Rattle.std.proofs.Common.{◌≡◌, ◌∙◌, ◌<◌, ◌≤◌, ◌+◌, ◌-◌, ◌++◌, ◌==◌, ◌&&◌, ℕ, zero, suc, Bool, true, false, List, [], ◌∷◌, length, map, max, take, drop, get_or, refl, ap, ap₂, sym, subst, inl, inr, arith}
use Rattle.std.specs.Prelude.{if◌then◌else◌, nat_le, nat_lt}
use Rattle.std.proofs.lemmas.Bool.{cases_Bool, cases_lt, and_parts, eqb-true, lt-ltb, le-ltb, leb-true, leb-false, ltb-true, eq-eqb}
use Rattle.std.proofs.lemmas.List.{take_more, drop_more, get_or-take, get_or-drop, take-append-drop, length-take, length-take-le, length-drop}
use Rattle.lf_model.proofs.EachLemmas.{each_at}
use Rattle.lf_model.specs.Operation.{of_core, reads, enters, stores, made, touches, byte_got}
use Rattle.lf_model.specs.Order.{LoadOpAt, StoreStoreAt}
use Rattle.lf_model.specs.Places.{AtPlace, FailsNowhereIn}
use Rattle.lf_model.specs.Start.{ram_first}
use Rattle.lf_model.specs.Value.{stored, own_before, candidates}
use Rattle.lf_model.specs.declared.trace.Op.{Op}
use Rattle.tso_audit.proofs.LastPlace.{last_append, last_low, read_byte}
use Rattle.tso_audit.proofs.Places.{at_place, from_place}
use Rattle.tso_audit.specs.FirstPlaces.{LieInRam}
use Rattle.tso_audit.specs.LastPlaces.{store_of, place_if, last_place, at_address, byte_before, later_place, start_in, HasLaterPlaces, AreBeforeReads, ValueOf}
use Rattle.tso_thread.specs.ReplayState.{no_op}

-- ---- the last places of lists

-- two tests that agree on each operation have the same last place
pub last_same : (t u : Op → Bool) (n : ℕ) (os : List Op) → ((j : ℕ) → j < length os → t (get_or os j no_op) ≡ u (get_or os j no_op)) → last_place t n os ≡ last_place u n os
last_same t u n [] same = refl
last_same t u n (o ∷ os) same =
    let here : place_if t n o ≡ place_if u n o = ap (λ (b : Bool). if b then n + 1 else 0) (same 0 (omega arith)) in
    let rest : last_place t (n + 1) os ≡ last_place u (n + 1) os = last_same t u (n + 1) os (λ j low. same (suc j) (omega (arith, low))) in
    omega (arith, here, rest)

-- where none passes there is none
pub last_none : (t : Op → Bool) (n : ℕ) (os : List Op) → ((j : ℕ) → j < length os → t (get_or os j no_op) ≡ false) → last_place t n os ≡ 0
last_none t n [] none = refl
last_none t n (o ∷ os) none =
    let fails : t o ≡ false = none 0 (omega arith) in
    let here : place_if t n o ≡ 0 = rw fails in
    let rest : last_place t (n + 1) os ≡ 0 = last_none t (n + 1) os (λ j low. none (suc j) (omega (arith, low))) in
    omega (arith, here, rest)

-- one operation more
pub last_more : (t : Op → Bool) (os : List Op) (i : ℕ) → i < length os → last_place t 0 (take (i + 1) os) ≡ max (last_place t 0 (take i os)) (place_if t i (get_or os i no_op))
last_more t os i within =
    let more : last_place t 0 (take (i + 1) os) ≡ last_place t 0 (take i os ++ (get_or os i no_op ∷ [])) = ap (last_place t 0) (take_more os i no_op within) in
    let split = last_append t 0 (take i os) (get_or os i no_op ∷ []) in
    let long : 0 + length (take i os) ≡ i = omega (arith, length-take-le i os (omega (arith, within))) in
    let there : last_place t (0 + length (take i os)) (get_or os i no_op ∷ []) ≡ last_place t i (get_or os i no_op ∷ []) = ap (λ (m : ℕ). last_place t m (get_or os i no_op ∷ [])) long in
    omega (arith, more, split, there)

-- the operation at the last place passes
pub last_passes : (t : Op → Bool) (n : ℕ) (os : List Op) → 0 < last_place t n os → (n < last_place t n os) × (t (get_or os (last_place t n os - 1 - n) no_op) ≡ true)
last_passes t n [] some = absurd (omega (arith, some))
last_passes t n (o ∷ os) some = elim (cases_lt 0 (last_place t (n + 1) os)) [
  | inl later ↦
      let found = last_passes t (n + 1) os later in
      let low : place_if t n o ≤ n + 1 = place_low (t o) in
      let same : last_place t n (o ∷ os) ≡ last_place t (n + 1) os = omega (arith, low, found.0) in
      let at : last_place t n (o ∷ os) - 1 - n ≡ suc (last_place t (n + 1) os - 1 - (n + 1)) = omega (arith, same, found.0) in
      (omega (arith, same, found.0), subst (λ (j : ℕ). t (get_or (o ∷ os) j no_op) ≡ true) (sym at) found.1)
  | inr none ↦ elim (cases_Bool (t o)) [
    | inl passes ↦
        let here : place_if t n o ≡ n + 1 = rw passes in
        let at : last_place t n (o ∷ os) - 1 - n ≡ 0 = omega (arith, here, none) in
        (omega (arith, here), subst (λ (j : ℕ). t (get_or (o ∷ os) j no_op) ≡ true) (sym at) passes)
    | inr fails ↦ let here : place_if t n o ≡ 0 = rw fails in absurd (omega (arith, here, none, some))
  ]
]
  where
    place_low : (b : Bool) → (if b then n + 1 else 0) ≤ n + 1
    place_low true = omega arith
    place_low false = omega arith

-- ---- the later of two places

module _ (order : List Op) (c i j a : ℕ) where
  part_within : (t : Op → Bool) (m : ℕ) → last_place t 0 (take m order) ≤ length order
  part_within t m = omega (arith, last_low t 0 (take m order), length-take m order)

  pub later_within : later_place order c i j a ≤ length order
  later_within = omega (arith, part_within (at_address a enters) i, part_within (at_address a (store_of c)) j)

  part_touches : (p : Op → Bool) (m : ℕ) → 0 < last_place (at_address a p) 0 (take m order)
      → touches a (made (get_or order (last_place (at_address a p) 0 (take m order) - 1) no_op)) ≡ true
  part_touches p m some =
      let found = last_passes (at_address a p) 0 (take m order) some in
      let low = last_low (at_address a p) 0 (take m order) in
      let at : last_place (at_address a p) 0 (take m order) - 1 - 0 ≡ last_place (at_address a p) 0 (take m order) - 1 = omega arith in
      let inside : last_place (at_address a p) 0 (take m order) - 1 < m = omega (arith, some, low, length-take m order) in
      let o = get_or (take m order) (last_place (at_address a p) 0 (take m order) - 1 - 0) no_op in
      let hit : touches a (made o) ≡ true = (and_parts (p o) (touches a (made o)) found.1).1 in
      subst (λ (x : Op). touches a (made x) ≡ true) (get_or-take m order (last_place (at_address a p) 0 (take m order) - 1) no_op inside)
      (subst (λ (n : ℕ). touches a (made (get_or (take m order) n no_op)) ≡ true) at hit)

  -- the operation at the later place touches the address
  pub later_touches : 0 < later_place order c i j a → touches a (made (get_or order (later_place order c i j a - 1) no_op)) ≡ true
  later_touches some = elim (cases_lt (last_place (at_address a enters) 0 (take i order)) (last_place (at_address a (store_of c)) 0 (take j order))) [
    | inl less ↦
        let is : later_place order c i j a ≡ last_place (at_address a (store_of c)) 0 (take j order) = omega (arith, less) in
        subst (λ (n : ℕ). touches a (made (get_or order (n - 1) no_op)) ≡ true) (sym is) (part_touches (store_of c) j (omega (arith, some, is)))
    | inr more ↦
        let is : later_place order c i j a ≡ last_place (at_address a enters) 0 (take i order) = omega (arith, more) in
        subst (λ (n : ℕ). touches a (made (get_or order (n - 1) no_op)) ≡ true) (sym is) (part_touches enters i (omega (arith, some, is)))
  ]

-- ---- the table grows

module _ (order : List Op) (c i j a : ℕ) where
  -- by a store or an atomic in memory, or another operation of the order
  pub later_entered : i < length order
      → later_place order c (i + 1) j a ≡ max (later_place order c i j a) (place_if (at_address a enters) i (get_or order i no_op))
  later_entered within = omega (arith, last_more (at_address a enters) order i within)

  -- by a store or an atomic of the core, or another operation
  pub later_own : j < length order
      → later_place order c i (j + 1) a ≡ max (later_place order c i j a) (place_if (at_address a (store_of c)) j (get_or order j no_op))
  later_own within = omega (arith, last_more (at_address a (store_of c)) order j within)

abbrev At : List Op → ℕ → Op
At order j = get_or order j no_op

pub table_entered : (order : List Op) (c i j : ℕ) (old new : List ℕ) → i < length order → length new ≡ length old → HasLaterPlaces order c i j old
    → ((x : ℕ) → x < length old → get_or new x 0 ≡ max (get_or old x 0) (if at_address (ram_first + x) enters (At order i) then i + 1 else 0))
    → HasLaterPlaces order c (i + 1) j new
table_entered order c i j old new within size has noted x low =
    noted x (omega (arith, size, low))
    ∙ (ap (λ (n : ℕ). max n (place_if (at_address (ram_first + x) enters) i (At order i))) (has x (omega (arith, size, low))) ∙ sym (later_entered order c i j (ram_first + x) within))

pub table_own : (order : List Op) (c i j : ℕ) (old new : List ℕ) → j < length order → length new ≡ length old → HasLaterPlaces order c i j old
    → ((x : ℕ) → x < length old → get_or new x 0 ≡ max (get_or old x 0) (if at_address (ram_first + x) (store_of c) (At order j) then j + 1 else 0))
    → HasLaterPlaces order c i (j + 1) new
table_own order c i j old new within size has noted x low =
    noted x (omega (arith, size, low))
    ∙ (ap (λ (n : ℕ). max n (place_if (at_address (ram_first + x) (store_of c)) j (At order j))) (has x (omega (arith, size, low))) ∙ sym (later_own order c i j (ram_first + x) within))

-- the numbers of the noted stores stay below k
pub numbers_more : (order : List Op) (c k from j : ℕ) → ((m : ℕ) → from ≤ m → m < j → store_of c (At order m) ≡ true → (At order m).k < k)
    → (store_of c (At order j) && nat_le k (At order j).k) ≡ false → (m : ℕ) → from ≤ m → m < j + 1 → store_of c (At order m) ≡ true → (At order m).k < k
numbers_more order c k from j below early m low high is = elim (cases_lt m j) [
  | inl less ↦ below m low less is
  | inr more ↦
      let e : m ≡ j = omega (arith, high, more) in
      let here : store_of c (At order j) ≡ true = subst (λ (n : ℕ). store_of c (At order n) ≡ true) e is in
      let late : nat_le k (At order j).k ≡ false = second (store_of c (At order j)) (nat_le k (At order j).k) early here in
      subst (λ (n : ℕ). (At order n).k < k) (sym e) (leb-false k (At order j).k late)
]
  where
    second : (a b : Bool) → (a && b) ≡ false → a ≡ true → b ≡ false
    second true b e is = e
    second false b e is = absurd (cc)

-- where the next operation is no read of the core, or was tried, the noted ones are before the reads after it
pub before_later : (order : List Op) (c i j : ℕ) → AreBeforeReads order c i j → AreBeforeReads order c (i + 1) j
before_later order c i j before s r low from within store reading of_it = before s r low (omega (arith, from)) within store reading of_it

-- ---- bytes by their offsets

pub from_offsets : (P : ℕ → Type 0) (o : Op) → ((i : ℕ) → i < o.len → P (o.addr + i)) → (a : ℕ) → touches a (made o) ≡ true → P a
from_offsets P o each a hit =
    let both = and_parts (nat_le o.addr a) (nat_lt a (o.addr + o.len)) hit in
    let low = leb-true o.addr a both.0 in
    let high = ltb-true a (o.addr + o.len) both.1 in
    let e : o.addr + (a - o.addr) ≡ a = omega arith in
    subst P e (each (a - o.addr) (omega arith))

-- ---- what a reader reads

module _ (order : List Op) (c i own : ℕ) (within : i < length order) where
  abbrev r : Op
  r = get_or order i no_op

  own_is : (o : Op) → r.core ≡ c → own_before r o ≡ (store_of c o && nat_lt o.k r.k)
  own_is o of_it = ap (λ (m : ℕ). (stores o && o.core == m) && nat_lt o.k r.k) of_it

  -- the last of its own before it in program order is the last that the table has
  own_places : (a : ℕ) → r.core ≡ c → own ≤ length order
      → ((j : ℕ) → j < own → store_of c (get_or order j no_op) ≡ true → (get_or order j no_op).k < r.k)
      → (own < length order → store_of c (get_or order own no_op) ≡ true) → (own < length order → r.k ≤ (get_or order own no_op).k)
      → FailsNowhereIn StoreStoreAt order
      → last_place (at_address a (own_before r)) 0 order ≡ last_place (at_address a (store_of c)) 0 (take own order)
  own_places a of_it inside below stops number store_store =
      let whole : last_place t 0 (take own order ++ drop own order) ≡ last_place t 0 order = ap (last_place t 0) (take-append-drop own order) in
      let split = last_append t 0 (take own order) (drop own order) in
      let front : last_place t 0 (take own order) ≡ last_place u 0 (take own order) = last_same t u 0 (take own order) agrees in
      let back : last_place t (0 + length (take own order)) (drop own order) ≡ 0 = last_none t (0 + length (take own order)) (drop own order) misses in
      omega (arith, whole, split, front, back)
    where
      t : Op → Bool
      t = at_address a (own_before r)

      u : Op → Bool
      u = at_address a (store_of c)

      long : length (take own order) ≡ own
      long = length-take-le own order inside

      agree : (o : Op) → (store_of c o ≡ true → o.k < r.k) → t o ≡ u o
      agree o less = elim (cases_Bool (store_of c o)) [
        | inl is ↦
            let low : nat_lt o.k r.k ≡ true = lt-ltb o.k r.k (less is) in
            let yes_ : own_before r o ≡ true = own_is o of_it ∙ rw (is, low) refl in
            ap (λ (b : Bool). b && touches a (made o)) (yes_ ∙ sym is)
        | inr not_ ↦
            let no_ : own_before r o ≡ false = own_is o of_it ∙ rw not_ refl in
            ap (λ (b : Bool). b && touches a (made o)) (no_ ∙ sym not_)
      ]

      agrees : (j : ℕ) → j < length (take own order) → t (get_or (take own order) j no_op) ≡ u (get_or (take own order) j no_op)
      agrees j low =
          let less : j < own = omega (arith, low, long) in
          agree (get_or (take own order) j no_op) (subst (λ (o : Op). store_of c o ≡ true → o.k < r.k) (sym (get_or-take own order j no_op less)) (below j less))

      miss : (o : Op) → (store_of c o ≡ true → r.k ≤ o.k) → t o ≡ false
      miss o more = elim (cases_Bool (store_of c o)) [
        | inl is ↦
            let high : nat_lt o.k r.k ≡ false = le-ltb o.k r.k (more is) in
            let no_ : own_before r o ≡ false = own_is o of_it ∙ rw (is, high) refl in
            rw no_
        | inr not_ ↦
            let no_ : own_before r o ≡ false = own_is o of_it ∙ rw not_ refl in
            rw no_
      ]

      -- a store of the core at or after the place has no smaller number than the one at the place
      rises : (m : ℕ) → own + m < length order → store_of c (get_or order (own + m) no_op) ≡ true → r.k ≤ (get_or order (own + m) no_op).k
      rises zero low is = subst (λ (n : ℕ). r.k ≤ (get_or order n no_op).k) (omega arith) (number (omega (arith, low)))
      rises (suc m) low is =
          let p = get_or order (own + suc m) no_op in
          let q = get_or order own no_op in
          let is_p = and_parts (stores p) (of_core c p) is in
          let is_q = and_parts (stores q) (of_core c q) (stops (omega (arith, low))) in
          let here = from_place (λ (o : Op). StoreStoreAt (take (own + suc m) order) o (drop (own + suc m + 1) order)) order (own + suc m) no_op low (store_store (own + suc m) low) is_p.0 in
          let at = from_place (λ (o : Op). stores o ≡ true → o.core ≡ p.core → o.k ≤ p.k) (take (own + suc m) order) own no_op (omega (arith, length-take-le (own + suc m) order (omega (arith, low)), low))
          (each_at (λ (o : Op). stores o ≡ true → o.core ≡ p.core → o.k ≤ p.k) (take (own + suc m) order) own here) in
          let at_q : stores q ≡ true → q.core ≡ p.core → q.k ≤ p.k
          = subst (λ (o : Op). stores o ≡ true → o.core ≡ p.core → o.k ≤ p.k) (get_or-take (own + suc m) order own no_op (omega arith)) at in
          omega (arith, number (omega (arith, low)), at_q is_q.0 (eqb-true q.core c is_q.1 ∙ sym (eqb-true p.core c is_p.1)))

      misses : (j : ℕ) → j < length (drop own order) → t (get_or (drop own order) j no_op) ≡ false
      misses j low =
          let inside : own + j < length order = omega (arith, length-drop own order, low) in
          miss (get_or (drop own order) j no_op) (subst (λ (o : Op). store_of c o ≡ true → r.k ≤ o.k) (sym (get_or-drop own order j no_op)) (rises j inside))

  -- the byte that Value gives is that before the later place
  pub read_value : (a b : ℕ) → r.core ≡ c → own ≤ length order
      → ((j : ℕ) → j < own → store_of c (get_or order j no_op) ≡ true → (get_or order j no_op).k < r.k)
      → (own < length order → store_of c (get_or order own no_op) ≡ true) → (own < length order → r.k ≤ (get_or order own no_op).k)
      → FailsNowhereIn StoreStoreAt order
      → stored a (map made (candidates (take i order) r (drop (i + 1) order))) b ≡ byte_before order a b (later_place order c i own a)
  read_value a b of_it inside below stops number store_store =
      subst (λ (os : List Op). stored a (map made (candidates (take i order) r (drop (i + 1) order))) b
      ≡ byte_before os a b (max (last_place (at_address a enters) 0 (take i order)) (last_place (at_address a (own_before r)) 0 os))) whole
      (read_byte a b (take i order) r (drop (i + 1) order))
      ∙ ap (λ (n : ℕ). byte_before order a b (max (last_place (at_address a enters) 0 (take i order)) n)) (own_places a of_it inside below stops number store_store)
    where
      whole : take i order ++ (r ∷ drop (i + 1) order) ≡ order
      whole = ap (λ (os : List Op). take i order ++ os) (sym (drop_more order i no_op within)) ∙ take-append-drop i order

-- ---- a read is tried

module _ (order : List Op) (c i own next : ℕ) (start places : List ℕ) (within : i < length order) (own_inside : own ≤ length order)
    (before : AreBeforeReads order c i own) where
  pub no_read : (reads (At order i) && of_core c (At order i)) ≡ false → AtPlace (ValueOf c (start_in start)) order i
  no_read not_ =
      at_place (λ (o : Op). ValueOf c (start_in start) (take i order) o (drop (i + 1) order)) order i no_op within
      (λ of_it reading. absurd (unlike (reads (At order i)) (of_core c (At order i)) reading (eqb-same (At order i).core c of_it) not_))
    where
      unlike : (a b : Bool) → a ≡ true → b ≡ true → (a && b) ≡ false → ⊥
      unlike a b ya yb e = cc (ap₂ (λ (x y : Bool). x && y) ya yb)

      eqb-same : (m n : ℕ) → m ≡ n → (m == n) ≡ true
      eqb-same m n e = eq-eqb m n e

  module _ (next_inside : next ≤ length order) (is : (reads (At order i) && of_core c (At order i)) ≡ true)
      (below : (j : ℕ) → own ≤ j → j < next → store_of c (At order j) ≡ true → (At order j).k < (At order i).k) where
    reading : reads (At order i) ≡ true
    reading = (and_parts (reads (At order i)) (of_core c (At order i)) is).0

    of_it : (At order i).core ≡ c
    of_it = eqb-true (At order i).core c (and_parts (reads (At order i)) (of_core c (At order i)) is).1

    all_below : (j : ℕ) → j < next → store_of c (At order j) ≡ true → (At order j).k < (At order i).k
    all_below j low store = elim (cases_lt j own) [
      | inl less ↦ before j i less (omega arith) within store reading of_it
      | inr more ↦ below j more low store
    ]

    -- the stores noted for this read are before the later ones of its core too
    pub still_before : FailsNowhereIn LoadOpAt order → AreBeforeReads order c i next
    still_before load_op s r low from inside store reads_r of_r = elim (cases_lt i r) [
      | inl later ↦
          let here = from_place (λ (o : Op). LoadOpAt (take r order) o (drop (r + 1) order)) order r no_op inside (load_op r inside) reads_r in
          let there = from_place (λ (o : Op). o.core ≡ (At order r).core → o.k ≤ (At order r).k) (take r order) i no_op (omega (arith, length-take-le r order (omega (arith, inside)), later))
          (each_at (λ (o : Op). o.core ≡ (At order r).core → o.k ≤ (At order r).k) (take r order) i here) in
          let up : (At order i).core ≡ (At order r).core → (At order i).k ≤ (At order r).k
          = subst (λ (o : Op). o.core ≡ (At order r).core → o.k ≤ (At order r).k) (get_or-take r order i no_op later) there in
          omega (arith, all_below s low store, up (of_it ∙ sym of_r))
      | inr same ↦ let e : i ≡ r = omega (arith, from, same) in subst (λ (n : ℕ). (At order s).k < (At order n).k) e (all_below s low store)
    ]

    module _ (has : HasLaterPlaces order c i next places) (size : length start ≡ length places) (lie : LieInRam (length start) order)
        (stops : next < length order → (store_of c (At order next) && nat_le (At order i).k (At order next).k) ≡ true) (store_store : FailsNowhereIn StoreStoreAt order) where
      abbrev IsByte : ℕ → Type 0
      IsByte a = byte_got a (made (At order i)) ≡ byte_before order a (start_in start a) (get_or places (a - ram_first) 0)

      byte_is : (a : ℕ) → touches a (made (At order i)) ≡ true
          → stored a (map made (candidates (take i order) (At order i) (drop (i + 1) order))) (start_in start a) ≡ byte_before order a (start_in start a) (get_or places (a - ram_first) 0)
      byte_is a hit =
          let o = At order i in
          let ram = and_parts (nat_le ram_first o.addr) (nat_le (o.addr + o.len) (ram_first + length start)) (lie i no_op within) in
          let at = and_parts (nat_le o.addr a) (nat_lt a (o.addr + o.len)) hit in
          let first = leb-true ram_first o.addr ram.0 in
          let last = leb-true (o.addr + o.len) (ram_first + length start) ram.1 in
          let low = leb-true o.addr a at.0 in
          let high = ltb-true a (o.addr + o.len) at.1 in
          let back : ram_first + (a - ram_first) ≡ a = omega (arith, first, low) in
          let table : get_or places (a - ram_first) 0 ≡ later_place order c i next (ram_first + (a - ram_first)) = has (a - ram_first) (omega (arith, first, last, low, high, size)) in
          let table_a : get_or places (a - ram_first) 0 ≡ later_place order c i next a = table ∙ ap (later_place order c i next) back in
          read_value order c i next within a (start_in start a) of_it next_inside all_below
          (λ more. (and_parts (store_of c (At order next)) (nat_le (At order i).k (At order next).k) (stops more)).0)
          (λ more. leb-true (At order i).k (At order next).k (and_parts (store_of c (At order next)) (nat_le (At order i).k (At order next).k) (stops more)).1) store_store
          ∙ ap (byte_before order a (start_in start a)) (sym table_a)

      pub right_read : ((a : ℕ) → touches a (made (At order i)) ≡ true → IsByte a) → AtPlace (ValueOf c (start_in start)) order i
      right_read right =
          at_place (λ (o : Op). ValueOf c (start_in start) (take i order) o (drop (i + 1) order)) order i no_op within
          (λ of_c reads_i a hit. right a hit ∙ sym (byte_is a hit))

      pub read_right : AtPlace (ValueOf c (start_in start)) order i → (a : ℕ) → touches a (made (At order i)) ≡ true → IsByte a
      read_right holds a hit =
          from_place (λ (o : Op). ValueOf c (start_in start) (take i order) o (drop (i + 1) order)) order i no_op within holds of_it reading a hit ∙ byte_is a hit

-- what reading the table asks
pub table_within : (order : List Op) (c i j : ℕ) (places : List ℕ) → HasLaterPlaces order c i j places → (x : ℕ) → x < length places → get_or places x 0 ≤ length order
table_within order c i j places has x low = omega (arith, has x low, later_within order c i j (ram_first + x))

pub table_touches : (order : List Op) (c i j : ℕ) (places : List ℕ) → HasLaterPlaces order c i j places → (x : ℕ) → x < length places → 0 < get_or places x 0
    → touches (ram_first + x) (made (At order (get_or places x 0 - 1))) ≡ true
table_touches order c i j places has x low some =
    subst (λ (n : ℕ). touches (ram_first + x) (made (At order (n - 1))) ≡ true) (sym (has x low)) (later_touches order c i j (ram_first + x) (omega (arith, some, has x low)))
