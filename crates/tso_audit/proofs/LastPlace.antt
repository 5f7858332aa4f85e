-- The byte that a reader must read is that of the later of two places: the last store or atomic in memory before it that touches the
-- address, and the last store of its own core with a smaller number that does, wherever that stands.
use Rattle.std.proofs.Common.{◌≡◌, ◌∙◌, ◌<◌, ◌≤◌, ◌+◌, ◌++◌, ◌==◌, ◌&&◌, ◌||◌, ℕ, suc, Bool, true, false, List, [], ◌∷◌, length, filter, map, max, get_or, refl, ap, subst, inl, inr, arith, get_or-append-add}
use Rattle.std.specs.Prelude.{if◌then◌else◌, nat_lt}
use Rattle.std.proofs.lemmas.Bool.{cases_Bool, le-ltb}
use Rattle.std.proofs.lemmas.List.{map-append, get_or_append_left}
use Rattle.lf_model.specs.Operation.{enters, stores, made, touches, byte_put}
use Rattle.lf_model.specs.Value.{stored, own_before, candidates}
use Rattle.lf_model.specs.declared.bus.Entry.{Entry}
use Rattle.lf_model.specs.declared.trace.Op.{Op}
use Rattle.tso_audit.specs.LastPlaces.{place_if, last_place, at_address, byte_before}
use Rattle.tso_thread.specs.ReplayState.{no_op}

-- ---- the last place that passes a test

module _ (order : List Op) (a b : ℕ) where
  -- the operations of a part of the order stand at their places
  abbrev Stands : ℕ → List Op → Type 0
  Stands n os = (j : ℕ) → j < length os → get_or order (n + j) no_op ≡ get_or os j no_op

  stands_rest : (n : ℕ) (o : Op) (os : List Op) → Stands n (o ∷ os) → Stands (n + 1) os
  stands_rest n o os h j low = let e : n + 1 + j ≡ n + suc j = omega arith in rw e (h (suc j) (omega (arith, low)))

  pub last_byte : (p : Op → Bool) (n : ℕ) (os : List Op) (m : ℕ) → m ≤ n → Stands n os
      → stored a (map made (filter p os)) (byte_before order a b m) ≡ byte_before order a b (max m (last_place (at_address a p) n os))
  last_byte p n [] m low stands = ap (byte_before order a b) (omega arith)
  last_byte p n (o ∷ os) m low stands =
      let rest : stored a (map made (filter p os)) (byte_before order a b m) ≡ byte_before order a b (max m (last_place (at_address a p) (n + 1) os))
      = last_byte p (n + 1) os m (omega (arith, low)) (stands_rest n o os stands) in
      let zero_right : n + 0 ≡ n = omega arith in
      let here : get_or order n no_op ≡ o = subst (λ (q : ℕ). get_or order q no_op ≡ o) zero_right (stands 0 (omega arith)) in
      let step : stored a (map made (filter p os)) (byte_put a (made o)) ≡ byte_before order a b (max (suc n) (last_place (at_address a p) (n + 1) os))
      = subst (λ (x : Op). stored a (map made (filter p os)) (byte_put a (made x)) ≡ byte_before order a b (max (suc n) (last_place (at_address a p) (n + 1) os))) here
      (last_byte p (n + 1) os (suc n) (omega arith) (stands_rest n o os stands)) in
      elim (cases_Bool (p o)) [
        | inl passes ↦ elim (cases_Bool (touches a (made o))) [
          | inl hits ↦
              let put : stored a (map made (filter p (o ∷ os))) (byte_before order a b m) ≡ stored a (map made (filter p os)) (byte_put a (made o))
              = rw passes (ap (λ (t : Bool). stored a (map made (filter p os)) (if t then byte_put a (made o) else byte_before order a b m)) hits) in
              let place : place_if (at_address a p) n o ≡ n + 1 = rw (passes, hits) in
              put ∙ (step ∙ ap (byte_before order a b) (omega (arith, low, place)))
          | inr misses ↦
              let left : stored a (map made (filter p (o ∷ os))) (byte_before order a b m) ≡ stored a (map made (filter p os)) (byte_before order a b m)
              = rw passes (ap (λ (t : Bool). stored a (map made (filter p os)) (if t then byte_put a (made o) else byte_before order a b m)) misses) in
              let place : place_if (at_address a p) n o ≡ 0 = rw (passes, misses) in
              left ∙ (rest ∙ ap (byte_before order a b) (omega (arith, place)))
        ]
        | inr fails ↦
            let left : stored a (map made (filter p (o ∷ os))) (byte_before order a b m) ≡ stored a (map made (filter p os)) (byte_before order a b m) = rw fails in
            let place : place_if (at_address a p) n o ≡ 0 = rw fails in
            left ∙ (rest ∙ ap (byte_before order a b) (omega (arith, place)))
      ]

-- ---- the places of lists joined, and of two tests

pub last_append : (t : Op → Bool) (n : ℕ) (xs ys : List Op) → last_place t n (xs ++ ys) ≡ max (last_place t n xs) (last_place t (n + length xs) ys)
last_append t n [] ys = let e : last_place t (n + 0) ys ≡ last_place t n ys = ap (λ (m : ℕ). last_place t m ys) (omega arith) in omega (arith, e)
last_append t n (x ∷ xs) ys =
    let rest : last_place t (n + 1) (xs ++ ys) ≡ max (last_place t (n + 1) xs) (last_place t (n + 1 + length xs) ys) = last_append t (n + 1) xs ys in
    let e : last_place t (n + 1 + length xs) ys ≡ last_place t (n + length (x ∷ xs)) ys = ap (λ (m : ℕ). last_place t m ys) (omega arith) in
    omega (arith, rest, e)

place_low : (t : Op → Bool) (n : ℕ) (o : Op) → place_if t n o ≤ n + 1
place_low t n o = elim (cases_Bool (t o)) [ inl e ↦ rw e (omega arith) | inr e ↦ rw e (omega arith) ]

pub last_low : (t : Op → Bool) (n : ℕ) (os : List Op) → last_place t n os ≤ n + length os
last_low t n [] = omega arith
last_low t n (o ∷ os) = omega (arith, place_low t n o, last_low t (n + 1) os)

pub last_or : (a : ℕ) (p q : Op → Bool) (n : ℕ) (os : List Op)
    → last_place (at_address a (λ o. p o || q o)) n os ≡ max (last_place (at_address a p) n os) (last_place (at_address a q) n os)
last_or a p q n [] = refl
last_or a p q n (o ∷ os) =
    let rest : last_place (at_address a (λ o. p o || q o)) (n + 1) os ≡ max (last_place (at_address a p) (n + 1) os) (last_place (at_address a q) (n + 1) os) = last_or a p q (n + 1) os in
    let here : place_if (at_address a (λ o. p o || q o)) n o ≡ max (place_if (at_address a p) n o) (place_if (at_address a q) n o) = one (p o) (q o) (touches a (made o)) in
    omega (arith, rest, here)
  where
    one : (x y z : Bool) → (if (x || y) && z then n + 1 else 0) ≡ max (if x && z then n + 1 else 0) (if y && z then n + 1 else 0)
    one true true true = omega arith
    one true true false = refl
    one true false true = omega arith
    one true false false = refl
    one false true true = omega arith
    one false true false = refl
    one false false true = refl
    one false false false = refl

stored_append : (a : ℕ) (xs ys : List Entry) (b : ℕ) → stored a (xs ++ ys) b ≡ stored a ys (stored a xs b)
stored_append a [] ys b = refl
stored_append a (x ∷ xs) ys b = stored_append a xs ys (if touches a x then byte_put a x else b)

-- ---- what a reader reads

-- the byte of the last candidate is that before the later of the two places
pub read_byte : (a b : ℕ) (earlier : List Op) (r : Op) (later : List Op)
    → stored a (map made (candidates earlier r later)) b
    ≡ byte_before (earlier ++ (r ∷ later)) a b (max (last_place (at_address a enters) 0 earlier) (last_place (at_address a (own_before r)) 0 (earlier ++ (r ∷ later))))
read_byte a b earlier r later =
    ap (λ es. stored a es b) (map-append made (filter (λ o. enters o || own_before r o) earlier) (filter (own_before r) later))
    ∙ (stored_append a (map made (filter (λ o. enters o || own_before r o) earlier)) (map made (filter (own_before r) later)) b
    ∙ (ap (λ x. stored a (map made (filter (own_before r) later)) x) first ∙ (second ∙ ap (byte_before order a b) places)))
  where
    order : List Op
    order = earlier ++ (r ∷ later)

    all : Op → Bool
    all = at_address a (λ o. enters o || own_before r o)

    own : Op → Bool
    own = at_address a (own_before r)

    middle : ℕ
    middle = max 0 (last_place all 0 earlier)

    front : (j : ℕ) → j < length earlier → get_or order (0 + j) no_op ≡ get_or earlier j no_op
    front j low = let e : 0 + j ≡ j = omega arith in rw e (get_or_append_left earlier (r ∷ later) no_op j low)

    back : (j : ℕ) → j < length later → get_or order (length earlier + 1 + j) no_op ≡ get_or later j no_op
    back j low = let e : length earlier + 1 + j ≡ length earlier + suc j = omega arith in rw e (get_or-append-add earlier (r ∷ later) (suc j) no_op)

    first : stored a (map made (filter (λ o. enters o || own_before r o) earlier)) b ≡ byte_before order a b middle
    first = last_byte order a b (λ o. enters o || own_before r o) 0 earlier 0 (omega arith) front

    second : stored a (map made (filter (own_before r) later)) (byte_before order a b middle) ≡ byte_before order a b (max middle (last_place own (length earlier + 1) later))
    second = last_byte order a b (own_before r) (length earlier + 1) later middle (omega (arith, last_low all 0 earlier)) back

    and_false : (x : Bool) → (x && false) ≡ false
    and_false true = refl
    and_false false = refl

    not_itself : own_before r r ≡ false
    not_itself = let e : nat_lt r.k r.k ≡ false = le-ltb r.k r.k (omega arith) in rw e (and_false (stores r && r.core == r.core))

    places : max middle (last_place own (length earlier + 1) later) ≡ max (last_place (at_address a enters) 0 earlier) (last_place own 0 order)
    places =
        let two : last_place all 0 earlier ≡ max (last_place (at_address a enters) 0 earlier) (last_place own 0 earlier) = last_or a enters (own_before r) 0 earlier in
        let joined : last_place own 0 order ≡ max (last_place own 0 earlier) (last_place own (length earlier) (r ∷ later))
        = subst (λ (n : ℕ). last_place own 0 order ≡ max (last_place own 0 earlier) (last_place own n (r ∷ later))) (omega arith) (last_append own 0 earlier (r ∷ later)) in
        let here : place_if own (length earlier) r ≡ 0 = rw not_itself in
        omega (arith, two, joined, here)
