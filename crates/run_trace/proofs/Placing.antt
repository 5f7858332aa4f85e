-- The loops that make the order: the loads of a core are placed from its cursor on, those of all cores, and then the entries of
-- the log one by one.
use Rattle.std.proofs.Common.{◌≡◌, ◌∙◌, ◌+◌, ◌-◌, ◌<◌, ◌≤◌, ◌&&◌, ◌++◌, ℕ, zero, suc, Bool, true, false, List, [], ◌∷◌, length, take, filter, map, slice_index, slice_index_or, slice_get, slice_set, replicate, Option, Some, None, IfSome, IsSomeAnd, ◌⊎◌, refl, ap, sym, subst, inl, inr, arith, add-one, append_assoc}
use Rattle.std.proofs.lemmas.Bool.{eq-eqb, ne_eqb, cases_eq, cases_lt}
use Rattle.std.proofs.lemmas.List.{append-nil, take_more, take_all, length-map, length-take-le, map-append, length-set, get_or-set_same, get_or-set_other}
use Rattle.std.proofs.lemmas.List.Elements.{filter-append}
use Rattle.std.proofs.lemmas.Option.{slice_get-get_or, slice_get_past, get_or_from_slice_get}
use Rattle.std.specs.Option.{option_map_or}
use Rattle.lf_model.specs.Records.SeenOrder.{is_load}
use Rattle.lf_model.specs.declared.bus.Entry.{Entry}
use Rattle.lf_model.specs.declared.record.CoreRecord.{CoreRecord}
use Rattle.lf_model.specs.declared.trace.Op.{Op}
use Rattle.run_trace.specs.Cursors.{IsReadable, IsCursor, AreCursors, IsListed}
use Rattle.run_trace.specs.Order.{chosen, is_load_at, is_lost_in, loads_at, no_operation, operation_of, woven, order_of}

and_none : (b : Bool) → (b && false) ≡ false
and_none true = refl
and_none false = refl

-- ---- the loads of one core

-- the first k operations of a core are looked at: its loads among them are placed, and none of them had seen more
pub record LoadsPlaced (seen : ℕ) (kept : CoreRecord) (earlier now : List Op) (k : ℕ) : Type 0 where
  pub placed : now ≡ earlier ++ filter (is_load_at seen kept) (take k kept.ops)
  pub seen_most : (i : ℕ) → i < k → slice_index kept.seen i ≤ seen

module _ (seen : ℕ) (kept : CoreRecord) (ok : IsReadable kept) where
  abbrev number_at : (k : ℕ) (d : Op) → k < length kept.ops → (slice_index_or kept.ops k d).k ≡ k
  number_at k d within = subst (λ found. IfSome found (λ (o : Op). o.k ≡ k)) (slice_get-get_or kept.ops k d within) (ok.numbered k)

  -- operation k isn't placed here, if its core had seen another number of entries
  not_here : (k : ℕ) (d : Op) → k < length kept.ops → (slice_index kept.seen k ≡ seen → ⊥) → is_load_at seen kept (slice_index_or kept.ops k d) ≡ false
  not_here k d within other =
      rw (ne_eqb (slice_index kept.seen (slice_index_or kept.ops k d).k) seen (λ same. other (ap (λ n. slice_index kept.seen n) (sym (number_at k d within)) ∙ same)))
      (and_none (is_load (slice_index_or kept.ops k d)))

  here : (k : ℕ) (d : Op) → k < length kept.ops → slice_index kept.seen k ≡ seen → is_load_at seen kept (slice_index_or kept.ops k d) ≡ is_load (slice_index_or kept.ops k d) && true
  here k d within same =
      rw (eq-eqb (slice_index kept.seen (slice_index_or kept.ops k d).k) seen (ap (λ n. slice_index kept.seen n) (number_at k d within) ∙ same)) refl

  one_more : (k : ℕ) (d : Op) → k < length kept.ops
      → filter (is_load_at seen kept) (take (k + 1) kept.ops) ≡ filter (is_load_at seen kept) (take k kept.ops) ++ filter (is_load_at seen kept) (slice_index_or kept.ops k d ∷ [])
  one_more k d within = ap (filter (is_load_at seen kept)) (take_more kept.ops k d within) ∙ filter-append (is_load_at seen kept) (take k kept.ops) (slice_index_or kept.ops k d ∷ [])

  passed_one : (k : ℕ) (d : Op) → k < length kept.ops → is_load_at seen kept (slice_index_or kept.ops k d) ≡ false
      → filter (is_load_at seen kept) (take (k + 1) kept.ops) ≡ filter (is_load_at seen kept) (take k kept.ops)
  passed_one k d within not = one_more k d within ∙ rw not (append-nil (filter (is_load_at seen kept) (take k kept.ops)))

  -- between k and m none is placed here
  none_between : (k n m : ℕ) → m ≡ k + n → m ≤ length kept.ops → ((i : ℕ) → k ≤ i → i < m → slice_index kept.seen i ≡ seen → ⊥)
      → filter (is_load_at seen kept) (take m kept.ops) ≡ filter (is_load_at seen kept) (take k kept.ops)
  none_between k zero m e within others = ap (λ j. filter (is_load_at seen kept) (take j kept.ops)) (omega (arith, e))
  none_between k (suc n) m e within others =
      let last : m ≡ (k + n) + 1 = omega (arith, e, add-one n) in
      let inside : k + n < length kept.ops = omega (arith, last, within) in
      ap (λ j. filter (is_load_at seen kept) (take j kept.ops)) last
      ∙ (passed_one (k + n) no_operation inside (not_here (k + n) no_operation inside (others (k + n) (omega arith) (omega (arith, last))))
      ∙ none_between k n (k + n) refl (omega (arith, inside)) (λ i low high. others i low (omega (arith, high, last))))

  pub loads_start : (from : ℕ) → IsCursor seen kept from → (earlier : List Op) → LoadsPlaced seen kept earlier earlier from
  loads_start from cursor earlier = record {
    placed = sym (append-nil earlier)
        ∙ ap (λ (os : List Op). earlier ++ os) (sym (none_between 0 from from (omega arith) cursor.within (λ i low high same. absurd (omega (arith, same, cursor.before i high)))));
    seen_most = λ i high. omega (arith, cursor.before i high);
  }

  most_more : (k : ℕ) → ((i : ℕ) → i < k → slice_index kept.seen i ≤ seen) → slice_index kept.seen k ≤ seen → (i : ℕ) → i < k + 1 → slice_index kept.seen i ≤ seen
  most_more k most last i high = elim (cases_eq i k) [
    | inl same ↦ subst (λ j. slice_index kept.seen j ≤ seen) (sym same) last
    | inr other ↦ most i (omega (arith, high, other))
  ]

  pub load_taken : (earlier now : List Op) (k : ℕ) (d : Op) → LoadsPlaced seen kept earlier now k → k < length kept.ops → slice_index kept.seen k ≡ seen
      → is_load (slice_index_or kept.ops k d) ≡ true → LoadsPlaced seen kept earlier (now ++ slice_index_or kept.ops k d ∷ []) (k + 1)
  load_taken earlier now k d h within same load = record {
    placed = ap (λ (os : List Op). os ++ slice_index_or kept.ops k d ∷ []) h.placed
        ∙ (append_assoc earlier (filter (is_load_at seen kept) (take k kept.ops)) (slice_index_or kept.ops k d ∷ [])
        ∙ ap (λ (os : List Op). earlier ++ os) (sym (one_more k d within ∙ rw (here k d within same, load) refl)));
    seen_most = most_more k h.seen_most (omega (arith, same));
  }

  pub load_passed : (earlier now : List Op) (k : ℕ) (d : Op) → LoadsPlaced seen kept earlier now k → k < length kept.ops → slice_index kept.seen k ≡ seen
      → is_load (slice_index_or kept.ops k d) ≡ false → LoadsPlaced seen kept earlier now (k + 1)
  load_passed earlier now k d h within same other = record {
    placed = h.placed ∙ ap (λ (os : List Op). earlier ++ os) (sym (passed_one k d within (here k d within same ∙ rw other refl)));
    seen_most = most_more k h.seen_most (omega (arith, same));
  }

  -- the code's step: operation k of those read is looked at, whose core had seen no more entries
  pub step_taken : (os : List Op) (ss : List ℕ) (from : ℕ) (earlier now later : List Op) (k : ℕ) → os ≡ kept.ops → ss ≡ kept.seen → IsCursor seen kept from → from ≤ k
      → k < length os → slice_index ss k ≤ seen → is_load (slice_index_or os k no_operation) ≡ true → LoadsPlaced seen kept earlier now k
      → later ≡ now ++ slice_index_or os k no_operation ∷ [] → LoadsPlaced seen kept earlier later (k + 1)
  step_taken os ss from earlier now later k same_ops same_seen cursor low inside most load h pushed =
      let within : k < length kept.ops = subst (λ (xs : List Op). k < length xs) same_ops inside in
      let most_seen : slice_index kept.seen k ≤ seen = subst (λ (xs : List ℕ). slice_index xs k ≤ seen) same_seen most in
      subst (λ (xs : List Op). LoadsPlaced seen kept earlier xs (k + 1)) (sym (pushed ∙ ap (λ (xs : List Op). now ++ slice_index_or xs k no_operation ∷ []) same_ops))
      (load_taken earlier now k no_operation h within (omega (arith, most_seen, cursor.after k low within))
      (subst (λ (xs : List Op). is_load (slice_index_or xs k no_operation) ≡ true) same_ops load))

  pub step_passed : (os : List Op) (ss : List ℕ) (from : ℕ) (earlier now : List Op) (k : ℕ) → os ≡ kept.ops → ss ≡ kept.seen → IsCursor seen kept from → from ≤ k
      → k < length os → slice_index ss k ≤ seen → is_load (slice_index_or os k no_operation) ≡ false → LoadsPlaced seen kept earlier now k → LoadsPlaced seen kept earlier now (k + 1)
  step_passed os ss from earlier now k same_ops same_seen cursor low inside most load h =
      let within : k < length kept.ops = subst (λ (xs : List Op). k < length xs) same_ops inside in
      let most_seen : slice_index kept.seen k ≤ seen = subst (λ (xs : List ℕ). slice_index xs k ≤ seen) same_seen most in
      load_passed earlier now k no_operation h within (omega (arith, most_seen, cursor.after k low within))
      (subst (λ (xs : List Op). is_load (slice_index_or xs k no_operation) ≡ false) same_ops load)

  pub loads_before_more : (earlier now : List Op) (k : ℕ) → LoadsPlaced seen kept earlier now k → k < length kept.ops → seen < slice_index kept.seen k
      → now ≡ earlier ++ filter (is_load_at seen kept) kept.ops
  loads_before_more earlier now k h within more =
      h.placed
      ∙ ap (λ (os : List Op). earlier ++ os)
      (sym (ap (filter (is_load_at seen kept)) (sym (take_all (length kept.ops) kept.ops (omega arith)))
      ∙ none_between k (length kept.ops - k) (length kept.ops) (omega (arith, within)) (omega arith)
      (λ i low high same. absurd (omega (arith, same, more, ok.rises k i low (omega (arith, high, ok.one_each)))))))

  pub cursor_before_more : (earlier now : List Op) (k : ℕ) → LoadsPlaced seen kept earlier now k → k < length kept.ops → seen < slice_index kept.seen k → IsCursor (seen + 1) kept k
  cursor_before_more earlier now k h within more = record {
    within = omega (arith, within);
    before = λ i high. omega (arith, h.seen_most i high);
    after = λ i low high. omega (arith, more, ok.rises k i low (omega (arith, high, ok.one_each)));
  }

  pub loads_all : (earlier now : List Op) (k : ℕ) → LoadsPlaced seen kept earlier now k → k ≡ length kept.ops → now ≡ earlier ++ filter (is_load_at seen kept) kept.ops
  loads_all earlier now k h all = h.placed ∙ ap (λ (os : List Op). earlier ++ filter (is_load_at seen kept) os) (take_all k kept.ops (omega (arith, all)))

  pub cursor_all : (earlier now : List Op) (k : ℕ) → LoadsPlaced seen kept earlier now k → k ≡ length kept.ops → IsCursor (seen + 1) kept (length kept.ops)
  cursor_all earlier now k h all = record {
    within = omega arith;
    before = λ i high. omega (arith, h.seen_most i (omega (arith, high, all)));
    after = λ i low high. absurd (omega (arith, low, high));
  }

-- ---- the loads of all cores

pub chosen-append : (test : CoreRecord → Op → Bool) (xs ys : List CoreRecord) → chosen test (xs ++ ys) ≡ chosen test xs ++ chosen test ys
chosen-append test [] ys = refl
chosen-append test (x ∷ xs) ys = ap (λ (os : List Op). filter (test x) x.ops ++ os) (chosen-append test xs ys) ∙ sym (append_assoc (filter (test x) x.ops) (chosen test xs) (chosen test ys))

pub chosen_more : (test : CoreRecord → Op → Bool) (records : List CoreRecord) (c : ℕ) (kept : CoreRecord) → c < length records → slice_get records c ≡ Some kept
    → chosen test (take (c + 1) records) ≡ chosen test (take c records) ++ filter (test kept) kept.ops
chosen_more test records c kept within found =
    ap (chosen test) (take_more records c kept within)
    ∙ (chosen-append test (take c records) (slice_index_or records c kept ∷ [])
    ∙ ap (λ (r : CoreRecord). chosen test (take c records) ++ (filter (test r) r.ops ++ [])) (get_or_from_slice_get records c kept kept found)
    ∙ ap (λ (os : List Op). chosen test (take c records) ++ os) (append-nil (filter (test kept) kept.ops)))

-- the loads of the first c cores are placed
pub record CoresPlaced (seen : ℕ) (records : List CoreRecord) (earlier now : List Op) (cursors : List ℕ) (c : ℕ) : Type 0 where
  pub one_each : length cursors ≡ length records
  pub placed : now ≡ earlier ++ chosen (is_load_at seen) (take c records)
  pub done : (i : ℕ) → i < c → IfSome (slice_get records i) (λ kept. IsCursor (seen + 1) kept (slice_index cursors i))
  pub left : (i : ℕ) → c ≤ i → IfSome (slice_get records i) (λ kept. IsCursor seen kept (slice_index cursors i))

module _ (seen : ℕ) (records : List CoreRecord) where
  pub cores_start : (earlier : List Op) (cursors : List ℕ) → length cursors ≡ length records → AreCursors seen records cursors → CoresPlaced seen records earlier earlier cursors 0
  cores_start earlier cursors one_each at = record {
    one_each = one_each;
    placed = sym (append-nil earlier);
    done = λ i high. absurd (omega (arith, high));
    left = λ i low. at i;
  }

  pub cores_more : (earlier now later : List Op) (cursors : List ℕ) (c next : ℕ) (kept : CoreRecord) → CoresPlaced seen records earlier now cursors c
      → c < length records → slice_get records c ≡ Some kept → later ≡ now ++ filter (is_load_at seen kept) kept.ops → IsCursor (seen + 1) kept next
      → CoresPlaced seen records earlier later (slice_set cursors c next) (c + 1)
  cores_more earlier now later cursors c next kept h within found pushed cursor = record {
    one_each = length-set cursors c next ∙ h.one_each;
    placed = pushed
        ∙ (ap (λ (os : List Op). os ++ filter (is_load_at seen kept) kept.ops) h.placed
        ∙ (append_assoc earlier (chosen (is_load_at seen) (take c records)) (filter (is_load_at seen kept) kept.ops)
        ∙ ap (λ (os : List Op). earlier ++ os) (sym (chosen_more (is_load_at seen) records c kept within found))));
    done = λ i high. elim (cases_eq i c) [
      | inl same ↦ rw (same, found) (subst (λ n. IsCursor (seen + 1) kept n) (sym (get_or-set_same cursors c next 0 (omega (arith, within, h.one_each)))) cursor)
      | inr other ↦ subst (λ n. IfSome (slice_get records i) (λ k. IsCursor (seen + 1) k n)) (sym (get_or-set_other cursors c i next 0 other)) (h.done i (omega (arith, high, other)))
    ];
    left = λ i low. subst (λ n. IfSome (slice_get records i) (λ k. IsCursor seen k n)) (sym (get_or-set_other cursors c i next 0 (λ same. absurd (omega (arith, same, low))))) (h.left i (omega (arith, low)));
  }

  pub cores_all : (earlier now : List Op) (cursors : List ℕ) (c : ℕ) → CoresPlaced seen records earlier now cursors c → length records ≤ c → now ≡ earlier ++ loads_at records seen
  cores_all earlier now cursors c h all = h.placed ∙ ap (λ (rs : List CoreRecord). earlier ++ chosen (is_load_at seen) rs) (take_all c records all)

  cursor_by : (i : ℕ) (found : Option CoreRecord) (n : ℕ) → slice_get records i ≡ found → (i < length records → IfSome found (λ kept. IsCursor (seen + 1) kept n)) → IfSome found (λ kept. IsCursor (seen + 1) kept n)
  cursor_by i None n e h = tt
  cursor_by i (Some kept) n e h = elim (cases_within i) [
    | inl within ↦ h within
    | inr past ↦ absurd (none_is_some (sym (slice_get_past records i past) ∙ e))
  ]
    where
      none_is_some : {k : CoreRecord} → None ≡ Some k → ⊥
      none_is_some e = cc

      cases_within : (j : ℕ) → (j < length records) ⊎ (length records ≤ j)
      cases_within j = cases_lt j (length records)

  pub cursors_all : (earlier now : List Op) (cursors : List ℕ) (c : ℕ) → CoresPlaced seen records earlier now cursors c → length records ≤ c → AreCursors (seen + 1) records cursors
  cursors_all earlier now cursors c h all i = cursor_by i (slice_get records i) (slice_index cursors i) refl (λ within. h.done i (omega (arith, within, all)))

-- ---- all places of the log

abbrev pub woven_before : {X : Type 0} → (ℕ → List X) → ℕ → List X → List X
woven_before at place [] = []
woven_before at place (x ∷ xs) = at place ++ x ∷ woven_before at (place + 1) xs

pub woven_before_more : {X : Type 0} (at : ℕ → List X) (place : ℕ) (xs : List X) (x : X) (n : ℕ) → n ≡ place + length xs
    → woven_before at place (xs ++ x ∷ []) ≡ woven_before at place xs ++ (at n ++ x ∷ [])
woven_before_more {X} at place [] x n e = ap (λ m. at m ++ x ∷ []) (omega (arith, e))
woven_before_more {X} at place (y ∷ xs) x n e =
    ap (λ (zs : List X). at place ++ y ∷ zs) (woven_before_more at (place + 1) xs x n (omega (arith, e, add-one (length xs))))
    ∙ sym (append_assoc (at place) (y ∷ woven_before at (place + 1) xs) (at n ++ x ∷ []))

pub woven_by_before : {X : Type 0} (at : ℕ → List X) (place : ℕ) (xs : List X) (n : ℕ) → n ≡ place + length xs → woven at place xs ≡ woven_before at place xs ++ at n
woven_by_before {X} at place [] n e = ap at (omega (arith, e))
woven_by_before {X} at place (y ∷ xs) n e =
    ap (λ (zs : List X). at place ++ y ∷ zs) (woven_by_before at (place + 1) xs n (omega (arith, e, add-one (length xs))))
    ∙ sym (append_assoc (at place) (y ∷ woven_before at (place + 1) xs) (at n))

-- the operation that the code reads for an entry
pub operation_read : (records : List CoreRecord) (log : List Entry) (place : ℕ) (e : Entry) (kept : CoreRecord) (ops : List Op) (d : Op) → ops ≡ (slice_index_or records e.core kept).ops
    → slice_get log place ≡ Some e → IsListed records log place → slice_index_or ops e.k d ≡ operation_of records e
operation_read records log place e kept ops d same at listed = by_found (slice_get records e.core) refl
    (subst (λ found. IfSome found (λ (x : Entry). IsSomeAnd (slice_get records x.core) (λ (k : CoreRecord). x.k < length k.ops))) at listed)
  where
    with_kept : (k : CoreRecord) → slice_get records e.core ≡ Some k → e.k < length k.ops → slice_index_or ops e.k d ≡ operation_of records e
    with_kept k found within =
        let is : slice_index_or records e.core kept ≡ k = get_or_from_slice_get records e.core k kept found in
        ap (λ (os : List Op). slice_index_or os e.k d) (same ∙ ap (λ (j : CoreRecord). j.ops) is)
        ∙ (sym (get_or_from_slice_get k.ops e.k (slice_index_or k.ops e.k d) no_operation (slice_get-get_or k.ops e.k d within))
        ∙ ap (λ o. slice_index_or (option_map_or (λ (j : CoreRecord). j.ops) o []) e.k no_operation) (sym found))

    by_found : (found : Option CoreRecord) → slice_get records e.core ≡ found → IsSomeAnd found (λ (k : CoreRecord). e.k < length k.ops) → slice_index_or ops e.k d ≡ operation_of records e
    by_found None q within = absurd within
    by_found (Some k) q within = with_kept k q within

-- the entries of the first places of the log are placed, with the loads before each of them
pub record Weaving (records : List CoreRecord) (log : List Entry) (order : List Op) (cursors : List ℕ) (place : ℕ) : Type 0 where
  pub one_each : length cursors ≡ length records
  pub cursors_at : AreCursors place records cursors
  pub placed : order ≡ woven_before (loads_at records) 0 (map (operation_of records) (take place log))

zeros : (n c : ℕ) → slice_index (replicate n 0) c ≡ 0
zeros zero c = refl
zeros (suc n) zero = refl
zeros (suc n) (suc c) = zeros n c

module _ (records : List CoreRecord) (log : List Entry) where
  cursor_start : (found : Option CoreRecord) (n : ℕ) → n ≡ 0 → IfSome found (λ kept. IsCursor 0 kept n)
  cursor_start None n e = tt
  cursor_start (Some kept) n e = record { within = omega (arith, e); before = λ i high. absurd (omega (arith, high, e)); after = λ i low high. omega arith }

  pub weaving_start : (cursors : List ℕ) → cursors ≡ replicate (length records) 0 → length cursors ≡ length records → Weaving records log [] cursors 0
  weaving_start cursors zeroed one_each = record {
    one_each = one_each;
    cursors_at = λ c. cursor_start (slice_get records c) (slice_index cursors c) (ap (λ (xs : List ℕ). slice_index xs c) zeroed ∙ zeros (length records) c);
    placed = refl;
  }

  pub weaving_more : (order loaded later : List Op) (cursors next : List ℕ) (place : ℕ) (e : Entry) → Weaving records log order cursors place → place < length log
      → slice_get log place ≡ Some e → length next ≡ length records → AreCursors (place + 1) records next → loaded ≡ order ++ loads_at records place
      → later ≡ loaded ++ operation_of records e ∷ [] → Weaving records log later next (place + 1)
  weaving_more order loaded later cursors next place e h within found one_each at loads pushed = record {
    one_each = one_each;
    cursors_at = at;
    placed = pushed
        ∙ (ap (λ (os : List Op). os ++ operation_of records e ∷ []) loads
        ∙ (append_assoc order (loads_at records place) (operation_of records e ∷ [])
        ∙ (ap (λ (os : List Op). os ++ (loads_at records place ++ operation_of records e ∷ [])) h.placed
        ∙ (sym (woven_before_more (loads_at records) 0 (map (operation_of records) (take place log)) (operation_of records e) place (omega (arith, length_first)))
        ∙ ap (λ (os : List Op). woven_before (loads_at records) 0 os) (sym mapped)))));
  }
    where
      length_first : length (map (operation_of records) (take place log)) ≡ place
      length_first = length-map (take place log) (operation_of records) ∙ length-take-le place log (omega (arith, within))

      mapped : map (operation_of records) (take (place + 1) log) ≡ map (operation_of records) (take place log) ++ operation_of records e ∷ []
      mapped = ap (map (operation_of records)) (take_more log place e within)
          ∙ (map-append (operation_of records) (take place log) (slice_index_or log place e ∷ [])
          ∙ ap (λ (x : Entry). map (operation_of records) (take place log) ++ operation_of records x ∷ []) (get_or_from_slice_get log place e e found))

  pub weaving_all : (order loaded later : List Op) (cursors : List ℕ) (place : ℕ) → Weaving records log order cursors place → place ≡ length log
      → loaded ≡ order ++ loads_at records place → later ≡ loaded ++ chosen is_lost_in records → later ≡ order_of records log
  weaving_all order loaded later cursors place h all loads lost =
      lost
      ∙ ap (λ (os : List Op). os ++ chosen is_lost_in records)
      (loads
      ∙ (ap (λ (os : List Op). os ++ loads_at records place)
      (h.placed ∙ ap (λ (es : List Entry). woven_before (loads_at records) 0 (map (operation_of records) es)) (take_all place log (omega (arith, all))))
      ∙ sym (woven_by_before (loads_at records) 0 (map (operation_of records) log) place (omega (arith, all, length-map log (operation_of records))))))
