-- Each load and atomic of the order reads what its candidates leave: they are the entries that its core had seen, with the stores
-- that waited after them.
use Rattle.std.proofs.Common.{◌≡◌, ◌∙◌, ◌+◌, ◌<◌, ◌≤◌, ◌++◌, ◌&&◌, ◌||◌, ◌==◌, ℕ, Bool, true, false, List, [], ◌∷◌, length, take, drop, filter, map, count_by, slice_get, slice_index, Some, IfSome, ◌⊎◌, refl, ap, sym, subst, inl, inr, arith, append_assoc}
use Rattle.std.proofs.lemmas.Bool.{cases_eq, and_parts, eqb-true, lt-ltb}
use Rattle.std.proofs.lemmas.List.{append-nil, take_at, drop_at, length-map, map-append}
use Rattle.std.proofs.lemmas.List.Elements.{filter-append}
use Rattle.std.proofs.lemmas.List.Sums.{length-filter}
use Rattle.std.proofs.lemmas.Option.{slice_get-map, slice_get_within}
use Rattle.std.specs.List.{AllByRecursion as Each}
use Rattle.std.specs.Option.{option_map}
use Rattle.lf_model.proofs.EachLemmas.{each_first, each_second, each_weaker, each_both, each_unmap, filter_none, filter_same, filter_map_same}
use Rattle.lf_model.specs.Operation.{of_core, enters, stores, is_lost, kind_reads, made}
use Rattle.lf_model.specs.Records.SeenOrder.{is_load, is_entry_of, front, waiting, LostIsLast}
use Rattle.lf_model.specs.Value.{own_before, candidates, Reads, ValueAt}
use Rattle.lf_model.specs.declared.bus.Entry.{Entry}
use Rattle.lf_model.specs.declared.record.CoreRecord.{CoreRecord}
use Rattle.lf_model.specs.declared.trace.Op.{Op}
use Rattle.run_trace.specs.Order.{chosen, is_load_at, is_lost_in, loads_at, woven}
use Rattle.run_trace.proofs.Placing.{woven_before}
use Rattle.run_trace.proofs.Lists.{split_append, filter_all, filter_filter, filter_swap, each_pass, each_filter, each_all}
use Rattle.run_trace.proofs.Woven.{AtAPlace, IsEntry, woven_after, split_woven, filter_woven, filter_before, filter_after}
use Rattle.run_trace.proofs.Numbers.{Rising, below, first_below, not_below, stores_parts, at_number, larger_after, rising_filter}
use Rattle.run_trace.proofs.Cores.{chosen_pass, own_chosen, is_chosen}
use Rattle.run_trace.proofs.Members.{AreTogether, OfCore, EntryOf, load_enters_not, load_stores_not, enters_stores, lost_stores, lost_reads_not, reads_made, of_core_found, at_part, entry_of}

-- the test of the candidates that stand before the reader
abbrev pub counts : Op → Op → Bool
counts r o = enters o || own_before r o

-- ---- what no load passes

own_not_load : (r o : Op) → is_load o ≡ true → own_before r o ≡ false
own_not_load r o load = rw (load_stores_not o load) refl

counts_not_load : (r o : Op) → is_load o ≡ true → counts r o ≡ false
counts_not_load r o load = rw (load_enters_not o load) (own_not_load r o load)

counts_entry : (r o : Op) → enters o ≡ true → counts r o ≡ true
counts_entry r o is = rw is refl

-- of stores, those of the reader's core with lower numbers
own_parts : (r : Op) (xs : List Op) → Each (λ (o : Op). stores o ≡ true) xs → filter (own_before r) xs ≡ filter (below r.k) (filter (of_core r.core) xs)
own_parts r xs storing =
    filter_same (own_before r) (λ o. of_core r.core o && below r.k o) xs (each_weaker (λ (o : Op). stores o ≡ true) (λ (o : Op). own_before r o ≡ (of_core r.core o && below r.k o)) xs (λ o is. rw is refl) storing)
    ∙ sym (filter_filter (below r.k) (of_core r.core) xs)

own_later : (r o : Op) → r.k < o.k → own_before r o ≡ false
own_later r o high = rw (not_below o.k r.k (omega (arith, high))) (and_none (stores o && o.core == r.core))
  where
    and_none : (b : Bool) → (b && false) ≡ false
    and_none true = refl
    and_none false = refl

length_made : (c : ℕ) (xs : List Op) → count_by (is_entry_of c) (map made xs) ≡ length (filter (of_core c) xs)
length_made c xs =
    sym (length-filter (is_entry_of c) (map made xs))
    ∙ (ap (λ (es : List Entry). length es) (sym (filter_map_same (of_core c) (is_entry_of c) made xs (each_all (λ (o : Op). of_core c o ≡ is_entry_of c (made o)) xs (λ o. refl))))
    ∙ length-map (filter (of_core c) xs) made)

module _ (initial : ℕ → ℕ) (records : List CoreRecord) (log : List Op) (h : AreTogether initial records log) where
  abbrev at : ℕ → List Op
  at = loads_at records

  abbrev lost : List Op
  lost = chosen is_lost_in records

  -- each of a place is a load, and each of the last ones a lost store
  pub loads_load : (i : ℕ) → Each (λ (o : Op). is_load o ≡ true) (loads_at records i)
  loads_load i = chosen_pass (is_load_at i) (λ (o : Op). is_load o ≡ true) (λ kept o is. (and_parts (is_load o) (slice_index kept.seen o.k == i) is).0) records

  pub lost_lost : Each (λ (o : Op). is_lost o ≡ true) (chosen is_lost_in records)
  lost_lost = chosen_pass is_lost_in (λ (o : Op). is_lost o ≡ true) (λ kept o is. is) records

  pub none_of_loads : (p : Op → Bool) → ((o : Op) → is_load o ≡ true → p o ≡ false) → (i : ℕ) → filter p (loads_at records i) ≡ []
  none_of_loads p not i = filter_none p (loads_at records i) (each_weaker (λ (o : Op). is_load o ≡ true) (λ (o : Op). p o ≡ false) (loads_at records i) not (loads_load i))

  -- the candidates before a place
  counted : (r : Op) (ahead left back : List Op) → log ≡ ahead ++ back → Each (λ (o : Op). is_load o ≡ true) left → filter (counts r) (woven_before (loads_at records) 0 ahead ++ left) ≡ ahead
  counted r ahead left back e loads =
      filter-append (counts r) (woven_before (loads_at records) 0 ahead) left
      ∙ (ap (λ (os : List Op). filter (counts r) (woven_before (loads_at records) 0 ahead) ++ os) (filter_none (counts r) left (each_weaker (λ (o : Op). is_load o ≡ true) (λ (o : Op). counts r o ≡ false) left (counts_not_load r) loads))
      ∙ (append-nil (filter (counts r) (woven_before (loads_at records) 0 ahead))
      ∙ (filter_before (loads_at records) (counts r) (none_of_loads (counts r) (counts_not_load r)) 0 ahead
      ∙ filter_all (counts r) ahead (each_weaker (λ (o : Op). enters o ≡ true) (λ (o : Op). counts r o ≡ true) ahead (counts_entry r)
      (each_first (λ (o : Op). enters o ≡ true) ahead back (subst (λ (os : List Op). Each (λ (o : Op). enters o ≡ true) os) e h.enter))))))

  pub first_made : (ahead back : List Op) → log ≡ ahead ++ back → (n : ℕ) → n ≡ length ahead → take n (map made log) ≡ map made ahead
  first_made ahead back parts n e =
      ap (λ (os : List Op). take n (map made os)) parts
      ∙ (ap (λ (es : List Entry). take n es) (map-append made ahead back)
      ∙ take_at (map made ahead) (map made back) n (length-map ahead made ∙ sym e))

  -- ---- a load

  abbrev own_back : Op → List Op → List Op
  own_back r back = filter (own_before r) back ++ filter (own_before r) (chosen is_lost_in records)

  load_later : (r : Op) (right back : List Op) (n : ℕ) → Each (λ (o : Op). is_load o ≡ true) right
      → filter (own_before r) ((right ++ woven_after (loads_at records) n back) ++ chosen is_lost_in records) ≡ own_back r back
  load_later r right back n loads =
      filter-append (own_before r) (right ++ woven_after (loads_at records) n back) (chosen is_lost_in records)
      ∙ ap (λ (os : List Op). os ++ filter (own_before r) (chosen is_lost_in records))
      (filter-append (own_before r) right (woven_after (loads_at records) n back)
      ∙ (ap (λ (os : List Op). os ++ filter (own_before r) (woven_after (loads_at records) n back))
      (filter_none (own_before r) right (each_weaker (λ (o : Op). is_load o ≡ true) (λ (o : Op). own_before r o ≡ false) right (own_not_load r) loads))
      ∙ filter_after (loads_at records) (own_before r) (none_of_loads (own_before r) (own_not_load r)) n back))

  -- the own stores with lower numbers are those in the entries seen, and then those that waited
  module _ (r : Op) (kept : CoreRecord) (m : OfCore initial records log h r kept) (found : slice_get kept.ops r.k ≡ Some r) (load : is_load r ≡ true)
      (ahead back : List Op) (parts : log ≡ ahead ++ back) (seen : slice_index kept.seen r.k ≡ length ahead) where
    own_split : filter enters kept.ops ≡ filter (of_core r.core) ahead ++ filter (of_core r.core) back
    own_split = sym m.entries ∙ (ap (filter (of_core r.core)) parts ∙ filter-append (of_core r.core) ahead back)

    within : r.k < length kept.ops
    within = slice_get_within kept.ops r.k r found

    front_is : front (map made log) kept.seen r.k ≡ map made ahead
    front_is = first_made ahead back parts (slice_index kept.seen r.k) seen

    -- each own entry that was seen has a lower number
    strictly : (e : Op) → (slice_get kept.ops e.k ≡ Some e) × (enters e ≡ true) → e.k ≤ r.k → below r.k e ≡ true
    strictly e is le = elim (cases_eq e.k r.k) [
      | inl same ↦ absurd (no_entry (sym (load_enters_not r load) ∙ ap enters (only (sym found ∙ (ap (λ j. slice_get kept.ops j) (sym same) ∙ is.0))) ∙ is.1))
      | inr other ↦ lt-ltb e.k r.k (omega (arith, le, other))
    ]
      where
        only : {a b : Op} → Some a ≡ Some b → a ≡ b
        only e = cc

        no_entry : false ≡ true → ⊥
        no_entry e = cc

    own_ahead : Each (λ (e : Op). (slice_get kept.ops e.k ≡ Some e) × (enters e ≡ true)) (filter (of_core r.core) ahead)
    own_ahead = each_first (λ (e : Op). (slice_get kept.ops e.k ≡ Some e) × (enters e ≡ true)) (filter (of_core r.core) ahead) (filter (of_core r.core) back)
        (subst (λ (os : List Op). Each (λ (e : Op). (slice_get kept.ops e.k ≡ Some e) × (enters e ≡ true)) os) own_split
        (each_both (λ (e : Op). slice_get kept.ops e.k ≡ Some e) (λ (e : Op). enters e ≡ true) (λ (e : Op). (slice_get kept.ops e.k ≡ Some e) × (enters e ≡ true)) (filter enters kept.ops) (λ e f g. (f, g))
        (each_filter (λ (e : Op). slice_get kept.ops e.k ≡ Some e) enters kept.ops (at_number kept.ops m.numbered)) (each_pass enters kept.ops)))

    not_later : Each (λ (e : Op). e.k ≤ r.k) (filter (of_core r.core) ahead)
    not_later = each_both (λ (e : Op). e.core ≡ r.core → e.k ≤ r.k) (λ (e : Op). of_core r.core e ≡ true) (λ (e : Op). e.k ≤ r.k) (filter (of_core r.core) ahead)
        (λ e f own. f (eqb-true e.core r.core own))
        (each_filter (λ (e : Op). e.core ≡ r.core → e.k ≤ r.k) (of_core r.core) ahead
        (each_unmap (λ (e : Entry). e.core ≡ r.core → e.k ≤ r.k) made ahead (subst (λ (es : List Entry). Each (λ (e : Entry). e.core ≡ r.core → e.k ≤ r.k) es) front_is (m.seen.earlier r.k within))))
        (each_pass (of_core r.core) ahead)

    all_below : filter (below r.k) (filter (of_core r.core) ahead) ≡ filter (of_core r.core) ahead
    all_below = filter_all (below r.k) (filter (of_core r.core) ahead)
        (each_both (λ (e : Op). (slice_get kept.ops e.k ≡ Some e) × (enters e ≡ true)) (λ (e : Op). e.k ≤ r.k) (λ (e : Op). below r.k e ≡ true) (filter (of_core r.core) ahead) strictly own_ahead not_later)

    lost_own : filter (of_core r.core) (chosen is_lost_in records) ≡ filter is_lost kept.ops
    lost_own = own_chosen is_lost_in 0 r.core r.core records (omega arith) kept m.found h.own

    back_own : filter (below r.k) (filter (of_core r.core) back) ++ filter (below r.k) (filter is_lost kept.ops) ≡ own_back r back
    back_own = sym (two (own_parts r back (each_weaker (λ (o : Op). enters o ≡ true) (λ (o : Op). stores o ≡ true) back enters_stores
        (each_second (λ (o : Op). enters o ≡ true) ahead back (subst (λ (os : List Op). Each (λ (o : Op). enters o ≡ true) os) parts h.enter))))
        (own_parts r (chosen is_lost_in records) (each_weaker (λ (o : Op). is_lost o ≡ true) (λ (o : Op). stores o ≡ true) (chosen is_lost_in records) lost_stores lost_lost)
        ∙ ap (filter (below r.k)) lost_own))
      where
        two : {xs xs' ys ys' : List Op} → xs ≡ xs' → ys ≡ ys' → xs ++ ys ≡ xs' ++ ys'
        two p q = rw (p, q) refl

    own_stores : filter stores (take r.k kept.ops) ≡ filter (of_core r.core) ahead ++ own_back r back
    own_stores =
        ap (filter stores) (sym (first_below kept.ops 0 r.k r.k (omega arith) m.numbered))
        ∙ (filter_swap stores (below r.k) kept.ops
        ∙ (ap (filter (below r.k)) (stores_parts kept.ops m.lost_last)
        ∙ (filter-append (below r.k) (filter enters kept.ops) (filter is_lost kept.ops)
        ∙ (ap (λ (os : List Op). filter (below r.k) os ++ filter (below r.k) (filter is_lost kept.ops)) own_split
        ∙ (ap (λ (os : List Op). os ++ filter (below r.k) (filter is_lost kept.ops)) (filter-append (below r.k) (filter (of_core r.core) ahead) (filter (of_core r.core) back))
        ∙ (append_assoc (filter (below r.k) (filter (of_core r.core) ahead)) (filter (below r.k) (filter (of_core r.core) back)) (filter (below r.k) (filter is_lost kept.ops))
        ∙ (ap (λ (os : List Op). os ++ (filter (below r.k) (filter (of_core r.core) back) ++ filter (below r.k) (filter is_lost kept.ops))) all_below
        ∙ ap (λ (os : List Op). filter (of_core r.core) ahead ++ os) back_own)))))))

    waits : waiting r.core kept.ops r.k (front (map made log) kept.seen r.k) ≡ map made (own_back r back)
    waits =
        ap (λ (es : List Entry). waiting r.core kept.ops r.k es) front_is
        ∙ (ap (λ (os : List Op). map made (drop (count_by (is_entry_of r.core) (map made ahead)) os)) own_stores
        ∙ ap (map made) (drop_at (filter (of_core r.core) ahead) (own_back r back) (count_by (is_entry_of r.core) (map made ahead)) (sym (length_made r.core ahead))))

    pub load_reads : Reads initial (made r) (map made (ahead ++ own_back r back))
    load_reads =
        subst (λ (es : List Entry). Reads initial (made r) es) (two front_is waits ∙ sym (map-append made ahead (own_back r back)))
        (subst (λ o. IfSome o (λ (x : Op). is_load x ≡ true → Reads initial (made x) (front (map made log) kept.seen r.k ++ waiting r.core kept.ops r.k (front (map made log) kept.seen r.k)))) found (m.seen.loads r.k within) load)
      where
        two : {xs xs' ys ys' : List Entry} → xs ≡ xs' → ys ≡ ys' → xs ++ ys ≡ xs' ++ ys'
        two p q = rw (p, q) refl

  -- a load at a place of the order
  load_value : (r : Op) (pre post : List Op) → AtAPlace (loads_at records) 0 log pre r post → ValueAt initial pre r (post ++ chosen is_lost_in records)
  load_value r pre post p reading =
      let own = is_chosen (is_load_at p.n) records h.own r p.left p.right p.here in
      let passes = and_parts (is_load r) (slice_index own.kept.seen r.k == p.n) own.passes in
      let m = of_core_found initial records log h r own.kept own.found in
      let found = at_part initial records log h r own.kept m (is_load_at p.n own.kept) (filter (of_core r.core) p.left) (filter (of_core r.core) p.right) own.parts in
      let loads = subst (λ (os : List Op). Each (λ (o : Op). is_load o ≡ true) os) p.here (loads_load p.n) in
      let left = each_first (λ (o : Op). is_load o ≡ true) p.left (r ∷ p.right) loads in
      let right = each_second (λ (o : Op). is_load o ≡ true) p.left (r ∷ p.right) loads in
      let all : candidates pre r (post ++ chosen is_lost_in records) ≡ p.front ++ own_back r p.back
      = two (ap (filter (counts r)) p.pre_is ∙ counted r p.front p.left p.back p.parts left)
      (ap (λ (os : List Op). filter (own_before r) (os ++ chosen is_lost_in records)) p.post_is ∙ load_later r p.right p.back p.n right.1) in
      subst (λ (os : List Op). Reads initial (made r) (map made os)) (sym all)
      (load_reads r own.kept m found passes.0 p.front p.back p.parts (eqb-true (slice_index own.kept.seen r.k) p.n passes.1 ∙ (p.n_is ∙ omega arith)))
    where
      two : {xs xs' ys ys' : List Op} → xs ≡ xs' → ys ≡ ys' → xs ++ ys ≡ xs' ++ ys'
      two p q = rw (p, q) refl

  -- ---- an atomic

  -- an own entry has a lower number than those after it, and so than the lost stores
  none_own_later : (r : Op) (ahead back : List Op) → log ≡ ahead ++ (r ∷ back) → EntryOf initial records log h r ahead back → own_back r back ≡ []
  none_own_later r ahead back parts own = two back_none lost_none
    where
      two : {xs ys : List Op} → xs ≡ [] → ys ≡ [] → xs ++ ys ≡ []
      two p q = rw (p, q) refl

      larger : Each (λ (o : Op). r.k < o.k) (filter (of_core r.core) back)
      larger = larger_after 0 (filter (of_core r.core) ahead) r (filter (of_core r.core) back) (subst (λ (os : List Op). Rising 0 os) own.parts (rising_filter enters 0 0 own.kept.ops (omega arith) own.member.numbered))

      back_none : filter (own_before r) back ≡ []
      back_none =
          own_parts r back (each_weaker (λ (o : Op). enters o ≡ true) (λ (o : Op). stores o ≡ true) back enters_stores
          (each_second (λ (o : Op). enters o ≡ true) ahead (r ∷ back) (subst (λ (os : List Op). Each (λ (o : Op). enters o ≡ true) os) parts h.enter)).1)
          ∙ filter_none (below r.k) (filter (of_core r.core) back) (each_weaker (λ (o : Op). r.k < o.k) (λ (o : Op). below r.k o ≡ false) (filter (of_core r.core) back) (λ o high. not_below o.k r.k (omega (arith, high))) larger)

      member : (x : Op) → Each (λ (o : Op). enters o ≡ true → o.k < x.k) own.kept.ops → r.k < x.k
      member x all =
          (each_second (λ (o : Op). o.k < x.k) (filter (of_core r.core) ahead) (r ∷ filter (of_core r.core) back)
          (subst (λ (os : List Op). Each (λ (o : Op). o.k < x.k) os) own.parts
          (each_both (λ (o : Op). enters o ≡ true → o.k < x.k) (λ (o : Op). enters o ≡ true) (λ (o : Op). o.k < x.k) (filter enters own.kept.ops) (λ o f g. f g)
          (each_filter (λ (o : Op). enters o ≡ true → o.k < x.k) enters own.kept.ops all) (each_pass enters own.kept.ops)))).0

      lost_later : Each (λ (x : Op). below r.k x ≡ false) (filter is_lost own.kept.ops)
      lost_later = each_both (LostIsLast own.kept.ops) (λ (x : Op). is_lost x ≡ true) (λ (x : Op). below r.k x ≡ false) (filter is_lost own.kept.ops)
          (λ x f is. not_below x.k r.k (omega (arith, member x (f is)))) (each_filter (LostIsLast own.kept.ops) is_lost own.kept.ops own.member.seen.lost_last) (each_pass is_lost own.kept.ops)

      lost_none : filter (own_before r) (chosen is_lost_in records) ≡ []
      lost_none =
          own_parts r (chosen is_lost_in records) (each_weaker (λ (o : Op). is_lost o ≡ true) (λ (o : Op). stores o ≡ true) (chosen is_lost_in records) lost_stores lost_lost)
          ∙ (ap (filter (below r.k)) (own_chosen is_lost_in 0 r.core r.core records (omega arith) own.kept own.member.found h.own)
          ∙ filter_none (below r.k) (filter is_lost own.kept.ops) lost_later)

  entry_later : (r : Op) (back : List Op) (n : ℕ) → filter (own_before r) (woven (loads_at records) n back ++ chosen is_lost_in records) ≡ own_back r back
  entry_later r back n =
      filter-append (own_before r) (woven (loads_at records) n back) (chosen is_lost_in records)
      ∙ ap (λ (os : List Op). os ++ filter (own_before r) (chosen is_lost_in records)) (filter_woven (loads_at records) (own_before r) (none_of_loads (own_before r) (own_not_load r)) n back)

  pub slice_get_mid : {X : Type 0} (xs : List X) (y : X) (ys : List X) → slice_get (xs ++ (y ∷ ys)) (length xs) ≡ Some y
  slice_get_mid {X} [] y ys = refl
  slice_get_mid {X} (x ∷ xs) y ys = slice_get_mid xs y ys

  entry_value : (r : Op) (pre post : List Op) → IsEntry (loads_at records) 0 log pre r post → ValueAt initial pre r (post ++ chosen is_lost_in records)
  entry_value r pre post p reading =
      let own = entry_of initial records log h r p.front p.back p.parts in
      let found : slice_get (map made log) (length p.front) ≡ Some (made r)
      = slice_get-map made log (length p.front) ∙ ap (option_map made) (ap (λ (os : List Op). slice_get os (length p.front)) p.parts ∙ slice_get_mid p.front r p.back) in
      let first = first_made p.front (r ∷ p.back) p.parts (length p.front) refl in
      let read = subst (λ o. IfSome o (λ (e : Entry). e.core ≡ r.core → kind_reads e.kind ≡ true → Reads initial e (take (length p.front) (map made log)))) found
      (own.member.seen.atomics (length p.front) (slice_get_within (map made log) (length p.front) (made r) found)) refl (reads_made r reading) in
      let all : candidates pre r (post ++ chosen is_lost_in records) ≡ p.front
      = two (ap (filter (counts r)) p.pre_is ∙ counted r p.front (loads_at records p.n) (r ∷ p.back) p.parts (loads_load p.n))
      (ap (λ (os : List Op). filter (own_before r) (os ++ chosen is_lost_in records)) p.post_is ∙ (entry_later r p.back (p.n + 1) ∙ none_own_later r p.front p.back p.parts own)) in
      subst (λ (os : List Op). Reads initial (made r) (map made os)) (sym all) (subst (λ (es : List Entry). Reads initial (made r) es) first read)
    where
      two : {xs xs' ys : List Op} → xs ≡ xs' → ys ≡ [] → xs ++ ys ≡ xs'
      two p q = rw (p, q) (append-nil _)

  -- each that reads, at each split of the order
  pub value_at : (pre post : List Op) (r : Op) → woven (loads_at records) 0 log ++ chosen is_lost_in records ≡ pre ++ (r ∷ post) → ValueAt initial pre r post
  value_at pre post r e = elim (split_append (woven (loads_at records) 0 log) (chosen is_lost_in records) pre r post e) [
    | inl first ↦ subst (λ (os : List Op). ValueAt initial pre r os) (sym first.after) (in_woven first.mid (split_woven (loads_at records) 0 log pre r first.mid first.first))
    | inr second ↦ λ reading. absurd (no_read (sym (lost_reads_not r (is_one second.mid second.second)) ∙ reading))
  ]
    where
      in_woven : (mid : List Op) → AtAPlace (loads_at records) 0 log pre r mid ⊎ IsEntry (loads_at records) 0 log pre r mid → ValueAt initial pre r (mid ++ chosen is_lost_in records)
      in_woven mid (inl place) = load_value r pre mid place
      in_woven mid (inr entry) = entry_value r pre mid entry

      is_one : (mid : List Op) → chosen is_lost_in records ≡ mid ++ (r ∷ post) → is_lost r ≡ true
      is_one mid q = (each_second (λ (o : Op). is_lost o ≡ true) mid (r ∷ post) (subst (λ (os : List Op). Each (λ (o : Op). is_lost o ≡ true) os) q lost_lost)).0

      no_read : false ≡ true → ⊥
      no_read x = cc
