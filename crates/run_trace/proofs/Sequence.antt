-- The order keeps each core's program order where total store order asks it: before a load or an atomic stands no later operation of
-- its core, and before a store no later store.
use Rattle.std.proofs.Common.{◌≡◌, ◌∙◌, ◌<◌, ◌≤◌, ◌++◌, ◌==◌, ◌⊎◌, ℕ, Bool, true, false, List, ◌∷◌, length, filter, map, take, slice_get, slice_index, Some, IfSome, refl, ap, sym, subst, inl, inr, arith}
use Rattle.std.proofs.lemmas.Bool.{cases_lt, and_parts, eq-eqb, eqb-true}
use Rattle.std.proofs.lemmas.Option.{slice_get-map, slice_get_within}
use Rattle.std.specs.List.{AllByRecursion as Each}
use Rattle.std.specs.Option.{option_map}
use Rattle.lf_model.proofs.EachLemmas.{each_append, each_second, each_weaker, each_both, each_unmap}
use Rattle.lf_model.specs.Operation.{of_core, enters, stores, reads, is_lost, kind_reads, made}
use Rattle.lf_model.specs.Order.{LoadOpAt, StoreStoreAt}
use Rattle.lf_model.specs.Records.SeenOrder.{is_load, LostIsLast}
use Rattle.lf_model.specs.declared.bus.Entry.{Entry}
use Rattle.lf_model.specs.declared.record.CoreRecord.{CoreRecord}
use Rattle.lf_model.specs.declared.trace.Op.{Op}
use Rattle.run_trace.specs.Order.{chosen, is_load_at, is_lost_in, loads_at, woven}
use Rattle.run_trace.proofs.Placing.{woven_before}
use Rattle.run_trace.proofs.Lists.{split_append, each_pass, each_filter, each_of}
use Rattle.run_trace.proofs.Woven.{AtAPlace, IsEntry, split_woven, each_before, each_woven}
use Rattle.run_trace.proofs.Numbers.{Rising, smaller_before, rising_filter, at_number}
use Rattle.run_trace.proofs.Cores.{own_chosen, is_chosen}
use Rattle.run_trace.proofs.Members.{AreTogether, OfCore, load_stores_not, lost_reads_not, reads_made, of_core_found, at_part, entry_of}
use Rattle.run_trace.proofs.ReadsOfOrder.{loads_load, lost_lost, first_made, slice_get_mid}

module _ (initial : ℕ → ℕ) (records : List CoreRecord) (log : List Op) (h : AreTogether initial records log) where
  -- no later operation of the reader's core
  abbrev NotLater : Op → Op → Type 0
  NotLater r o = o.core ≡ r.core → o.k ≤ r.k

  -- ---- a core's own operations among those chosen

  own_test : (t : CoreRecord → Op → Bool) (r : Op) (kept : CoreRecord) → OfCore initial records log h r kept → (P : Op → Type 0) → Each P (filter (t kept) kept.ops)
      → Each (λ (o : Op). o.core ≡ r.core → P o) (chosen t records)
  own_test t r kept m P all =
      each_weaker (λ (o : Op). of_core r.core o ≡ true → P o) (λ (o : Op). o.core ≡ r.core → P o) (chosen t records) (λ o f same. f (eq-eqb o.core r.core same))
      (each_of P (of_core r.core) (chosen t records) (subst (λ (os : List Op). Each P os) (sym (own_chosen t 0 r.core r.core records (omega arith) kept m.found h.own)) all))

  -- loads that had seen fewer entries than operation r come before it
  loads_earlier : (r : Op) (kept : CoreRecord) → OfCore initial records log h r kept → r.k < length kept.ops → (i : ℕ) → i < slice_index kept.seen r.k → Each (NotLater r) (loads_at records i)
  loads_earlier r kept m within i fewer =
      own_test (is_load_at i) r kept m (λ (o : Op). o.k ≤ r.k)
      (each_both (λ (o : Op). slice_get kept.ops o.k ≡ Some o) (λ (o : Op). is_load_at i kept o ≡ true) (λ (o : Op). o.k ≤ r.k) (filter (is_load_at i kept) kept.ops) earlier
      (each_filter (λ (o : Op). slice_get kept.ops o.k ≡ Some o) (is_load_at i kept) kept.ops (at_number kept.ops m.numbered)) (each_pass (is_load_at i kept) kept.ops))
    where
      earlier : (o : Op) → slice_get kept.ops o.k ≡ Some o → is_load_at i kept o ≡ true → o.k ≤ r.k
      earlier o found passes = elim (cases_lt r.k o.k) [
        | inl high ↦ absurd (omega (
          arith,
          fewer,
          eqb-true (slice_index kept.seen o.k) i (and_parts (is_load o) (slice_index kept.seen o.k == i) passes).1,
          m.seen.rises r.k o.k (omega (arith, high)) (omega (arith, slice_get_within kept.ops o.k o found, m.seen.one_each)),
        ))
        | inr low ↦ low
      ]

  -- those of a part of the core's list that stand before r
  part_earlier : (t : CoreRecord → Op → Bool) (r : Op) (kept : CoreRecord) → OfCore initial records log h r kept → (left right : List Op)
      → filter (t kept) kept.ops ≡ filter (of_core r.core) left ++ (r ∷ filter (of_core r.core) right) → Each (NotLater r) left
  part_earlier t r kept m left right parts =
      each_weaker (λ (o : Op). of_core r.core o ≡ true → o.k < r.k) (NotLater r) left (λ o f same. omega (arith, f (eq-eqb o.core r.core same)))
      (each_of (λ (o : Op). o.k < r.k) (of_core r.core) left
      (smaller_before 0 (filter (of_core r.core) left) r (filter (of_core r.core) right)
      (subst (λ (os : List Op). Rising 0 os) parts (rising_filter (t kept) 0 0 kept.ops (omega arith) m.numbered))))

  -- ---- before a load or an atomic

  load_op_place : (r : Op) (pre post : List Op) → AtAPlace (loads_at records) 0 log pre r post → Each (NotLater r) pre
  load_op_place r pre post p =
      let own = is_chosen (is_load_at p.n) records h.own r p.left p.right p.here in
      let m = of_core_found initial records log h r own.kept own.found in
      let found = at_part initial records log h r own.kept m (is_load_at p.n own.kept) (filter (of_core r.core) p.left) (filter (of_core r.core) p.right) own.parts in
      let within = slice_get_within own.kept.ops r.k r found in
      let seen = eqb-true (slice_index own.kept.seen r.k) p.n (and_parts (is_load r) (slice_index own.kept.seen r.k == p.n) own.passes).1 in
      let ahead : map made p.front ≡ take (slice_index own.kept.seen r.k) (map made log) = sym (first_made initial records log h p.front p.back p.parts (slice_index own.kept.seen r.k) (seen ∙ (p.n_is ∙ omega arith))) in
      subst (λ (os : List Op). Each (NotLater r) os) (sym p.pre_is)
      (each_append (NotLater r) (woven_before (loads_at records) 0 p.front) p.left
      (each_before (loads_at records) (NotLater r) 0 p.front (λ i low high. loads_earlier r own.kept m within i (omega (arith, seen, p.n_is, high)))
      (each_unmap (λ (e : Entry). e.core ≡ r.core → e.k ≤ r.k) made p.front (subst (λ (es : List Entry). Each (λ (e : Entry). e.core ≡ r.core → e.k ≤ r.k) es) (sym ahead) (m.seen.earlier r.k within))))
      (part_earlier (is_load_at p.n) r own.kept m p.left p.right own.parts))

  load_op_entry : (r : Op) (pre post : List Op) → IsEntry (loads_at records) 0 log pre r post → reads r ≡ true → Each (NotLater r) pre
  load_op_entry r pre post p reading =
      let own = entry_of initial records log h r p.front p.back p.parts in
      let m = own.member in
      let inside = slice_get_within own.kept.ops r.k r (at_part initial records log h r own.kept m enters (filter (of_core r.core) p.front) (filter (of_core r.core) p.back) own.parts) in
      let found : slice_get (map made log) (length p.front) ≡ Some (made r)
      = slice_get-map made log (length p.front) ∙ ap (option_map made) (ap (λ (os : List Op). slice_get os (length p.front)) p.parts ∙ slice_get_mid initial records log h p.front r p.back) in
      let sees = subst (λ o. IfSome o (λ (e : Entry). e.core ≡ r.core → kind_reads e.kind ≡ true → length p.front < slice_index own.kept.seen e.k)) found
      (m.seen.atomics_seen (length p.front) (slice_get_within (map made log) (length p.front) (made r) found)) refl (reads_made r reading) in
      subst (λ (os : List Op). Each (NotLater r) os) (sym p.pre_is)
      (each_append (NotLater r) (woven_before (loads_at records) 0 p.front) (loads_at records p.n)
      (each_before (loads_at records) (NotLater r) 0 p.front (λ i low high. loads_earlier r own.kept m inside i (omega (arith, sees, high)))
      (part_earlier (λ kept o. enters o) r own.kept m p.front p.back own.parts))
      (loads_earlier r own.kept m inside p.n (omega (arith, sees, p.n_is))))

  pub load_op_at : (pre post : List Op) (r : Op) → woven (loads_at records) 0 log ++ chosen is_lost_in records ≡ pre ++ (r ∷ post) → LoadOpAt pre r post
  load_op_at pre post r e reading = elim (split_append (woven (loads_at records) 0 log) (chosen is_lost_in records) pre r post e) [
    | inl first ↦ in_woven first.mid (split_woven (loads_at records) 0 log pre r first.mid first.first)
    | inr second ↦ absurd (no_read (sym (lost_reads_not r (is_one second.mid second.second)) ∙ reading))
  ]
    where
      in_woven : (mid : List Op) → AtAPlace (loads_at records) 0 log pre r mid ⊎ IsEntry (loads_at records) 0 log pre r mid → Each (NotLater r) pre
      in_woven mid (inl place) = load_op_place r pre mid place
      in_woven mid (inr entry) = load_op_entry r pre mid entry reading

      is_one : (mid : List Op) → chosen is_lost_in records ≡ mid ++ (r ∷ post) → is_lost r ≡ true
      is_one mid q = (each_second (λ (o : Op). is_lost o ≡ true) mid (r ∷ post) (subst (λ (os : List Op). Each (λ (o : Op). is_lost o ≡ true) os) q (lost_lost initial records log h))).0

      no_read : false ≡ true → ⊥
      no_read x = cc

  -- ---- before a store

  abbrev NoLaterStore : Op → Op → Type 0
  NoLaterStore r o = stores o ≡ true → o.core ≡ r.core → o.k ≤ r.k

  loads_no_store : (r : Op) (i : ℕ) → Each (NoLaterStore r) (loads_at records i)
  loads_no_store r i = each_weaker (λ (o : Op). is_load o ≡ true) (NoLaterStore r) (loads_at records i) (λ o load is. absurd (no_store (sym (load_stores_not o load) ∙ is))) (loads_load initial records log h i)
    where
      no_store : false ≡ true → ⊥
      no_store x = cc

  any_store : (r : Op) (os : List Op) → Each (NotLater r) os → Each (NoLaterStore r) os
  any_store r os all = each_weaker (NotLater r) (NoLaterStore r) os (λ o f is. f) all

  store_store_entry : (r : Op) (pre post : List Op) → IsEntry (loads_at records) 0 log pre r post → Each (NoLaterStore r) pre
  store_store_entry r pre post p =
      let own = entry_of initial records log h r p.front p.back p.parts in
      subst (λ (os : List Op). Each (NoLaterStore r) os) (sym p.pre_is)
      (each_append (NoLaterStore r) (woven_before (loads_at records) 0 p.front) (loads_at records p.n)
      (each_before (loads_at records) (NoLaterStore r) 0 p.front (λ i low high. loads_no_store r i)
      (any_store r p.front (part_earlier (λ kept o. enters o) r own.kept own.member p.front p.back own.parts)))
      (loads_no_store r p.n))

  store_store_lost : (r : Op) (pre mid post : List Op) → pre ≡ woven (loads_at records) 0 log ++ mid → chosen is_lost_in records ≡ mid ++ (r ∷ post) → Each (NoLaterStore r) pre
  store_store_lost r pre mid post e parts =
      let own = is_chosen is_lost_in records h.own r mid post parts in
      let m = of_core_found initial records log h r own.kept own.found in
      let found = at_part initial records log h r own.kept m (is_lost_in own.kept) (filter (of_core r.core) mid) (filter (of_core r.core) post) own.parts in
      subst (λ (os : List Op). Each (NoLaterStore r) os) (sym e)
      (each_append (NoLaterStore r) (woven (loads_at records) 0 log) mid
      (each_woven (loads_at records) (NoLaterStore r) 0 log (loads_no_store r) (any_store r log (entries_earlier own.kept m own.passes own.parts)))
      (any_store r mid (part_earlier is_lost_in r own.kept m mid post own.parts)))
    where
      entries_earlier : (kept : CoreRecord) → OfCore initial records log h r kept → is_lost r ≡ true
          → filter is_lost kept.ops ≡ filter (of_core r.core) mid ++ (r ∷ filter (of_core r.core) post) → Each (NotLater r) log
      entries_earlier kept m is own =
          let last = (each_second (LostIsLast kept.ops) (filter (of_core r.core) mid) (r ∷ filter (of_core r.core) post)
          (subst (λ (os : List Op). Each (LostIsLast kept.ops) os) own (each_filter (LostIsLast kept.ops) is_lost kept.ops m.seen.lost_last))).0 is in
          each_weaker (λ (o : Op). of_core r.core o ≡ true → o.k < r.k) (NotLater r) log (λ o f same. omega (arith, f (eq-eqb o.core r.core same)))
          (each_of (λ (o : Op). o.k < r.k) (of_core r.core) log (subst (λ (os : List Op). Each (λ (o : Op). o.k < r.k) os) (sym m.entries)
          (each_both (λ (o : Op). enters o ≡ true → o.k < r.k) (λ (o : Op). enters o ≡ true) (λ (o : Op). o.k < r.k) (filter enters kept.ops) (λ o f g. f g)
          (each_filter (λ (o : Op). enters o ≡ true → o.k < r.k) enters kept.ops last) (each_pass enters kept.ops))))

  pub store_store_at : (pre post : List Op) (r : Op) → woven (loads_at records) 0 log ++ chosen is_lost_in records ≡ pre ++ (r ∷ post) → StoreStoreAt pre r post
  store_store_at pre post r e storing = elim (split_append (woven (loads_at records) 0 log) (chosen is_lost_in records) pre r post e) [
    | inl first ↦ in_woven first.mid (split_woven (loads_at records) 0 log pre r first.mid first.first)
    | inr second ↦ store_store_lost r pre second.mid post second.before second.second
  ]
    where
      in_woven : (mid : List Op) → AtAPlace (loads_at records) 0 log pre r mid ⊎ IsEntry (loads_at records) 0 log pre r mid → Each (NoLaterStore r) pre
      in_woven mid (inl place) = any_store r pre (load_op_place r pre mid place)
      in_woven mid (inr entry) = store_store_entry r pre mid entry
