-- What a core has seen of memory order at its end is what its record says: all its stores drained, or those that wait are lost.
use Rattle.std.proofs.Common.{◌≡◌, ◌∙◌, ◌+◌, ◌<◌, ◌≤◌, ◌++◌, ℕ, Bool, true, false, nat_le, List, [], ◌∷◌, Option, Some, None, length, take, drop, map, filter, refl, ap, sym, subst, arith}
use Rattle.std.proofs.lemmas.Bool.{leb-true, leb-false, le-leb, lt-leb}
use Rattle.std.proofs.lemmas.List.{append-nil, length-map, take-append-drop, take-map, drop-map, take_at, drop_at}
use Rattle.std.proofs.lemmas.List.Elements.{filter-append}
use Rattle.std.proofs.lemmas.Option.{slice_get-map}
use Rattle.std.specs.List.{count_by, slice_get}
use Rattle.std.specs.List.{AllByRecursion as Each}
use Rattle.std.specs.Option.{option_map, IfSome}
use Rattle.core_laws.proofs.Given.{lost_made, losing_made}
use Rattle.core_laws.proofs.ListLemmas.{if_there, each_every, each_map, each_filter, each_passes, each_unfilter, filter_all, filter_within}
use Rattle.core_laws.proofs.LostKinds.{lost_if, load_stays, stores_stays, enters_stores, enters_early, lost_late, late_lost, plain_store, enters_by_stores}
use Rattle.core_laws.proofs.Rising.{Rises, rises_filter, rises_numbered, split_numbers}
use Rattle.core_laws.specs.SeenSoFar.{HasSeenSoFar, lost_from, losing}
use Rattle.lf_model.proofs.EachLemmas.{each_append, each_first, each_second, each_weaker, each_both, each_unmap, filter_none, filter_same, filter_map_same}
use Rattle.lf_model.specs.Course.Core.{is_store}
use Rattle.lf_model.specs.Operation.{kind_enters, entry_reads, enters, stores, is_lost, made}
use Rattle.lf_model.specs.Records.SeenOrder.{is_load, is_entry_of, front, waiting, LostIsLast, HasSeen}
use Rattle.lf_model.specs.Value.{Reads}
use Rattle.lf_model.specs.declared.bus.Entry.{Entry}
use Rattle.lf_model.specs.declared.trace.Op.{Op}

module _ (initial : ℕ → ℕ) (c : ℕ) (ops : List Op) (seen : List ℕ) (log : List Entry) where
  -- a core ends of which no store waits
  pub seen_end : HasSeenSoFar initial c ops seen log [] → HasSeen initial c ops seen log
  seen_end h = record {
    of_core = h.of_core;
    numbered = h.numbered;
    one_each = h.one_each;
    rises = h.rises;
    in_log = h.in_log;
    loads = h.loads;
    atomics = h.atomics;
    entries = sym (append-nil (filter (is_entry_of c) log)) ∙ (h.entries
        ∙ ap (map made) (filter_same stores enters ops (each_weaker (λ o. is_lost o ≡ false) (λ o. stores o ≡ enters o) ops (λ o not_lost. enters_by_stores o.kind not_lost) h.none_lost)));
    earlier = h.earlier;
    atomics_seen = h.atomics_seen;
    lost_last = each_weaker (λ o. is_lost o ≡ false) (LostIsLast ops) ops (λ o not_lost lost. absurd (cc)) h.none_lost;
  }

  module _ (e : Entry) (later : List Entry) (h : HasSeenSoFar initial c ops seen log (e ∷ later)) where
    abbrev lost : Op → Op
    lost = lost_from e.k

    abbrev pub first : List Op
    first = take (length (filter (is_entry_of c) log)) (filter stores ops)

    abbrev pub rest : List Op
    rest = drop (length (filter (is_entry_of c) log)) (filter stores ops)

    pub parts : first ++ rest ≡ filter stores ops
    parts = take-append-drop (length (filter (is_entry_of c) log)) (filter stores ops)

    first_made : map made first ≡ filter (is_entry_of c) log
    first_made = sym (take-map made (length (filter (is_entry_of c) log)) (filter stores ops))
        ∙ (ap (take (length (filter (is_entry_of c) log))) (sym h.entries) ∙ take_at (filter (is_entry_of c) log) (e ∷ later) (length (filter (is_entry_of c) log)) refl)

    pub rest_made : map made rest ≡ e ∷ later
    rest_made = sym (drop-map made (length (filter (is_entry_of c) log)) (filter stores ops))
        ∙ (ap (drop (length (filter (is_entry_of c) log))) (sym h.entries) ∙ drop_at (filter (is_entry_of c) log) (e ∷ later) (length (filter (is_entry_of c) log)) refl)

    pub numbers : Each (λ (o : Op). o.k < e.k) first × Each (λ (o : Op). e.k ≤ o.k) rest
    numbers = split_numbers first rest e later
        (subst (Rises 0) (sym parts) (rises_filter stores 0 ops (rises_numbered 0 ops (λ k. if_there (slice_get ops k) (λ (o : Op). o.k ≡ k) (λ (o : Op). o.k ≡ 0 + k) (h.numbered k) (λ o there same. omega (arith, same))))))
        rest_made

    -- each of them stores
    kinds : Each (λ o. stores o ≡ true) (first ++ rest)
    kinds = subst (Each (λ o. stores o ≡ true)) (sym parts) (each_passes stores ops)

    -- those that wait are stores
    pub rest_stores : Each (λ o. is_store o ≡ true) rest
    rest_stores = each_both (λ (o : Op). stores o ≡ true) (λ (o : Op). entry_reads (made o) ≡ false) (λ (o : Op). is_store o ≡ true) rest
        (λ o stores_ plain. plain_store o.kind stores_ plain) (each_second (λ o. stores o ≡ true) first rest kinds)
        (each_unmap (λ x. entry_reads x ≡ false) made rest (subst (Each (λ x. entry_reads x ≡ false)) (sym rest_made) h.stores_wait))

    late_stores : Each (λ (o : Op). stores o ≡ true → e.k ≤ o.k → is_store o ≡ true) ops
    late_stores = each_unfilter (λ (o : Op). e.k ≤ o.k → is_store o ≡ true) stores ops (subst (Each (λ (o : Op). e.k ≤ o.k → is_store o ≡ true)) parts
        (each_append (λ (o : Op). e.k ≤ o.k → is_store o ≡ true) first rest
        (each_weaker (λ (o : Op). o.k < e.k) (λ (o : Op). e.k ≤ o.k → is_store o ≡ true) first (λ o below above. absurd (omega arith)) numbers.0)
        (each_weaker (λ (o : Op). is_store o ≡ true) (λ (o : Op). e.k ≤ o.k → is_store o ≡ true) rest (λ o store above. store) rest_stores)))

    -- ---- those that enter the log are those that did

    early_enters : Each (λ (o : Op). enters (lost o) ≡ true) first
    early_enters = each_both (λ (o : Op). o.k < e.k) (λ (o : Op). o.k < e.k → enters (lost o) ≡ true) (λ (o : Op). enters (lost o) ≡ true) first (λ o below f. f below) numbers.0
        (each_both (λ (o : Op). stores o ≡ true) (λ (o : Op). is_lost o ≡ false) (λ (o : Op). o.k < e.k → enters (lost o) ≡ true) first
        (λ o stores_ not_lost below. rw (lt-leb e.k o.k below) (enters_early o.kind stores_ not_lost))
        (each_first (λ o. stores o ≡ true) first rest kinds)
        (each_first (λ o. is_lost o ≡ false) first rest (subst (Each (λ o. is_lost o ≡ false)) (sym parts) (each_filter (λ o. is_lost o ≡ false) stores ops h.none_lost))))

    late_lost_all : Each (λ (o : Op). enters (lost o) ≡ false) rest
    late_lost_all = each_both (λ (o : Op). e.k ≤ o.k) (λ (o : Op). is_store o ≡ true) (λ (o : Op). enters (lost o) ≡ false) rest
        (λ o above store. rw (le-leb e.k o.k above) (lost_late o.kind store)) numbers.1 rest_stores

    abbrev enters_still : Op → Bool
    enters_still o = enters (lost o)

    first_enters : filter enters_still ops ≡ first
    first_enters =
        sym (filter_within enters_still stores ops (λ o passes. enters_stores o.kind (nat_le e.k o.k) passes))
        ∙ (ap (filter enters_still) (sym parts)
        ∙ (filter-append enters_still first rest
        ∙ (ap (λ os. os ++ filter enters_still rest) (filter_all enters_still first early_enters)
        ∙ (ap (λ os. first ++ os) (filter_none enters_still rest late_lost_all) ∙ append-nil first))))

    entries_lost : filter (is_entry_of c) log ≡ map made (filter enters (losing e.k ops))
    entries_lost =
        sym first_made
        ∙ (sym (losing_made e.k first)
        ∙ (ap (λ os. map made (losing e.k os)) (sym first_enters)
        ∙ ap (map made) (filter_map_same enters_still enters lost ops (each_every (λ o. enters_still o ≡ enters (lost o)) ops (λ o. refl)))))

    -- ---- lost stores come last

    lost_above : Each (λ (x : Op). is_lost x ≡ true → e.k ≤ x.k) (losing e.k ops)
    lost_above = each_map (λ (x : Op). is_lost x ≡ true → e.k ≤ x.k) lost ops
        (each_weaker (λ (o : Op). is_lost o ≡ false) (λ (o : Op). is_lost (lost o) ≡ true → e.k ≤ o.k) ops
        (λ o not_lost now. leb-true e.k o.k (late_lost o.kind (nat_le e.k o.k) not_lost now)) h.none_lost)

    below_by : (o : Op) (late : Bool) → nat_le e.k o.k ≡ late → (stores o ≡ true → e.k ≤ o.k → is_store o ≡ true) → kind_enters (lost_if late o.kind) ≡ true → o.k < e.k
    below_by o true is f now = let not_so = lost_late o.kind (f (enters_stores o.kind true now) (leb-true e.k o.k is)) in absurd (cc)
    below_by o false is f now = leb-false e.k o.k is

    enters_below : Each (λ (o : Op). enters o ≡ true → o.k < e.k) (losing e.k ops)
    enters_below = each_map (λ (o : Op). enters o ≡ true → o.k < e.k) lost ops
        (each_weaker (λ (o : Op). stores o ≡ true → e.k ≤ o.k → is_store o ≡ true) (λ (o : Op). enters (lost o) ≡ true → o.k < e.k) ops
        (λ o f now. below_by o (nat_le e.k o.k) refl f now) late_stores)

    -- ---- its loads read what they read

    waits_same : (k : ℕ) (es : List Entry) → waiting c (losing e.k ops) k es ≡ waiting c ops k es
    waits_same k es =
        ap (λ os. map made (drop (count_by (is_entry_of c) es) (filter stores os))) (take-map lost k ops)
        ∙ (ap (λ os. map made (drop (count_by (is_entry_of c) es) os)) (sym (filter_map_same stores stores lost (take k ops)
        (each_every (λ (o : Op). stores o ≡ stores (lost o)) (take k ops) (λ o. sym (stores_stays o.kind (nat_le e.k o.k))))))
        ∙ (ap (map made) (drop-map lost (count_by (is_entry_of c) es) (filter stores (take k ops)))
        ∙ losing_made e.k (drop (count_by (is_entry_of c) es) (filter stores (take k ops)))))

    load_same : (k : ℕ) (es : List Entry) (found : Option Op) → IfSome found (λ o. is_load o ≡ true → Reads initial (made o) (es ++ waiting c ops k es))
        → IfSome (option_map lost found) (λ o. is_load o ≡ true → Reads initial (made o) (es ++ waiting c (losing e.k ops) k es))
    load_same k es None f = tt
    load_same k es (Some o) f = λ load.
        subst (λ x. Reads initial x (es ++ waiting c (losing e.k ops) k es)) (sym (lost_made e.k o))
        (subst (λ waits. Reads initial (made o) (es ++ waits)) (sym (waits_same k es)) (f (sym (load_stays o.kind (nat_le e.k o.k)) ∙ load)))

    number_same : (k : ℕ) (found : Option Op) → IfSome found (λ o. o.k ≡ k) → IfSome (option_map lost found) (λ o. o.k ≡ k)
    number_same k None f = tt
    number_same k (Some o) f = f

    -- a core ends whose stores that wait are lost
    pub seen_end_losing : HasSeen initial c (losing e.k ops) seen log
    seen_end_losing = record {
      of_core = each_map (λ (o : Op). o.core ≡ c) lost ops h.of_core;
      numbered = λ k. rw (slice_get-map lost ops k) (number_same k (slice_get ops k) (h.numbered k));
      one_each = h.one_each ∙ sym (length-map ops lost);
      rises = h.rises;
      in_log = h.in_log;
      loads = λ k within. rw (slice_get-map lost ops k) (load_same k (front log seen k) (slice_get ops k) (h.loads k (omega (arith, within, length-map ops lost))));
      atomics = h.atomics;
      entries = entries_lost;
      earlier = λ k within. h.earlier k (omega (arith, within, length-map ops lost));
      atomics_seen = h.atomics_seen;
      lost_last = each_weaker (λ (x : Op). is_lost x ≡ true → e.k ≤ x.k) (LostIsLast (losing e.k ops)) (losing e.k ops)
          (λ x above is_lost_. each_weaker (λ (o : Op). enters o ≡ true → o.k < e.k) (λ (o : Op). enters o ≡ true → o.k < x.k) (losing e.k ops)
          (λ o below now. omega (arith, below now, above is_lost_)) enters_below) lost_above;
    }
