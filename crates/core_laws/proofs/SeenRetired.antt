-- An operation of a running core retires: a load reads the entries seen and then the waiting stores, a store goes into the store
-- buffer, and an atomic comes behind the log.
use Rattle.std.proofs.Common.{◌≡◌, ◌∙◌, ◌+◌, ◌<◌, ◌≤◌, ℕ, true, false, List, [], ◌∷◌, ◌++◌, length, take, drop, map, filter, refl, ap, sym, subst, arith, inl, inr}
use Rattle.std.proofs.lemmas.Bool.{cases_lt, eq-eqb}
use Rattle.std.proofs.lemmas.List.{append_assoc, append-nil, length_push, get_or_append_left, get_or_push, take-append-le, take_all, take_at, drop_at, drop-map, map-append}
use Rattle.std.proofs.lemmas.List.Elements.{filter-append}
use Rattle.std.proofs.lemmas.List.Sums.{length-filter}
use Rattle.std.proofs.lemmas.Option.{slice_get_within, slice_get_past}
use Rattle.std.specs.List.{count_by, slice_get}
use Rattle.std.specs.List.{AllByRecursion as Each}
use Rattle.std.specs.Option.{IfSome}
use Rattle.std.specs.Prelude.{slice_index}
use Rattle.core_laws.proofs.ListLemmas.{get_first, get_behind, if_there, each_get, each_from_get, each_take, each_map, each_filter, each_unfilter}
use Rattle.core_laws.specs.SeenSoFar.{HasSeenSoFar}
use Rattle.lf_model.proofs.EachLemmas.{each_append, each_first, each_weaker}
use Rattle.lf_model.specs.Operation.{kind_reads, entry_reads, stores, is_lost, made}
use Rattle.lf_model.specs.Records.SeenOrder.{is_load, is_entry_of, LoadReads, AtomicReads, SeenAreEarlier, AtomicIsSeen}
use Rattle.lf_model.specs.Value.{Reads}
use Rattle.lf_model.specs.declared.bus.Entry.{Entry}
use Rattle.lf_model.specs.declared.bus.OpKind.TheVariants.{Load, Store, Atomic}
use Rattle.lf_model.specs.declared.trace.Op.{Op}

-- what holds at each index of a list, and at one more, holds at each of the longer list
one_more : (P : ℕ → Type 0) (n : ℕ) → ((k : ℕ) → k < n → P k) → P n → (k : ℕ) → k < n + 1 → P k
one_more P n below here k within = elim (cases_lt k n) [
  | inl less ↦ below k less
  | inr last ↦ let same : n ≡ k = omega arith in subst P same here
]

module _ (initial : ℕ → ℕ) (c : ℕ) where
  -- before the first step
  pub seen_start : HasSeenSoFar initial c [] [] [] []
  seen_start = record {
    of_core = tt;
    numbered = λ k. tt;
    one_each = refl;
    rises = λ i j le lt. absurd (omega arith);
    in_log = λ i lt. absurd (omega arith);
    loads = λ k lt. absurd (omega arith);
    atomics = λ p lt. absurd (omega arith);
    entries = refl;
    earlier = λ k lt. absurd (omega arith);
    atomics_seen = λ p lt. absurd (omega arith);
    stores_wait = tt;
    none_lost = tt;
  }

  module _ (ops : List Op) (seen : List ℕ) (log buffer : List Entry) (h : HasSeenSoFar initial c ops seen log buffer) where
    ops_below : Each (λ (o : Op). o.k < length ops) ops
    ops_below = each_from_get (λ (o : Op). o.k < length ops) ops
        (λ k. if_there (slice_get ops k) (λ (o : Op). o.k ≡ k) (λ (o : Op). o.k < length ops) (h.numbered k) (λ o there same. omega (arith, same, slice_get_within ops k o there)))

    -- its own entries are of operations that it made
    pub own_below : Each (λ (e : Entry). is_entry_of c e ≡ true → e.k < length ops) log
    own_below = each_unfilter (λ (e : Entry). e.k < length ops) (is_entry_of c) log
        (each_first (λ (e : Entry). e.k < length ops) (filter (is_entry_of c) log) buffer
        (subst (Each (λ (e : Entry). e.k < length ops)) (sym h.entries)
        (each_map (λ (e : Entry). e.k < length ops) made (filter stores ops) (each_filter (λ (o : Op). o.k < length ops) stores ops ops_below))))

    below_next : Each (λ (e : Entry). e.core ≡ c → e.k ≤ length ops) log
    below_next = each_weaker (λ (e : Entry). is_entry_of c e ≡ true → e.k < length ops) (λ (e : Entry). e.core ≡ c → e.k ≤ length ops) log
        (λ e below own. omega (arith, below (eq-eqb e.core c own))) own_below

    -- those of its stores that aren't in the log wait
    pub waits : map made (drop (count_by (is_entry_of c) log) (filter stores ops)) ≡ buffer
    waits =
        sym (drop-map made (count_by (is_entry_of c) log) (filter stores ops))
        ∙ (ap (drop (count_by (is_entry_of c) log)) (sym h.entries)
        ∙ drop_at (filter (is_entry_of c) log) buffer (count_by (is_entry_of c) log) (length-filter (is_entry_of c) log))

    seen_kept : (s p : ℕ) → p < length log → AtomicIsSeen c (seen ++ s ∷ []) log p
    seen_kept s p within =
        if_there (slice_get log p) (λ (e : Entry). e.core ≡ c → kind_reads e.kind ≡ true → p < slice_index seen e.k)
        (λ (e : Entry). e.core ≡ c → kind_reads e.kind ≡ true → p < slice_index (seen ++ s ∷ []) e.k) (h.atomics_seen p within)
        (λ e there f own reads.
        let below : e.k < length ops = each_get (λ (e : Entry). is_entry_of c e ≡ true → e.k < length ops) log p e own_below there (eq-eqb e.core c own) in
        rw (get_or_append_left seen (s ∷ []) 0 e.k (omega (arith, below, h.one_each))) (f own reads))

    module _ (o : Op) (own : o.core ≡ c) (number : o.k ≡ length ops) where
      stores_more : map made (filter stores (ops ++ o ∷ [])) ≡ map made (filter stores ops) ++ map made (filter stores (o ∷ []))
      stores_more = ap (map made) (filter-append stores ops (o ∷ [])) ∙ map-append made (filter stores ops) (filter stores (o ∷ []))

      numbered_more : (k : ℕ) → IfSome (slice_get (ops ++ o ∷ []) k) (λ x. x.k ≡ k)
      numbered_more k = elim (cases_lt k (length ops)) [
        | inl less ↦ rw (get_first ops (o ∷ []) k less) (h.numbered k)
        | inr past ↦ elim (cases_lt (length ops) k) [
          | inl far ↦ rw (slice_get_past (ops ++ o ∷ []) k (omega (arith, length_push ops o))) tt
          | inr near ↦
              let same : length ops ≡ k = omega arith in
              subst (λ n. IfSome (slice_get (ops ++ o ∷ []) n) (λ x. x.k ≡ n)) same (rw (get_behind ops [] o) number)
        ]
      ]

      not_load : (s : ℕ) (log' : List Entry) → is_load o ≡ false → LoadReads initial c (ops ++ o ∷ []) (seen ++ s ∷ []) log' (length ops)
      not_load s log' no_load = rw (get_behind ops [] o) (λ load. absurd (cc))

      pushed : (s : ℕ) (log' later : List Entry) → length log ≤ s → s ≤ length log' → ((n : ℕ) → n ≤ length log → take n log' ≡ take n log) → is_lost o ≡ false
          → LoadReads initial c (ops ++ o ∷ []) (seen ++ s ∷ []) log' (length ops)
          → Each (λ (e : Entry). e.core ≡ c → e.k ≤ length ops) log'
          → ((p : ℕ) → p < length log' → AtomicReads initial c log' p)
          → filter (is_entry_of c) log' ++ later ≡ map made (filter stores (ops ++ o ∷ []))
          → ((p : ℕ) → p < length log' → AtomicIsSeen c (seen ++ s ∷ []) log' p)
          → Each (λ e. entry_reads e ≡ false) later
          → HasSeenSoFar initial c (ops ++ o ∷ []) (seen ++ s ∷ []) log' later
      pushed s log' later from upto fronts not_lost load below atomics entries atomics_seen wait = record {
        of_core = each_append (λ (x : Op). x.core ≡ c) ops (o ∷ []) h.of_core (own, tt);
        numbered = numbered_more;
        one_each = omega (arith, length_push seen s, length_push ops o, h.one_each);
        rises = λ i j le lt. rising i j le (omega (arith, lt, length_push seen s));
        in_log = λ i lt. in_log' i (omega (arith, lt, length_push seen s));
        loads = λ k lt. one_more (LoadReads initial c (ops ++ o ∷ []) (seen ++ s ∷ []) log') (length ops)
            (λ j within. rw (get_first ops (o ∷ []) j within, index j within, fronts (slice_index seen j) (h.in_log j (omega (arith, within, h.one_each))), take-append-le j ops (o ∷ []) (omega arith)) (h.loads j within))
            load k (omega (arith, lt, length_push ops o));
        atomics = atomics;
        entries = entries;
        earlier = λ k lt. one_more (SeenAreEarlier c (seen ++ s ∷ []) log') (length ops)
            (λ j within. rw (index j within, fronts (slice_index seen j) (h.in_log j (omega (arith, within, h.one_each)))) (h.earlier j within))
            (each_take (λ (e : Entry). e.core ≡ c → e.k ≤ length ops) (slice_index (seen ++ s ∷ []) (length ops)) log' below) k (omega (arith, lt, length_push ops o));
        atomics_seen = atomics_seen;
        stores_wait = wait;
        none_lost = each_append (λ x. is_lost x ≡ false) ops (o ∷ []) h.none_lost (not_lost, tt);
      }
        where
          index : (j : ℕ) → j < length ops → slice_index (seen ++ s ∷ []) j ≡ slice_index seen j
          index j within = get_or_append_left seen (s ∷ []) 0 j (omega (arith, within, h.one_each))

          last : slice_index (seen ++ s ∷ []) (length seen) ≡ s
          last = get_or_push seen s 0 (length seen) refl

          in_log' : (i : ℕ) → i < length seen + 1 → slice_index (seen ++ s ∷ []) i ≤ length log'
          in_log' = one_more (λ i. slice_index (seen ++ s ∷ []) i ≤ length log') (length seen)
              (λ i lt. omega (arith, get_or_append_left seen (s ∷ []) 0 i lt, h.in_log i lt, from, upto)) (omega (arith, last, upto))

          rising : (i j : ℕ) → i ≤ j → j < length seen + 1 → slice_index (seen ++ s ∷ []) i ≤ slice_index (seen ++ s ∷ []) j
          rising i j le lt = elim (cases_lt j (length seen)) [
            | inl less ↦ omega (arith, get_or_append_left seen (s ∷ []) 0 j less, get_or_append_left seen (s ∷ []) 0 i (omega arith), h.rises i j le less)
            | inr past ↦
                let same : j ≡ length seen = omega arith in
                let at_j : slice_index (seen ++ s ∷ []) j ≡ s = ap (slice_index (seen ++ s ∷ [])) same ∙ last in
                elim (cases_lt i (length seen)) [
                  | inl less ↦ omega (arith, get_or_append_left seen (s ∷ []) 0 i less, h.in_log i less, at_j)
                  | inr past' ↦ let same' : i ≡ j = omega arith in omega (arith, ap (slice_index (seen ++ s ∷ [])) same')
                ]
          ]

      -- a load retires that read what the entries seen and then the waiting stores left
      pub seen_load : o.kind ≡ Load → Reads initial (made o) (log ++ buffer) → HasSeenSoFar initial c (ops ++ o ∷ []) (seen ++ length log ∷ []) log buffer
      seen_load kind reads =
          pushed (length log) log buffer (omega arith) (omega arith) (λ n le. refl) (rw kind refl)
          (rw (get_behind ops [] o, get_or_push seen (length log) 0 (length ops) h.one_each, take_all (length log) log (omega arith), take_at ops (o ∷ []) (length ops) refl, waits) (λ load. reads))
          below_next h.atomics
          (h.entries ∙ (sym (append-nil (map made (filter stores ops))) ∙ (ap (λ es. map made (filter stores ops) ++ es) (rw kind refl) ∙ sym stores_more)))
          (seen_kept (length log)) h.stores_wait

      -- a store retires into the store buffer
      pub seen_store : o.kind ≡ Store → HasSeenSoFar initial c (ops ++ o ∷ []) (seen ++ length log ∷ []) log (buffer ++ made o ∷ [])
      seen_store kind =
          pushed (length log) log (buffer ++ made o ∷ []) (omega arith) (omega arith) (λ n le. refl) (rw kind refl)
          (not_load (length log) log (rw kind refl))
          below_next h.atomics
          (sym (append_assoc (filter (is_entry_of c) log) buffer (made o ∷ [])) ∙ (ap (λ es. es ++ made o ∷ []) h.entries ∙ (ap (λ es. map made (filter stores ops) ++ es) (rw kind refl) ∙ sym stores_more)))
          (seen_kept (length log))
          (each_append (λ e. entry_reads e ≡ false) buffer (made o ∷ []) h.stores_wait (rw kind refl, tt))

      own_entry : filter (is_entry_of c) (made o ∷ []) ≡ made o ∷ []
      own_entry = rw (eq-eqb o.core c own) refl

      -- an atomic retires, while no store waits, that read what the log left, and its entry comes behind that
      pub seen_atomic : buffer ≡ [] → o.kind ≡ Atomic → Reads initial (made o) log → HasSeenSoFar initial c (ops ++ o ∷ []) (seen ++ (length log + 1) ∷ []) (log ++ made o ∷ []) []
      seen_atomic none kind reads =
          pushed (length log + 1) (log ++ made o ∷ []) [] (omega arith) (omega (arith, length_push log (made o))) (λ n le. take-append-le n log (made o ∷ []) le) (rw kind refl)
          (not_load (length log + 1) (log ++ made o ∷ []) (rw kind refl))
          (each_append (λ (e : Entry). e.core ≡ c → e.k ≤ length ops) log (made o ∷ []) below_next ((λ own'. omega (arith, number)), tt))
          (λ p lt. one_more (AtomicReads initial c (log ++ made o ∷ [])) (length log)
          (λ q within. rw (get_first log (made o ∷ []) q within, take-append-le q log (made o ∷ []) (omega arith)) (h.atomics q within))
          (rw (get_behind log [] (made o), take_at log (made o ∷ []) (length log) refl) (λ own' atomic. reads)) p (omega (arith, lt, length_push log (made o))))
          (append-nil (filter (is_entry_of c) (log ++ made o ∷ []))
          ∙ (filter-append (is_entry_of c) log (made o ∷ [])
          ∙ (ap (λ es. filter (is_entry_of c) log ++ es) own_entry
          ∙ (ap (λ es. es ++ made o ∷ []) (sym (append-nil (filter (is_entry_of c) log)) ∙ (ap (λ es. filter (is_entry_of c) log ++ es) (sym none) ∙ h.entries))
          ∙ (ap (λ es. map made (filter stores ops) ++ es) (rw kind refl) ∙ sym stores_more)))))
          (λ p lt. one_more (AtomicIsSeen c (seen ++ (length log + 1) ∷ []) (log ++ made o ∷ [])) (length log)
          (λ q within. rw (get_first log (made o ∷ []) q within) (seen_kept (length log + 1) q within))
          (rw (get_behind log [] (made o), number, get_or_push seen (length log + 1) 0 (length ops) h.one_each) (λ own' atomic. omega arith)) p (omega (arith, lt, length_push log (made o))))
          tt
