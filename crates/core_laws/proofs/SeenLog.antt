-- Entries that come behind the log leave what a core has seen of memory order: those of others, and those of its own stores that
-- drain.
use Rattle.std.proofs.Common.{◌≡◌, ◌∙◌, ◌+◌, ◌-◌, ◌<◌, ◌≤◌, ℕ, true, false, List, [], ◌∷◌, ◌++◌, Option, Some, None, length, take, map, filter, refl, ap, sym, subst, arith, inl, inr}
use Rattle.std.proofs.lemmas.Bool.{cases_lt, eq-eqb}
use Rattle.std.proofs.lemmas.List.{append_assoc, append-nil, length-append, take-append-le}
use Rattle.std.proofs.lemmas.List.Elements.{filter-append}
use Rattle.std.specs.List.{slice_get}
use Rattle.std.specs.List.{AllByRecursion as Each}
use Rattle.std.specs.Option.{IfSome}
use Rattle.std.specs.Prelude.{slice_index}
use Rattle.core_laws.proofs.ListLemmas.{get_first, get_second, if_there, each_get, each_map, each_filter}
use Rattle.core_laws.specs.SeenSoFar.{HasSeenSoFar}
use Rattle.lf_model.proofs.EachLemmas.{each_second, each_weaker, filter_none}
use Rattle.lf_model.specs.Operation.{kind_reads, entry_reads, stores, made}
use Rattle.lf_model.specs.Records.SeenOrder.{HasSeen, is_entry_of, front, LoadReads, AtomicReads, SeenAreEarlier, AtomicIsSeen}
use Rattle.lf_model.specs.Value.{Reads}
use Rattle.lf_model.specs.declared.bus.Entry.{Entry}
use Rattle.lf_model.specs.declared.trace.Op.{Op}

-- what others do when a core has ended leaves its record too; so the laws are over the lists alone
module _ (initial : ℕ → ℕ) (c : ℕ) (ops : List Op) (seen : List ℕ) (log : List Entry) (upto : (k : ℕ) → k < length ops → slice_index seen k ≤ length log) where
  front_same : (more : List Entry) (k : ℕ) → k < length ops → front (log ++ more) seen k ≡ front log seen k
  front_same more k within = take-append-le (slice_index seen k) log more (upto k within)

  loads_longer : (more : List Entry) → ((k : ℕ) → k < length ops → LoadReads initial c ops seen log k) → (k : ℕ) → k < length ops → LoadReads initial c ops seen (log ++ more) k
  loads_longer more loads k within = rw (front_same more k within) (loads k within)

  earlier_longer : (more : List Entry) → ((k : ℕ) → k < length ops → SeenAreEarlier c seen log k) → (k : ℕ) → k < length ops → SeenAreEarlier c seen (log ++ more) k
  earlier_longer more earlier k within = rw (front_same more k within) (earlier k within)

  -- what holds at each place of the log holds there, if it holds of what comes behind at any place
  at_places : (P : Entry → ℕ → List Entry → Type 0) (more : List Entry) → ((p : ℕ) → p < length log → IfSome (slice_get log p) (λ e. P e p (take p log)))
      → Each (λ e. (p : ℕ) (es : List Entry) → P e p es) more → (p : ℕ) → p < length (log ++ more) → IfSome (slice_get (log ++ more) p) (λ e. P e p (take p (log ++ more)))
  at_places P more below later p within = elim (cases_lt p (length log)) [
    | inl less ↦ rw (get_first log more p less, take-append-le p log more (omega arith)) (below p less)
    | inr past ↦
        let split : p ≡ length log + (p - length log) = omega arith in
        if_there (slice_get (log ++ more) p) (λ e. Unit {0}) (λ e. P e p (take p (log ++ more))) (any (slice_get (log ++ more) p))
        (λ e there u. each_get (λ x. (q : ℕ) (es : List Entry) → P x q es) more (p - length log) e later (sym (get_second log more (p - length log)) ∙ (ap (slice_get (log ++ more)) (sym split) ∙ there)) p (take p (log ++ more)))
  ]
    where
      any : (found : Option Entry) → IfSome found (λ e. Unit {0})
      any None = tt
      any (Some e) = tt

  -- an atomic of the core is not among these entries
  abbrev HasNoAtomic : List Entry → Type 0
  HasNoAtomic es = Each (λ e. e.core ≡ c → kind_reads e.kind ≡ true → ⊥) es

  atomics_longer : (more : List Entry) → HasNoAtomic more → ((p : ℕ) → p < length log → AtomicReads initial c log p) → (p : ℕ) → p < length (log ++ more) → AtomicReads initial c (log ++ more) p
  atomics_longer more none atomics = at_places (λ e p es. e.core ≡ c → kind_reads e.kind ≡ true → Reads initial e es) more atomics
      (each_weaker _ _ more (λ e not_so p es own reads. absurd (not_so own reads)) none)

  atomics_seen_longer : (more : List Entry) → HasNoAtomic more → ((p : ℕ) → p < length log → AtomicIsSeen c seen log p) → (p : ℕ) → p < length (log ++ more) → AtomicIsSeen c seen (log ++ more) p
  atomics_seen_longer more none atomics_seen = at_places (λ e p es. e.core ≡ c → kind_reads e.kind ≡ true → p < slice_index seen e.k) more atomics_seen
      (each_weaker _ _ more (λ e not_so p es own reads. absurd (not_so own reads)) none)

  -- entries of others
  abbrev AreOthers : List Entry → Type 0
  AreOthers es = Each (λ e. is_entry_of c e ≡ false) es

  others_no_atomic : (more : List Entry) → AreOthers more → HasNoAtomic more
  others_no_atomic more others =
      each_weaker (λ e. is_entry_of c e ≡ false) (λ e. e.core ≡ c → kind_reads e.kind ≡ true → ⊥) more (λ e other own reads. let same = eq-eqb e.core c own in absurd (cc)) others

  others_own_none : (more : List Entry) → AreOthers more → filter (is_entry_of c) (log ++ more) ≡ filter (is_entry_of c) log
  others_own_none more others =
      filter-append (is_entry_of c) log more ∙ (ap (λ es. filter (is_entry_of c) log ++ es) (filter_none (is_entry_of c) more others) ∙ append-nil (filter (is_entry_of c) log))

module _ (initial : ℕ → ℕ) (c : ℕ) (ops : List Op) (seen : List ℕ) (log : List Entry) where
  grown : (buffer more later : List Entry) → HasSeenSoFar initial c ops seen log buffer → Each (λ e. e.core ≡ c → kind_reads e.kind ≡ true → ⊥) more
      → filter (is_entry_of c) (log ++ more) ++ later ≡ map made (filter stores ops) → Each (λ e. entry_reads e ≡ false) later
      → HasSeenSoFar initial c ops seen (log ++ more) later
  grown buffer more later h none entries wait = record {
    of_core = h.of_core;
    numbered = h.numbered;
    one_each = h.one_each;
    rises = h.rises;
    in_log = λ i within. omega (arith, h.in_log i within, length-append log more);
    loads = loads_longer initial c ops seen log upto more h.loads;
    atomics = atomics_longer initial c ops seen log upto more none h.atomics;
    entries = entries;
    earlier = earlier_longer initial c ops seen log upto more h.earlier;
    atomics_seen = atomics_seen_longer initial c ops seen log upto more none h.atomics_seen;
    stores_wait = wait;
    none_lost = h.none_lost;
  }
    where
      upto : (k : ℕ) → k < length ops → slice_index seen k ≤ length log
      upto k within = h.in_log k (omega (arith, h.one_each))

  -- others put entries into the log
  pub seen_others : (buffer more : List Entry) → HasSeenSoFar initial c ops seen log buffer → Each (λ e. is_entry_of c e ≡ false) more → HasSeenSoFar initial c ops seen (log ++ more) buffer
  seen_others buffer more h others = grown buffer more buffer h (others_no_atomic initial c ops seen log upto more others)
      (ap (λ es. es ++ buffer) (others_own_none initial c ops seen log upto more others) ∙ h.entries) h.stores_wait
    where
      upto : (k : ℕ) → k < length ops → slice_index seen k ≤ length log
      upto k within = h.in_log k (omega (arith, h.one_each))

  -- others do so when the core has ended
  pub has_seen_others : (more : List Entry) → HasSeen initial c ops seen log → Each (λ e. is_entry_of c e ≡ false) more → HasSeen initial c ops seen (log ++ more)
  has_seen_others more h others = record {
    of_core = h.of_core;
    numbered = h.numbered;
    one_each = h.one_each;
    rises = h.rises;
    in_log = λ i within. omega (arith, h.in_log i within, length-append log more);
    loads = loads_longer initial c ops seen log upto more h.loads;
    atomics = atomics_longer initial c ops seen log upto more (others_no_atomic initial c ops seen log upto more others) h.atomics;
    entries = others_own_none initial c ops seen log upto more others ∙ h.entries;
    earlier = earlier_longer initial c ops seen log upto more h.earlier;
    atomics_seen = atomics_seen_longer initial c ops seen log upto more (others_no_atomic initial c ops seen log upto more others) h.atomics_seen;
    lost_last = h.lost_last;
  }
    where
      upto : (k : ℕ) → k < length ops → slice_index seen k ≤ length log
      upto k within = h.in_log k (omega (arith, h.one_each))

  -- the oldest store that waits drains: its entry comes behind the log
  pub seen_drain : (e : Entry) (later : List Entry) → HasSeenSoFar initial c ops seen log (e ∷ later)
      → HasSeenSoFar initial c ops seen (log ++ e ∷ []) later
  seen_drain e later h =
      grown (e ∷ later) (e ∷ []) later h ((λ own reads. absurd (let plain = h.stores_wait.0 in cc)), tt)
      (ap (λ es. es ++ later) (filter-append (is_entry_of c) log (e ∷ []) ∙ ap (λ es. filter (is_entry_of c) log ++ es) own_entry)
      ∙ (append_assoc (filter (is_entry_of c) log) (e ∷ []) later ∙ h.entries))
      h.stores_wait.1
    where
      all_own : Each (λ (x : Entry). x.core ≡ c) (filter (is_entry_of c) log ++ e ∷ later)
      all_own = subst (Each (λ (x : Entry). x.core ≡ c)) (sym h.entries) (each_map (λ (x : Entry). x.core ≡ c) made (filter stores ops) (each_filter (λ (o : Op). o.core ≡ c) stores ops h.of_core))

      own_entry : filter (is_entry_of c) (e ∷ []) ≡ e ∷ []
      own_entry = rw (eq-eqb e.core c (each_second (λ (x : Entry). x.core ≡ c) (filter (is_entry_of c) log) (e ∷ later) all_own).0) refl
