-- The order has just the operations that the cores made: of each core as many that pass a test as its record has.
use Rattle.std.proofs.Common.{◌≡◌, ◌∙◌, ◌+◌, ◌<◌, ◌≤◌, ◌&&◌, ◌==◌, ◌++◌, ℕ, suc, Bool, true, false, nat_le, List, [], ◌∷◌, length, filter, count_by, slice_get, slice_index, Some, refl, ap, sym, inl, inr, arith, add-one}
use Rattle.std.proofs.lemmas.Bool.{cases_Bool, cases_eq, eq-eqb, ne_eqb, le-leb, leb-true}
use Rattle.std.proofs.lemmas.List.{length-append, length-map}
use Rattle.std.proofs.lemmas.List.Elements.{filter-append}
use Rattle.std.proofs.lemmas.List.Sums.{length-filter}
use Rattle.std.proofs.lemmas.Option.{slice_get_within}
use Rattle.std.specs.List.{AllByRecursion as Each}
use Rattle.lf_model.proofs.EachLemmas.{each_weaker, filter_none}
use Rattle.lf_model.specs.Once.{is_number, OnceAtCore}
use Rattle.lf_model.specs.Operation.{kind_enters, kind_stores, kind_is_lost, of_core, enters, stores, is_lost, made}
use Rattle.lf_model.specs.Records.SeenOrder.{is_load_kind, is_load}
use Rattle.lf_model.specs.declared.bus.OpKind.{OpKind}
use Rattle.lf_model.specs.declared.bus.OpKind.TheVariants.{Load, Store, Atomic, Lost}
use Rattle.lf_model.specs.declared.record.CoreRecord.{CoreRecord}
use Rattle.lf_model.specs.declared.trace.Op.{Op}
use Rattle.run_trace.specs.Order.{chosen, is_load_at, is_lost_in, loads_at, woven}
use Rattle.run_trace.proofs.Lists.{filter_all, filter_by, filter_filter, each_all}
use Rattle.run_trace.proofs.Numbers.{Numbered, at_number, numbered_from}
use Rattle.run_trace.proofs.Cores.{own_chosen}
use Rattle.run_trace.proofs.Members.{AreTogether, OfCore}

-- ---- a list in two parts

-- what passes t passes just one of u and v
pub data Parted (t u v : Bool) : Type 0 where
  ByFirst : t ≡ true → u ≡ true → v ≡ false → Parted t u v
  BySecond : t ≡ true → u ≡ false → v ≡ true → Parted t u v
  ByNone : t ≡ false → u ≡ false → v ≡ false → Parted t u v

abbrev pub number_of : (Op → Bool) → List Op → ℕ
number_of p xs = length (filter p xs)

number-append : (p : Op → Bool) (xs ys : List Op) → number_of p (xs ++ ys) ≡ number_of p xs + number_of p ys
number-append p xs ys = ap (λ (os : List Op). length os) (filter-append p xs ys) ∙ length-append (filter p xs) (filter p ys)

number_split : (q t u v : Op → Bool) (xs : List Op) → ((x : Op) → Parted (t x) (u x) (v x)) → number_of q (filter t xs) ≡ number_of q (filter u xs) + number_of q (filter v xs)
number_split q t u v [] parted = refl
number_split q t u v (x ∷ xs) parted = by_case (number_split q t u v xs parted) (parted x)
  where
    one : (ys : List Op) → number_of q (x ∷ ys) ≡ number_of q (x ∷ []) + number_of q ys
    one ys = number-append q (x ∷ []) ys

    by_case : number_of q (filter t xs) ≡ number_of q (filter u xs) + number_of q (filter v xs) → Parted (t x) (u x) (v x)
        → number_of q (filter t (x ∷ xs)) ≡ number_of q (filter u (x ∷ xs)) + number_of q (filter v (x ∷ xs))
    by_case rest (ByFirst a b c) = rw (a, b, c) (omega (arith, rest, one (filter t xs), one (filter u xs)))
    by_case rest (BySecond a b c) = rw (a, b, c) (omega (arith, rest, one (filter t xs), one (filter v xs)))
    by_case rest (ByNone a b c) = rw (a, b, c) rest

number_none : (q t : Op → Bool) (xs : List Op) → Each (λ (x : Op). t x ≡ false) xs → number_of q (filter t xs) ≡ 0
number_none q t xs none = ap (λ (os : List Op). number_of q os) (filter_none t xs none)

-- ---- kinds

abbrev every : Op → Bool
every o = true

kinds_parted : (kind : OpKind) (o : Op) → o.kind ≡ kind → Parted true (is_load o) (stores o)
kinds_parted Load o e = ByFirst refl (ap is_load_kind e) (ap kind_stores e)
kinds_parted Store o e = BySecond refl (ap is_load_kind e) (ap kind_stores e)
kinds_parted Atomic o e = BySecond refl (ap is_load_kind e) (ap kind_stores e)
kinds_parted Lost o e = BySecond refl (ap is_load_kind e) (ap kind_stores e)

stores_parted : (kind : OpKind) (o : Op) → o.kind ≡ kind → Parted (stores o) (enters o) (is_lost o)
stores_parted Load o e = ByNone (ap kind_stores e) (ap kind_enters e) (ap kind_is_lost e)
stores_parted Store o e = ByFirst (ap kind_stores e) (ap kind_enters e) (ap kind_is_lost e)
stores_parted Atomic o e = ByFirst (ap kind_stores e) (ap kind_enters e) (ap kind_is_lost e)
stores_parted Lost o e = BySecond (ap kind_stores e) (ap kind_enters e) (ap kind_is_lost e)

-- ---- loads by what they had seen

-- a load whose core had seen so many entries or more
abbrev pub is_load_from : ℕ → CoreRecord → Op → Bool
is_load_from s kept o = is_load o && nat_le s (slice_index kept.seen o.k)

and_none : (b : Bool) → (b && false) ≡ false
and_none true = refl
and_none false = refl

and_all : (b : Bool) → (b && true) ≡ b
and_all true = refl
and_all false = refl

not_from : (a b : ℕ) → b < a → nat_le a b ≡ false
not_from a b less = elim (cases_Bool (nat_le a b)) [
  | inl is ↦ absurd (omega (arith, leb-true a b is, less))
  | inr not ↦ not
]

seen_parted : (s n : ℕ) (load : Bool) → Parted (load && nat_le s n) (load && n == s) (load && nat_le (s + 1) n)
seen_parted s n false = ByNone refl refl refl
seen_parted s n true = elim (cases_eq n s) [
  | inl same ↦ ByFirst (le-leb s n (omega (arith, same))) (eq-eqb n s same) (not_from (s + 1) n (omega (arith, same)))
  | inr other ↦ elim (cases_Bool (nat_le s n)) [
    | inl is ↦ BySecond is (ne_eqb n s other) (le-leb (s + 1) n (omega (arith, leb-true s n is, other)))
    | inr not ↦ ByNone not (ne_eqb n s other) (below_not not)
  ]
]
  where
    below_not : nat_le s n ≡ false → nat_le (s + 1) n ≡ false
    below_not not = elim (cases_Bool (nat_le (s + 1) n)) [
      | inl is ↦ absurd (no_both (sym not ∙ le-leb s n (omega (arith, leb-true (s + 1) n is))))
      | inr so ↦ so
    ]
      where
        no_both : false ≡ true → ⊥
        no_both e = cc

-- ---- numbers

pub one_number : (n k : ℕ) (os : List Op) → Numbered n os → n ≤ k → k < n + length os → number_of (λ o. o.k == k) os ≡ 1
one_number n k [] h low high = absurd (omega (arith, low, high))
one_number n k (o ∷ os) h low high = elim (cases_eq o.k k) [
  | inl same ↦ rw (eq-eqb o.k k same) (ap (λ m. suc m) (ap (λ (xs : List Op). length xs) (filter_none (λ (x : Op). x.k == k) os
      (each_weaker (λ (x : Op). n + 1 ≤ x.k) (λ (x : Op). (x.k == k) ≡ false) os (λ x above. ne_eqb x.k k (λ e. omega (arith, above, e, same, h.0))) (numbered_from (n + 1) os h.1)))))
  | inr other ↦ rw (ne_eqb o.k k other) (one_number (n + 1) k os h.1 (omega (arith, low, other, h.0)) (omega (arith, high, add-one (length os))))
]

-- ---- one core's operations in the order

module _ (initial : ℕ → ℕ) (records : List CoreRecord) (log : List Op) (h : AreTogether initial records log) (r : Op) (kept : CoreRecord) (m : OfCore initial records log h r kept) (q : Op → Bool) where
  abbrev own : Op → Bool
  own o = of_core r.core o && q o

  own_number : (xs : List Op) → number_of own xs ≡ number_of q (filter (of_core r.core) xs)
  own_number xs = ap (λ (os : List Op). length os) (sym (filter_filter q (of_core r.core) xs))

  chosen_number : (t : CoreRecord → Op → Bool) → number_of own (chosen t records) ≡ number_of q (filter (t kept) kept.ops)
  chosen_number t = own_number (chosen t records) ∙ ap (λ (os : List Op). number_of q os) (own_chosen t 0 r.core r.core records (omega arith) kept m.found h.own)

  none_past : (n : ℕ) → n ≡ length log → number_of q (filter (is_load_from (n + 1) kept) kept.ops) ≡ 0
  none_past n e = number_none q (is_load_from (n + 1) kept) kept.ops
      (each_weaker (λ (o : Op). slice_get kept.ops o.k ≡ Some o) (λ (o : Op). is_load_from (n + 1) kept o ≡ false) kept.ops none (at_number kept.ops m.numbered))
    where
      none : (o : Op) → slice_get kept.ops o.k ≡ Some o → is_load_from (n + 1) kept o ≡ false
      none o found =
          rw (not_from (n + 1) (slice_index kept.seen o.k) (omega (arith, m.seen.in_log o.k (omega (arith, slice_get_within kept.ops o.k o found, m.seen.one_each)), length-map log made, e)))
          (and_none (is_load o))

  loads_split : (s : ℕ) → number_of q (filter (is_load_from s kept) kept.ops) ≡ number_of q (filter (is_load_at s kept) kept.ops) + number_of q (filter (is_load_from (s + 1) kept) kept.ops)
  loads_split s = number_split q (is_load_from s kept) (is_load_at s kept) (is_load_from (s + 1) kept) kept.ops (λ o. seen_parted s (slice_index kept.seen o.k) (is_load o))

  woven_number : (s : ℕ) (es : List Op) → s + length es ≡ length log → number_of own (woven (loads_at records) s es) ≡ number_of q (filter (is_load_from s kept) kept.ops) + number_of own es
  woven_number s [] e = omega (arith, chosen_number (is_load_at s), loads_split s, none_past s (omega (arith, e)))
  woven_number s (x ∷ es) e =
      omega (
        arith,
        number-append own (loads_at records s) (x ∷ woven (loads_at records) (s + 1) es),
        number-append own (x ∷ []) (woven (loads_at records) (s + 1) es),
        number-append own (x ∷ []) es,
        chosen_number (is_load_at s),
        loads_split s,
        woven_number (s + 1) es (omega (arith, e, add-one (length es))),
      )

  all_loads : number_of q (filter (is_load_from 0 kept) kept.ops) ≡ number_of q (filter is_load kept.ops)
  all_loads = ap (λ (os : List Op). number_of q os) (filter_by (is_load_from 0 kept) is_load kept.ops (λ o. rw (le-leb 0 (slice_index kept.seen o.k) (omega arith)) (and_all (is_load o))))

  all_kinds : number_of q kept.ops ≡ number_of q (filter is_load kept.ops) + number_of q (filter enters kept.ops) + number_of q (filter is_lost kept.ops)
  all_kinds = omega (
    arith,
    ap (λ (os : List Op). number_of q os) (filter_all every kept.ops (each_all (λ (o : Op). every o ≡ true) kept.ops (λ o. refl))),
    number_split q every is_load stores kept.ops (λ o. kinds_parted o.kind o refl),
    number_split q stores enters is_lost kept.ops (λ o. stores_parted o.kind o refl),
  )

  log_number : number_of own log ≡ number_of q (filter enters kept.ops)
  log_number = own_number log ∙ ap (λ (os : List Op). number_of q os) m.entries

  pub order_number : number_of own (woven (loads_at records) 0 log ++ chosen is_lost_in records) ≡ number_of q kept.ops
  order_number = omega (arith, number-append own (woven (loads_at records) 0 log) (chosen is_lost_in records), woven_number 0 log (omega arith), all_loads, all_kinds, log_number, chosen_number is_lost_in)

-- ---- each operation stands once

module _ (initial : ℕ → ℕ) (records : List CoreRecord) (log : List Op) (h : AreTogether initial records log) (r : Op) (kept : CoreRecord) (m : OfCore initial records log h r kept) where
  abbrev order : List Op
  order = woven (loads_at records) 0 log ++ chosen is_lost_in records

  pub core_number : count_by (of_core r.core) (woven (loads_at records) 0 log ++ chosen is_lost_in records) ≡ length kept.ops
  core_number =
      sym (length-filter (of_core r.core) order)
      ∙ (ap (λ (os : List Op). length os) (filter_by (of_core r.core) (λ o. of_core r.core o && every o) order (λ o. sym (and_all (of_core r.core o))))
      ∙ (order_number initial records log h r kept m every
      ∙ ap (λ (os : List Op). length os) (filter_all every kept.ops (each_all (λ (o : Op). every o ≡ true) kept.ops (λ o. refl)))))

  pub once_at : OnceAtCore (woven (loads_at records) 0 log ++ chosen is_lost_in records) r.core
  once_at k within =
      sym (length-filter (is_number r.core k) order)
      ∙ (order_number initial records log h r kept m (λ o. o.k == k)
      ∙ one_number 0 k kept.ops m.numbered (omega arith) (omega (arith, within, core_number)))
