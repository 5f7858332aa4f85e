-- An operation of the order, and the record that it is of.
use Rattle.std.proofs.Common.{◌≡◌, ◌∙◌, ◌+◌, ◌<◌, ◌≤◌, ◌++◌, ℕ, Bool, true, false, List, [], ◌∷◌, length, filter, map, slice_get, Option, Some, None, IfSome, refl, ap, sym, subst, inl, inr, arith}
use Rattle.std.proofs.lemmas.Bool.{cases_Bool}
use Rattle.std.specs.List.{AllByRecursion as Each}
use Rattle.lf_model.proofs.EachLemmas.{each_second, each_weaker, each_both}
use Rattle.lf_model.specs.Operation.{of_core, enters, stores, reads, is_lost, kind_reads, kind_made, made}
use Rattle.lf_model.specs.Records.SeenOrder.{is_load, LostIsLast, HasSeen}
use Rattle.lf_model.specs.declared.bus.OpKind.{OpKind}
use Rattle.lf_model.specs.declared.bus.OpKind.TheVariants.{Load, Store, Atomic, Lost}
use Rattle.lf_model.specs.declared.record.CoreRecord.{CoreRecord}
use Rattle.lf_model.specs.declared.trace.Op.{Op}
use Rattle.run_trace.proofs.Cores.{OwnFrom, some_at, split_own}
use Rattle.run_trace.proofs.Lists.{each_filter, each_all}
use Rattle.run_trace.proofs.Numbers.{Numbered, LostLast, numbered_by, numbered_from, at_number}

-- ---- kinds

load_kinds : (kind : OpKind) (o : Op) → o.kind ≡ kind → is_load o ≡ true → (enters o ≡ false) × (stores o ≡ false)
load_kinds Load o e h = rw e (refl, refl)
load_kinds Store o e h = let k = rw e at h in absurd cc
load_kinds Atomic o e h = let k = rw e at h in absurd cc
load_kinds Lost o e h = let k = rw e at h in absurd cc

pub load_enters_not : (o : Op) → is_load o ≡ true → enters o ≡ false
load_enters_not o h = (load_kinds o.kind o refl h).0

pub load_stores_not : (o : Op) → is_load o ≡ true → stores o ≡ false
load_stores_not o h = (load_kinds o.kind o refl h).1

enters_kinds : (kind : OpKind) (o : Op) → o.kind ≡ kind → enters o ≡ true → stores o ≡ true
enters_kinds Load o e h = let k = rw e at h in absurd cc
enters_kinds Store o e h = rw e refl
enters_kinds Atomic o e h = rw e refl
enters_kinds Lost o e h = let k = rw e at h in absurd cc

pub enters_stores : (o : Op) → enters o ≡ true → stores o ≡ true
enters_stores o h = enters_kinds o.kind o refl h

lost_kinds : (kind : OpKind) (o : Op) → o.kind ≡ kind → is_lost o ≡ true → (stores o ≡ true) × (reads o ≡ false)
lost_kinds Load o e h = let k = rw e at h in absurd cc
lost_kinds Store o e h = let k = rw e at h in absurd cc
lost_kinds Atomic o e h = let k = rw e at h in absurd cc
lost_kinds Lost o e h = rw e (refl, refl)

pub lost_stores : (o : Op) → is_lost o ≡ true → stores o ≡ true
lost_stores o h = (lost_kinds o.kind o refl h).0

pub lost_reads_not : (o : Op) → is_lost o ≡ true → reads o ≡ false
lost_reads_not o h = (lost_kinds o.kind o refl h).1

reads_kinds : (kind : OpKind) (o : Op) → o.kind ≡ kind → reads o ≡ true → kind_reads (kind_made o.kind) ≡ true
reads_kinds Load o e h = rw e refl
reads_kinds Store o e h = let k = rw e at h in absurd cc
reads_kinds Atomic o e h = rw e refl
reads_kinds Lost o e h = let k = rw e at h in absurd cc

pub reads_made : (o : Op) → reads o ≡ true → kind_reads (kind_made o.kind) ≡ true
reads_made o h = reads_kinds o.kind o refl h

-- ---- lost stores come last

pub lost_last_by : (n : ℕ) (os : List Op) → Numbered n os → Each (LostIsLast os) os → LostLast os
lost_last_by n [] numbered h = tt
lost_last_by n (o ∷ os) numbered h = (first, lost_last_by (n + 1) os numbered.1 (each_weaker (LostIsLast (o ∷ os)) (LostIsLast os) os (λ x f lost. (f lost).1) h.1))
  where
    no_pass : false ≡ true → ⊥
    no_pass e = cc

    later : Each (λ (x : Op). o.k < x.k) os
    later = each_weaker (λ (x : Op). n + 1 ≤ x.k) (λ (x : Op). o.k < x.k) os (λ x high. omega (arith, high, numbered.0)) (numbered_from (n + 1) os numbered.1)

    no_later : is_lost o ≡ true → (x : Op) → (enters x ≡ true → x.k < o.k) → o.k < x.k → enters x ≡ false
    no_later lost x f high = elim (cases_Bool (enters x)) [
      | inl is ↦ absurd (omega (arith, f is, high))
      | inr not ↦ not
    ]

    first : Each (λ (x : Op). is_lost o ≡ true → enters x ≡ false) os
    first = elim (cases_Bool (is_lost o)) [
      | inl lost ↦ each_both (λ (x : Op). enters x ≡ true → x.k < o.k) (λ (x : Op). o.k < x.k) (λ (x : Op). is_lost o ≡ true → enters x ≡ false) os (λ x f high same. no_later lost x f high) (h.0 lost).1 later
      | inr not ↦ each_all (λ (x : Op). is_lost o ≡ true → enters x ≡ false) os (λ x lost. absurd (no_pass (sym not ∙ lost)))
    ]

-- ---- records that fit together, over the log as operations

pub record AreTogether (initial : ℕ → ℕ) (records : List CoreRecord) (log : List Op) : Type 0 where
  pub own : OwnFrom 0 records
  pub seen : (c : ℕ) → IfSome (slice_get records c) (λ kept. HasSeen initial c kept.ops kept.seen (map made log))
  pub entries : (c : ℕ) → IfSome (slice_get records c) (λ kept. filter (of_core c) log ≡ filter enters kept.ops)
  pub enter : Each (λ (e : Op). enters e ≡ true) log
  pub cores : Each (λ (e : Op). e.core < length records) log

module _ (initial : ℕ → ℕ) (records : List CoreRecord) (log : List Op) (h : AreTogether initial records log) where
  -- the record of an operation's core
  pub record OfCore (r : Op) (kept : CoreRecord) : Type 0 where
    pub found : slice_get records r.core ≡ Some kept
    pub seen : HasSeen initial r.core kept.ops kept.seen (map made log)
    pub entries : filter (of_core r.core) log ≡ filter enters kept.ops
    pub numbered : Numbered 0 kept.ops
    pub lost_last : LostLast kept.ops

  pub of_core_found : (r : Op) (kept : CoreRecord) → slice_get records r.core ≡ Some kept → OfCore r kept
  of_core_found r kept found =
      let seen = subst (λ o. IfSome o (λ (k : CoreRecord). HasSeen initial r.core k.ops k.seen (map made log))) found (h.seen r.core) in
      let numbered = numbered_by 0 kept.ops (λ j. zero_plus j (slice_get kept.ops j) (seen.numbered j)) in
      record {
        found = found;
        seen = seen;
        entries = subst (λ o. IfSome o (λ (k : CoreRecord). filter (of_core r.core) log ≡ filter enters k.ops)) found (h.entries r.core);
        numbered = numbered;
        lost_last = lost_last_by 0 kept.ops numbered seen.lost_last;
      }
    where
      zero_plus : (j : ℕ) (o : Option Op) → IfSome o (λ x. x.k ≡ j) → IfSome o (λ x. x.k ≡ 0 + j)
      zero_plus j None k = tt
      zero_plus j (Some x) k = omega (arith, k)

  -- an operation of a part of its core's list is at its number there
  pub at_part : (r : Op) (kept : CoreRecord) → OfCore r kept → (test : Op → Bool) (left right : List Op) → filter test kept.ops ≡ left ++ (r ∷ right) → slice_get kept.ops r.k ≡ Some r
  at_part r kept m test left right parts =
      (each_second (λ (o : Op). slice_get kept.ops o.k ≡ Some o) left (r ∷ right)
      (subst (λ (os : List Op). Each (λ (o : Op). slice_get kept.ops o.k ≡ Some o) os) parts
      (each_filter (λ (o : Op). slice_get kept.ops o.k ≡ Some o) test kept.ops (at_number kept.ops m.numbered)))).0

  -- an entry of the log
  pub record EntryOf (r : Op) (front back : List Op) : Type 0 where
    pub kept : CoreRecord
    pub member : OfCore r kept
    pub entering : enters r ≡ true
    pub parts : filter enters kept.ops ≡ filter (of_core r.core) front ++ (r ∷ filter (of_core r.core) back)

  pub entry_of : (r : Op) (front back : List Op) → log ≡ front ++ (r ∷ back) → EntryOf r front back
  entry_of r front back e =
      let within = each_second (λ (o : Op). o.core < length records) front (r ∷ back) (subst (λ (os : List Op). Each (λ (o : Op). o.core < length records) os) e h.cores) in
      let entering = each_second (λ (o : Op). enters o ≡ true) front (r ∷ back) (subst (λ (os : List Op). Each (λ (o : Op). enters o ≡ true) os) e h.enter) in
      let at = some_at records r.core within.0 in
      let m = of_core_found r at.0 at.1 in
      record {
        kept = at.0;
        member = m;
        entering = entering.0;
        parts = sym m.entries ∙ (ap (filter (of_core r.core)) e ∙ split_own (λ kept o. true) r front back);
      }
