-- Which of a core's stores, counted from 0, its record reports as lost: none, or the last ones, which waited.
use Rattle.std.proofs.Common.{◌≡◌, ◌∙◌, ◌+◌, ◌-◌, ◌<◌, ◌≤◌, ◌++◌, ℕ, true, false, nat_le, List, [], ◌∷◌, length, map, filter, refl, ap, sym, subst, arith}
use Rattle.std.proofs.lemmas.Bool.{le-leb, lt-leb}
use Rattle.std.proofs.lemmas.List.{length-append, length-map, map-append}
use Rattle.std.proofs.lemmas.List.Elements.{filter-append}
use Rattle.std.specs.List.{range_with_len, zip}
use Rattle.std.specs.List.{AllByRecursion as Each}
use Rattle.core_laws.proofs.ListLemmas.{each_every, each_map, each_filter, filter_all, filter_within}
use Rattle.core_laws.proofs.LostKinds.{lost_if, lost_stays_store}
use Rattle.core_laws.proofs.SeenEnd.{first, rest, parts, rest_made, numbers, rest_stores}
use Rattle.core_laws.specs.SeenSoFar.{HasSeenSoFar, lost_from, losing}
use Rattle.lf_model.proofs.EachLemmas.{each_first, each_both, filter_map_same}
use Rattle.lf_model.specs.Course.Core.{is_store_kind, is_store}
use Rattle.lf_model.specs.Ledger.CoreAccount.{lost_reported}
use Rattle.lf_model.specs.Operation.{kind_stores, kind_is_lost, stores, is_lost, made}
use Rattle.lf_model.specs.declared.bus.Entry.{Entry}
use Rattle.lf_model.specs.declared.bus.OpKind.{OpKind}
use Rattle.lf_model.specs.declared.bus.OpKind.TheVariants.{Load, Store, Atomic, Lost}
use Rattle.lf_model.specs.declared.trace.Op.{Op}

-- the lost ones of these stores, counted from n
abbrev lost_places : ℕ → List Op → List ℕ
lost_places n os = map (λ (o : ℕ × Op). o.0) (filter (λ (o : ℕ × Op). is_lost o.1) (zip (range_with_len n (length os)) os))

pub none_lost : (n : ℕ) (os : List Op) → Each (λ o. is_lost o ≡ false) os → lost_places n os ≡ []
none_lost n [] h = refl
none_lost n (o ∷ os) h = rw h.0 (none_lost (n + 1) os h.1)

all_lost : (n : ℕ) (os : List Op) → Each (λ o. is_lost o ≡ true) os → lost_places n os ≡ range_with_len n (length os)
all_lost n [] h = refl
all_lost n (o ∷ os) h = rw h.0 (ap (λ places. n ∷ places) (all_lost (n + 1) os h.1))

behind_kept : (n : ℕ) (os more : List Op) → Each (λ o. is_lost o ≡ false) os → lost_places n (os ++ more) ≡ lost_places (n + length os) more
behind_kept n [] more h = ap (λ m. lost_places m more) (omega arith)
behind_kept n (o ∷ os) more h = rw h.0 (behind_kept (n + 1) os more h.1 ∙ ap (λ m. lost_places m more) (omega arith))

stays : (kind : OpKind) → kind_is_lost kind ≡ false → kind_is_lost (lost_if false kind) ≡ false
stays Load e = refl
stays Store e = refl
stays Atomic e = refl
stays Lost e = e

goes : (kind : OpKind) → is_store_kind kind ≡ true → kind_is_lost (lost_if true kind) ≡ true
goes Load e = absurd (cc)
goes Store e = refl
goes Atomic e = absurd (cc)
goes Lost e = refl

store_stores : (kind : OpKind) → is_store_kind kind ≡ true → kind_stores kind ≡ true
store_stores Load e = absurd (cc)
store_stores Store e = refl
store_stores Atomic e = refl
store_stores Lost e = refl

-- a core ends of which no store waits
pub reports_none : (ops : List Op) → Each (λ o. is_lost o ≡ false) ops → lost_reported (filter is_store ops) ≡ []
reports_none ops h = none_lost 0 (filter is_store ops) (each_filter (λ o. is_lost o ≡ false) is_store ops h)

module _ (initial : ℕ → ℕ) (c : ℕ) (ops : List Op) (seen : List ℕ) (log : List Entry) (e : Entry) (later : List Entry) (h : HasSeenSoFar initial c ops seen log (e ∷ later)) where
  abbrev lost : Op → Op
  lost = lost_from e.k

  abbrev before : List Op
  before = first initial c ops seen log e later h

  abbrev waiting : List Op
  waiting = rest initial c ops seen log e later h

  all_stores : filter is_store ops ≡ filter is_store before ++ waiting
  all_stores =
      sym (filter_within is_store stores ops (λ o store. store_stores o.kind store))
      ∙ (ap (filter is_store) (sym (parts initial c ops seen log e later h))
      ∙ (filter-append is_store before waiting
      ∙ ap (λ os. filter is_store before ++ os) (filter_all is_store waiting (rest_stores initial c ops seen log e later h))))

  stores_now : filter is_store (losing e.k ops) ≡ map lost (filter is_store before) ++ map lost waiting
  stores_now =
      sym (filter_map_same is_store is_store lost ops (each_every (λ (o : Op). is_store o ≡ is_store (lost o)) ops (λ o. sym (lost_stays_store o.kind (nat_le e.k o.k)))))
      ∙ (ap (map lost) all_stores ∙ map-append lost (filter is_store before) waiting)

  kept : Each (λ (o : Op). is_lost o ≡ false) (map lost (filter is_store before))
  kept = each_map (λ (o : Op). is_lost o ≡ false) lost (filter is_store before)
      (each_filter (λ (o : Op). is_lost (lost o) ≡ false) is_store before
      (each_both (λ (o : Op). o.k < e.k) (λ (o : Op). is_lost o ≡ false) (λ (o : Op). is_lost (lost o) ≡ false) before
      (λ o below not_lost. rw (lt-leb e.k o.k below) (stays o.kind not_lost)) (numbers initial c ops seen log e later h).0
      (each_first (λ (o : Op). is_lost o ≡ false) before waiting
      (subst (Each (λ (o : Op). is_lost o ≡ false)) (sym (parts initial c ops seen log e later h)) (each_filter (λ (o : Op). is_lost o ≡ false) stores ops h.none_lost)))))

  gone : Each (λ (o : Op). is_lost o ≡ true) (map lost waiting)
  gone = each_map (λ (o : Op). is_lost o ≡ true) lost waiting
      (each_both (λ (o : Op). e.k ≤ o.k) (λ (o : Op). is_store o ≡ true) (λ (o : Op). is_lost (lost o) ≡ true) waiting
      (λ o above store. rw (le-leb e.k o.k above) (goes o.kind store)) (numbers initial c ops seen log e later h).1 (rest_stores initial c ops seen log e later h))

  waiting_count : length waiting ≡ length (e ∷ later)
  waiting_count = sym (length-map waiting made) ∙ ap length (rest_made initial c ops seen log e later h)

  -- a core ends whose stores that wait are lost: they are the last ones
  pub reports_waiting : lost_reported (filter is_store (losing e.k ops)) ≡ range_with_len (length (filter is_store ops) - length (e ∷ later)) (length (e ∷ later))
  reports_waiting =
      ap lost_reported stores_now
      ∙ (behind_kept 0 (map lost (filter is_store before)) (map lost waiting) kept
      ∙ (all_lost (0 + length (map lost (filter is_store before))) (map lost waiting) gone
      ∙ (ap (λ n. range_with_len n (length (map lost waiting))) from ∙ ap (range_with_len (length (filter is_store ops) - length (e ∷ later))) (length-map waiting lost ∙ waiting_count))))
    where
      from : 0 + length (map lost (filter is_store before)) ≡ length (filter is_store ops) - length (e ∷ later)
      from = omega (arith, length-map (filter is_store before) lost, ap length all_stores, length-append (filter is_store before) waiting, waiting_count)
