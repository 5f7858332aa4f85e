-- What a core has seen of memory order as a turn stops it, and which of its stores are lost then.
use Rattle.std.proofs.Common.{◌≡◌, ◌∙◌, ◌+◌, ◌-◌, ◌++◌, ℕ, true, false, List, [], ◌∷◌, length, filter, ap, sym, subst, arith}
use Rattle.std.proofs.lemmas.List.{append-nil, length-map, nil_from_length}
use Rattle.std.specs.List.{AllByRecursion as Each, range_with_len}
use Rattle.core_laws.proofs.Given.{given_more, given_lost}
use Rattle.core_laws.proofs.LostAccount.{reports_none, reports_waiting}
use Rattle.core_laws.proofs.SeenEnd.{seen_end, seen_end_losing}
use Rattle.core_laws.proofs.SeenLog.{seen_others}
use Rattle.core_laws.specs.Running.{with_later}
use Rattle.core_laws.specs.SeenSoFar.{HasSeenSoFar, losing}
use Rattle.core_parts.specs.CoreValue.{CoreValue}
use Rattle.core_parts.specs.Completes.{CompletesNone}
use Rattle.core_course.specs.CoreOk.{buffer_of, waiting_of, GoesOn}
use Rattle.lf_model.specs.Course.Core.{Ground, given_by, is_store, is_store_stop}
use Rattle.lf_model.specs.Course.Progress.{Progress}
use Rattle.lf_model.specs.Course.Turned.{own_turn}
use Rattle.lf_model.specs.Ledger.CoreAccount.{stores_lost, lost_reported}
use Rattle.lf_model.specs.Names.{same_kind}
use Rattle.lf_model.specs.Operation.{is_lost}
use Rattle.lf_model.specs.Records.SeenOrder.{is_entry_of, HasSeen}
use Rattle.lf_model.specs.Start.{initial_byte}
use Rattle.lf_model.specs.declared.bus.Entry.{Entry}
use Rattle.lf_model.specs.declared.bus.Transfer.{Transfer}
use Rattle.lf_model.specs.declared.bus.TurnKind.TheVariants.{Store}

-- the stores that the course loses at such a turn: the one that drained, and those that wait
lost_in_turn : (g : Ground) (t : Transfer) (k : Progress) → is_store_stop g.end ≡ true → same_kind t.kind Store ≡ true → (own_turn g t k).stored ≡ k.stored
    → stores_lost g (own_turn g t k) ≡ range_with_len k.drained (k.stored - k.drained)
unfolding own_turn
lost_in_turn g t k stop store same = rw (stop, store, same) (ap (λ n. range_with_len n (k.stored - n)) (less k.drained))
  where
    less : (n : ℕ) → n + 1 - 1 ≡ n
    less n = omega arith

module _ (old new : CoreValue) (seen : List Entry) (ts : List Transfer) (more : List Entry) (h : GoesOn old seen ts) (others : Each (λ e. is_entry_of old.arch.core e ≡ false) more) where
  abbrev initial : ℕ → ℕ
  initial = initial_byte old.setup.image

  caught_up : HasSeenSoFar initial old.arch.core old.ops old.seen_by (seen ++ more) (buffer_of old)
  caught_up = seen_others initial old.arch.core old.ops old.seen_by seen (buffer_of old) more h.has_seen others

  -- ---- no store waits

  module _ (c : CompletesNone old new) (none : length old.ports.waiting ≡ 0) where
    empty : buffer_of old ≡ []
    empty = nil_from_length (buffer_of old) (omega (arith, none, ap length h.waits, length-map (buffer_of old) waiting_of))

    pub given_same : given_by new.ops ≡ with_later (given_by old.ops) (given_by [])
    given_same = ap given_by (c.ops ∙ sym (append-nil old.ops)) ∙ given_more old.ops []

    pub sees_end : HasSeen initial old.arch.core new.ops new.seen_by (seen ++ more)
    sees_end = rw (c.ops, c.seen_by) (seen_end initial old.arch.core old.ops old.seen_by (seen ++ more) (subst (HasSeenSoFar initial old.arch.core old.ops old.seen_by (seen ++ more)) empty caught_up))

    pub none_waits : new.ports.waiting ≡ []
    none_waits = c.waiting ∙ nil_from_length old.ports.waiting none

    pub none_is_lost : Each (λ o. is_lost o ≡ false) new.ops
    none_is_lost = rw c.ops caught_up.none_lost

    pub loses_none : (g : Ground) (k : Progress) → is_store_stop g.end ≡ false → stores_lost g k ≡ lost_reported (filter is_store new.ops)
    loses_none g k no_store = rw no_store (sym (reports_none new.ops none_is_lost))

  -- ---- a drain stops it: that store and those after it are lost

  module _ (e : Entry) (later : List Entry) (buffer : buffer_of old ≡ e ∷ later) (lost : new.ops ≡ losing e.k old.ops) (same : new.seen_by ≡ old.seen_by) where
    waiting_seen : HasSeenSoFar initial old.arch.core old.ops old.seen_by (seen ++ more) (e ∷ later)
    waiting_seen = subst (HasSeenSoFar initial old.arch.core old.ops old.seen_by (seen ++ more)) buffer caught_up

    pub given_losing : given_by new.ops ≡ with_later (given_by old.ops) (given_by [])
    given_losing = ap given_by lost ∙ (given_lost e.k old.ops ∙ (ap given_by (sym (append-nil old.ops)) ∙ given_more old.ops []))

    pub sees_losing : HasSeen initial old.arch.core new.ops new.seen_by (seen ++ more)
    sees_losing = rw (lost, same) (seen_end_losing initial old.arch.core old.ops old.seen_by (seen ++ more) e later waiting_seen)

    pub loses_waiting : (g : Ground) (t : Transfer) (k : Progress) → is_store_stop g.end ≡ true → same_kind t.kind Store ≡ true → (own_turn g t k).stored ≡ k.stored
        → k.stored ≡ length (filter is_store old.ops) → k.drained + length old.ports.waiting ≡ k.stored
        → stores_lost g (own_turn g t k) ≡ lost_reported (filter is_store new.ops)
    loses_waiting g t k stop store kept stored waits =
        let many : length old.ports.waiting ≡ length (e ∷ later) = ap length h.waits ∙ (length-map (buffer_of old) waiting_of ∙ ap length buffer) in
        let from : k.drained ≡ length (filter is_store old.ops) - length (e ∷ later) = omega (arith, many, stored, waits) in
        let count : k.stored - k.drained ≡ length (e ∷ later) = omega (arith, many, stored, waits) in
        lost_in_turn g t k stop store kept
        ∙ (ap (λ n. range_with_len n (k.stored - k.drained)) from
        ∙ (ap (range_with_len (length (filter is_store old.ops) - length (e ∷ later))) count
        ∙ sym (ap (λ os. lost_reported (filter is_store os)) lost ∙ reports_waiting initial old.arch.core old.ops old.seen_by (seen ++ more) e later waiting_seen)))
