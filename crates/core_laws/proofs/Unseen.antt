-- What a core has seen of the log: the entries up to its last turn. The addresses that its data cache has to snoop next are those of the
-- entries behind them.
use Rattle.std.proofs.Common.{◌≡◌, ◌∙◌, ◌+◌, ◌-◌, ◌==◌, ◌++◌, ℕ, zero, suc, Bool, true, false, List, [], ◌∷◌, length, drop, map, filter, fold, refl, ap, sym, subst, arith, inl, inr, if◌then◌else◌}
use Rattle.std.proofs.lemmas.Bool.{cases_Bool, and_parts}
use Rattle.std.proofs.lemmas.Grind.{flat_map-append}
use Rattle.std.proofs.lemmas.List.{append_assoc, append-nil, length-append, drop-append-le, drop_all}
use Rattle.std.proofs.lemmas.Simd.{map-map}
use Rattle.std.specs.Int.{from_bool}
use Rattle.std.specs.List.{flat_map, list_all}
use Rattle.lf_model.proofs.BusLemmas.{successful-enters}
use Rattle.lf_model.proofs.CourseLemmas.{IsAt, observe_own, observe_others}
use Rattle.lf_model.specs.Course.Core.{Ground}
use Rattle.lf_model.specs.Course.Course.{stored_at, others_turn, up_to, observe, course}
use Rattle.lf_model.specs.Course.LocalStep.{local_step, local_steps}
use Rattle.lf_model.specs.Course.Progress.{Progress, start}
use Rattle.lf_model.specs.Course.Syndromes.{enters_log}
use Rattle.lf_model.specs.Course.Turned.{own_turn}
use Rattle.lf_model.specs.Records.BusRecord.{is_successful, Placed, entry_placed, transfer_placed, is_in_memory}
use Rattle.lf_model.specs.declared.bus.Entry.{Entry}
use Rattle.lf_model.specs.declared.bus.Transfer.{Transfer}

-- the addresses at which transfers stored
abbrev pub all_stored : List Transfer → List ℕ
all_stored ts = flat_map stored_at ts

-- the core has seen so many of the entries of these transfers, and has to snoop the others
pub record SnoopsLater (ts : List Transfer) (k : Progress) : Type 0 where
  pub counted : k.seen + length k.unseen ≡ length (all_stored ts)
  pub unseen : k.unseen ≡ drop k.seen (all_stored ts)

stored_more : (ts : List Transfer) (t : Transfer) → all_stored (ts ++ t ∷ []) ≡ all_stored ts ++ stored_at t
stored_more ts t = flat_map-append stored_at ts (t ∷ []) ∙ ap (λ addrs. all_stored ts ++ addrs) (append-nil (stored_at t))

stored_count : (t : Transfer) (enters : Bool) → enters_log t ≡ enters → length (stored_at t) ≡ from_bool (enters_log t)
stored_count t true e = rw e refl
stored_count t false e = rw e refl

module _ (g : Ground) where
  step_leaves : (ts : List Transfer) (k : Progress) → SnoopsLater ts k → SnoopsLater ts (local_step g k)
  unfolding local_step
  step_leaves ts k h = record { counted = h.counted; unseen = h.unseen }

  steps_leave : (ts : List Transfer) (n : ℕ) (k : Progress) → SnoopsLater ts k → SnoopsLater ts (local_steps g n k)
  steps_leave ts zero k h = h
  steps_leave ts (suc n) k h = steps_leave ts n (local_step g k) (step_leaves ts k h)

  turn_sees : (ts : List Transfer) (t : Transfer) (k : Progress) → SnoopsLater ts k → SnoopsLater (ts ++ t ∷ []) (own_turn g t k)
  unfolding own_turn
  turn_sees ts t k h =
      let all : length (all_stored (ts ++ t ∷ [])) ≡ k.seen + length k.unseen + from_bool (enters_log t) =
      ap length (stored_more ts t) ∙ (length-append (all_stored ts) (stored_at t) ∙ omega (arith, h.counted, stored_count t (enters_log t) refl)) in
      record { counted = omega (arith, all); unseen = sym (drop_all (k.seen + length k.unseen + from_bool (enters_log t)) (all_stored (ts ++ t ∷ [])) (omega (arith, all))) }

  others_add : (ts : List Transfer) (t : Transfer) (k : Progress) → SnoopsLater ts k → SnoopsLater (ts ++ t ∷ []) (others_turn t k)
  others_add ts t k h = record {
    counted = omega (arith, h.counted, ap length (stored_more ts t), length-append (all_stored ts) (stored_at t), length-append k.unseen (stored_at t));
    unseen = ap (λ addrs. addrs ++ stored_at t) h.unseen
        ∙ (sym (drop-append-le k.seen (all_stored ts) (stored_at t) (omega (arith, h.counted))) ∙ ap (drop k.seen) (sym (stored_more ts t)));
  }

  observed : (ts : List Transfer) (t : Transfer) (k : Progress) → SnoopsLater ts k → SnoopsLater (ts ++ t ∷ []) (observe g k t)
  observed ts t k h = elim (cases_Bool (g.core == t.master)) [
    | inl own ↦ subst (SnoopsLater (ts ++ t ∷ [])) (sym (observe_own g t k own)) (turn_sees ts t (up_to g t k) (steps_leave ts (t.step - k.steps) k h))
    | inr other ↦ subst (SnoopsLater (ts ++ t ∷ [])) (sym (observe_others g t k other)) (others_add ts t k h)
  ]

  all_observed : (pre ts : List Transfer) (k : Progress) → SnoopsLater pre k → SnoopsLater (pre ++ ts) (fold (observe g) k ts)
  all_observed pre [] k h = subst (λ us. SnoopsLater us k) (sym (append-nil pre)) h
  all_observed pre (t ∷ ts) k h = subst (λ us. SnoopsLater us (fold (observe g) (observe g k t) ts)) (append_assoc pre (t ∷ []) ts)
      (all_observed (pre ++ t ∷ []) ts (observe g k t) (observed pre t k h))

  -- a core that has come so far
  pub snoops_later : (ts : List Transfer) (n : ℕ) (k : Progress) → IsAt g ts n k → SnoopsLater ts k
  snoops_later ts n k h = subst (SnoopsLater ts) (sym h.at) (steps_leave ts n (course g ts) (all_observed [] ts (start g) (record { counted = refl; unseen = refl })))

-- ---- the entries of the log

stored_by : (t : Transfer) (ts : List Transfer) (enters : Bool) → enters_log t ≡ enters → all_stored ts ≡ map (λ u. u.addr) (filter enters_log ts)
    → all_stored (t ∷ ts) ≡ map (λ u. u.addr) (filter enters_log (t ∷ ts))
stored_by t ts true e later = rw e (ap (λ addrs. t.addr ∷ addrs) later)
stored_by t ts false e later = rw e later

stored_is : (ts : List Transfer) → all_stored ts ≡ map (λ u. u.addr) (filter enters_log ts)
stored_is [] = refl
stored_is (t ∷ ts) = stored_by t ts (enters_log t) refl (stored_is ts)

successful_is : (ram : ℕ) (ts : List Transfer) → list_all (is_in_memory ram) ts ≡ true → filter is_successful ts ≡ filter enters_log ts
successful_is ram [] fine = refl
successful_is ram (t ∷ ts) fine =
    let parts = and_parts (is_in_memory ram t) (list_all (is_in_memory ram) ts) fine in
    rw (successful-enters ram t parts.0) (ap (λ us. if enters_log t then t ∷ us else us) (successful_is ram ts parts.1))

-- the transfers of the bus stored at the addresses of its log, so that a core snoops those of the entries behind what it has seen
pub stored_by_log : (ram : ℕ) (log : List Entry) (ts : List Transfer) → map entry_placed log ≡ map transfer_placed (filter is_successful ts) → list_all (is_in_memory ram) ts ≡ true
    → all_stored ts ≡ map (λ (e : Entry). e.addr) log
stored_by_log ram log ts log_is fine =
    stored_is ts
    ∙ (ap (map (λ (t : Transfer). t.addr)) (sym (successful_is ram ts fine))
    ∙ (sym (map-map (λ (p : Placed). p.addr) transfer_placed (filter is_successful ts))
    ∙ (ap (map (λ (p : Placed). p.addr)) (sym log_is) ∙ map-map (λ (p : Placed). p.addr) entry_placed log)))
