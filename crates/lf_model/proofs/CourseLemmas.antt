-- The course of a core: transfers of others leave what the core has done, and its local steps and its turn carry it on.
use Rattle.std.proofs.Common.{◌≡◌, ◌∙◌, ◌+◌, ◌-◌, ◌==◌, ◌++◌, ℕ, zero, suc, true, false, List, [], ◌∷◌, fold, refl, ap, sym, add-one, arith}
use Rattle.std.proofs.lemmas.List.{append_assoc, append-nil}
use Rattle.std.proofs.lemmas.List.Sums.{fold-append}
use Rattle.std.specs.List.{flat_map}
use Rattle.std.specs.List.{AllByRecursion as Each}
use Rattle.lf_model.specs.Course.Core.{Ground}
use Rattle.lf_model.specs.Course.Course.{stored_at, with_unseen, others_turn, up_to, observe, course}
use Rattle.lf_model.specs.Course.LocalStep.{local_step, local_steps}
use Rattle.lf_model.specs.Course.Progress.{Progress, start}
use Rattle.lf_model.specs.Course.Turned.{own_turn}
use Rattle.lf_model.specs.declared.bus.Transfer.{Transfer}

module _ (g : Ground) where
  -- the transfer is another's
  abbrev pub IsOthers : Transfer → Type 0
  IsOthers t = (g.core == t.master) ≡ false

  -- ---- local steps, and transfers of others

  pub local_step_others : (t : Transfer) (k : Progress) → local_step g (others_turn t k) ≡ others_turn t (local_step g k)
  unfolding local_step
  local_step_others t k = refl

  pub local_step_counts : (k : Progress) → (local_step g k).steps ≡ k.steps + 1
  unfolding local_step
  local_step_counts k = refl

  pub local_steps_others : (n : ℕ) (t : Transfer) (k : Progress) → local_steps g n (others_turn t k) ≡ others_turn t (local_steps g n k)
  local_steps_others zero t k = refl
  local_steps_others (suc n) t k = ap (local_steps g n) (local_step_others t k) ∙ local_steps_others n t (local_step g k)

  -- one more step is made after the others
  pub local_steps_more : (n : ℕ) (k : Progress) → local_steps g (suc n) k ≡ local_step g (local_steps g n k)
  local_steps_more zero k = refl
  local_steps_more (suc n) k = local_steps_more n (local_step g k)

  pub local_steps_count : (n : ℕ) (k : Progress) → (local_steps g n k).steps ≡ k.steps + n
  local_steps_count zero k = omega arith
  local_steps_count (suc n) k = omega (arith, local_steps_count n (local_step g k), local_step_counts k, add-one n)

  -- ---- what the core makes of a transfer

  pub observe_others : (t : Transfer) (k : Progress) → IsOthers t → observe g k t ≡ others_turn t k
  unfolding observe
  observe_others t k other = rw other refl

  pub observe_own : (t : Transfer) (k : Progress) → (g.core == t.master) ≡ true → observe g k t ≡ own_turn g t (up_to g t k)
  unfolding observe
  observe_own t k own = rw own refl

  -- ---- later transfers of others leave what the core has done

  abbrev pub all_stored_at : List Transfer → List ℕ
  all_stored_at transfers = flat_map stored_at transfers

  pub later_others : (k : Progress) (us : List Transfer) → Each IsOthers us → fold (observe g) k us ≡ with_unseen (all_stored_at us) k
  later_others k [] others = ap (λ addrs. record k { unseen = addrs }) (sym (append-nil k.unseen))
  later_others k (u ∷ us) others =
      ap (λ j. fold (observe g) j us) (observe_others u k others.0)
      ∙ (later_others (others_turn u k) us others.1
      ∙ ap (λ addrs. record k { unseen = addrs }) (append_assoc k.unseen (stored_at u) (all_stored_at us)))

  -- so does a longer list of transfers, whose later ones are others'
  pub course_later : (ts us : List Transfer) → Each IsOthers us → course g (ts ++ us) ≡ with_unseen (all_stored_at us) (course g ts)
  course_later ts us others = fold-append (observe g) (start g) ts us ∙ later_others (course g ts) us others

  -- ---- a core that has made n local steps after these transfers

  pub record IsAt (ts : List Transfer) (n : ℕ) (k : Progress) : Type 0 where
    pub at : k ≡ local_steps g n (course g ts)

  pub at_start : IsAt [] 0 (start g)
  at_start = record { at = refl }

  -- it makes one more
  pub at_local_step : (ts : List Transfer) (n : ℕ) (k : Progress) → IsAt ts n k → IsAt ts (suc n) (local_step g k)
  at_local_step ts n k h = record { at = ap (local_step g) h.at ∙ sym (local_steps_more n (course g ts)) }

  -- another makes a turn
  pub at_others : (ts : List Transfer) (n : ℕ) (k : Progress) (t : Transfer) → IsAt ts n k → IsOthers t → IsAt (ts ++ t ∷ []) n (others_turn t k)
  at_others ts n k t h other = record {
    at = ap (others_turn t) h.at
        ∙ (sym (local_steps_others n t (course g ts))
        ∙ ap (local_steps g n) (sym (fold-append (observe g) (start g) ts (t ∷ []) ∙ observe_others t (course g ts) other)));
  }

  made : (ts : List Transfer) (n : ℕ) (k : Progress) (t : Transfer) → IsAt ts n k → t.step ≡ k.steps → n ≡ t.step - (course g ts).steps
  made ts n k t h step = omega (arith, step, ap (λ (j : Progress). j.steps) h.at, local_steps_count n (course g ts))

  -- it makes its own turn, whose transfer names the step after those that it made
  pub at_own_turn : (ts : List Transfer) (n : ℕ) (k : Progress) (t : Transfer) → IsAt ts n k → (g.core == t.master) ≡ true → t.step ≡ k.steps
      → IsAt (ts ++ t ∷ []) 0 (own_turn g t k)
  at_own_turn ts n k t h own step = record {
    at = ap (own_turn g t) (h.at ∙ ap (λ m. local_steps g m (course g ts)) (made ts n k t h step))
        ∙ sym (fold-append (observe g) (start g) ts (t ∷ []) ∙ observe_own t (course g ts) own);
  }
