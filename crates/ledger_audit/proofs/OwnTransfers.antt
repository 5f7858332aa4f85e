-- The transfers of a core are gone over one after the other: those in its steps, each of a later step than the one before, and then
-- those after its last step.
use Rattle.std.proofs.Common.{◌≡◌, ◌+◌, ◌==◌, ◌++◌, ℕ, Bool, true, false, List, [], ◌∷◌, ◌<◌, ◌≤◌, length, drop, get_or, ap, refl, sym, subst, Option, Some, None, inl, inr, if◌then◌else◌}
use Rattle.std.specs.Prelude.{nat_lt, nat_le}
use Rattle.std.specs.Option.{option_map_or}
use Rattle.std.proofs.lemmas.List.{drop_more, drop_all}
use Rattle.std.proofs.lemmas.Bool.{cases_Bool, and_parts, ltb-true, ltb-false, le-leb, lt-leb}
use Rattle.lf_model.specs.Ledger.Steps.{own_transfers, in_steps, past_steps, ascends_from}
use Rattle.lf_model.specs.declared.bus.Transfer.{Transfer}

-- the step from which on the next transfer may be, after this one, or none where this one may not be
abbrev pub next_from : ℕ → ℕ → ℕ → Transfer → Option ℕ
next_from core steps first t =
    if t.master == core then (if nat_lt t.step steps then (if nat_le first t.step then Some (t.step + 1) else None) else Some steps) else Some first

abbrev pub follows_from : ℕ → ℕ → ℕ → List Transfer → Bool
follows_from core steps first [] = true
follows_from core steps first (t ∷ ts) = option_map_or (λ next. follows_from core steps next ts) (next_from core steps first t) false

module _ (steps : ℕ) where
  not_past : (n : ℕ) → nat_lt n steps ≡ true → nat_le steps n ≡ false
  not_past n within = lt-leb steps n (ltb-true n steps within)

  is_past : (n : ℕ) → nat_lt n steps ≡ false → nat_le steps n ≡ true
  is_past n past = le-leb steps n (ltb-false n steps past)

  -- of no step at all
  none_from_end : (own : List Transfer) → ascends_from steps (in_steps steps own) ≡ true → in_steps steps own ≡ []
  none_from_end [] h = refl
  none_from_end (t ∷ own) h = elim (cases_Bool (nat_lt t.step steps)) [
    | inl within ↦
        let k = rw within at h in
        let late : nat_le steps t.step ≡ true = (and_parts (nat_le steps t.step) (ascends_from (t.step + 1) (in_steps steps own)) k).0 in
        let early : nat_le steps t.step ≡ false = not_past t.step within in
        absurd cc
    | inr past ↦ rw past (none_from_end own (rw past at h))
  ]

  first_within : (own : List Transfer) (u : Transfer) (us : List Transfer) → in_steps steps own ≡ u ∷ us → nat_lt u.step steps ≡ true
  first_within [] u us e = absurd cc
  first_within (t ∷ own) u us e = elim (cases_Bool (nat_lt t.step steps)) [
    | inl within ↦ let k = rw within at e in let same : t ≡ u = cc in subst (λ (x : Transfer). nat_lt x.step steps ≡ true) same within
    | inr past ↦ first_within own u us (rw past at e)
  ]

  -- one after the last step comes first
  none_after_past : (t : Transfer) (own rest : List Transfer) → nat_lt t.step steps ≡ false → t ∷ own ≡ in_steps steps own ++ rest → in_steps steps own ≡ []
  none_after_past t own rest past e = by_list (in_steps steps own) refl e
    where
      by_list : (xs : List Transfer) → in_steps steps own ≡ xs → t ∷ own ≡ xs ++ rest → in_steps steps own ≡ []
      by_list [] is f = is
      by_list (u ∷ us) is f =
          let within : nat_lt u.step steps ≡ true = first_within own u us is in
          let same : t ≡ u = cc in
          let here : nat_lt t.step steps ≡ true = subst (λ (x : Transfer). nat_lt x.step steps ≡ true) (sym same) within in
          absurd cc

-- where none comes first
put_first : (t : Transfer) (own first past : List Transfer) → first ≡ [] → own ≡ first ++ past → t ∷ own ≡ first ++ (t ∷ past)
put_first t own [] past none e = ap (λ (ys : List Transfer). t ∷ ys) e
put_first t own (x ∷ first) past none e = absurd cc

take_first : (t : Transfer) (own first past : List Transfer) → first ≡ [] → t ∷ own ≡ first ++ (t ∷ past) → own ≡ first ++ past
take_first t own [] past none e = cc
take_first t own (x ∷ first) past none e = absurd cc

module _ (core steps : ℕ) where
  pub ascending : (first : ℕ) (ts : List Transfer) → follows_from core steps first ts ≡ true → ascends_from first (in_steps steps (own_transfers core ts)) ≡ true
  ascending first [] h = refl
  ascending first (t ∷ ts) h = elim (cases_Bool (t.master == core)) [
    | inl own ↦ elim (cases_Bool (nat_lt t.step steps)) [
      | inl within ↦ elim (cases_Bool (nat_le first t.step)) [
        | inl ascends ↦ rw (own, within, ascends) (ascending (t.step + 1) ts (rw (own, within, ascends) at h))
        | inr descends ↦ let k = rw (own, within, descends) at h in absurd cc
      ]
      | inr past ↦
          let none = none_from_end steps (own_transfers core ts) (ascending steps ts (rw (own, past) at h)) in
          rw (own, past) (subst (λ (xs : List Transfer). ascends_from first xs ≡ true) (sym none) refl)
    ]
    | inr other ↦ rw other (ascending first ts (rw other at h))
  ]

  pub ordered : (first : ℕ) (ts : List Transfer) → follows_from core steps first ts ≡ true
      → own_transfers core ts ≡ in_steps steps (own_transfers core ts) ++ past_steps steps (own_transfers core ts)
  ordered first [] h = refl
  ordered first (t ∷ ts) h = elim (cases_Bool (t.master == core)) [
    | inl own ↦ elim (cases_Bool (nat_lt t.step steps)) [
      | inl within ↦ elim (cases_Bool (nat_le first t.step)) [
        | inl ascends ↦ rw (own, within, not_past steps t.step within) (ap (λ (ys : List Transfer). t ∷ ys) (ordered (t.step + 1) ts (rw (own, within, ascends) at h)))
        | inr descends ↦ let k = rw (own, within, descends) at h in absurd cc
      ]
      | inr past ↦
          let k = rw (own, past) at h in
          let none = none_from_end steps (own_transfers core ts) (ascending steps ts k) in
          rw (own, past, is_past steps t.step past)
          (put_first t (own_transfers core ts) (in_steps steps (own_transfers core ts)) (past_steps steps (own_transfers core ts)) none (ordered steps ts k))
    ]
    | inr other ↦ rw other (ordered first ts (rw other at h))
  ]

  pub followed : (first : ℕ) (ts : List Transfer) → own_transfers core ts ≡ in_steps steps (own_transfers core ts) ++ past_steps steps (own_transfers core ts)
      → ascends_from first (in_steps steps (own_transfers core ts)) ≡ true → follows_from core steps first ts ≡ true
  followed first [] h k = refl
  followed first (t ∷ ts) h k = elim (cases_Bool (t.master == core)) [
    | inl own ↦ elim (cases_Bool (nat_lt t.step steps)) [
      | inl within ↦
          let h2 = rw (own, within, not_past steps t.step within) at h in
          let k2 = rw (own, within) at k in
          let parts = and_parts (nat_le first t.step) (ascends_from (t.step + 1) (in_steps steps (own_transfers core ts))) k2 in
          let later : own_transfers core ts ≡ in_steps steps (own_transfers core ts) ++ past_steps steps (own_transfers core ts) = cc in
          rw (own, within, parts.0) (followed (t.step + 1) ts later parts.1)
      | inr past ↦
          let h2 = rw (own, past, is_past steps t.step past) at h in
          let none = none_after_past steps t (own_transfers core ts) (t ∷ past_steps steps (own_transfers core ts)) past h2 in
          rw (own, past) (followed steps ts (take_first t (own_transfers core ts) (in_steps steps (own_transfers core ts)) (past_steps steps (own_transfers core ts)) none h2)
          (subst (λ (xs : List Transfer). ascends_from steps xs ≡ true) (sym none) refl))
    ]
    | inr other ↦ rw other (followed first ts (rw other at h) (rw other at k))
  ]

  -- ---- as a loop goes over them

  module _ (first : ℕ) (ts : List Transfer) (i : ℕ) (d : Transfer) (within : i < length ts) where
    pub goes_on : (next : ℕ) → next_from core steps first (get_or ts i d) ≡ Some next → follows_from core steps first (drop i ts) ≡ follows_from core steps next (drop (i + 1) ts)
    goes_on next is = rw (drop_more ts i d within, is) refl

    pub is_stopped : next_from core steps first (get_or ts i d) ≡ None → follows_from core steps first (drop i ts) ≡ false
    is_stopped is = rw (drop_more ts i d within, is) refl

  pub at_end : (first : ℕ) (ts : List Transfer) (i : ℕ) → length ts ≤ i → follows_from core steps first (drop i ts) ≡ true
  at_end first ts i end = rw (drop_all i ts end) refl
