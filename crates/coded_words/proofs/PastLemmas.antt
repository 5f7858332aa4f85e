-- The histories as turns end, and where a word was named as one did.
use Rattle.std.proofs.Common.{◌≡◌, ◌≢◌, ℕ, zero, suc, ◌+◌, ◌-◌, ◌<◌, ◌≤◌, List, [], ◌∷◌, ◌++◌, length, map, take, drop, refl, sym, ap, ◌∙◌, inl, inr, arith}
use Rattle.std.proofs.lemmas.Bool.{cases_eq, cases_lt}
use Rattle.std.proofs.lemmas.List.{get_or-map, get_or-set_same, get_or-set_other, length-set, length-map, length-append, append_assoc}
use Rattle.flip_ledger.specs.Follows.{WasNamed, Remembers}
use Rattle.flip_ledger.specs.Ledger.{Ledger}
use Rattle.flip_ledger.proofs.PastNames.{standing_named, stands_named}
use Rattle.ft_cells.specs.WordCells.{CellState}
use Rattle.lf_model.specs.Fates.{stands}
use Rattle.lf_model.specs.Caches.Slot.{history_at, befalls}
use Rattle.lf_model.specs.Flips.{Moment, Standing, standing, turned, word_bits, word_budget}
use Rattle.lf_model.specs.Flips.Moment.{Named}
use Rattle.ft_cells.specs.Histories.{IsCellOf}
use Rattle.coded_words.specs.Kept.{unit_histories, IsRemembered}
use Rattle.coded_words.specs.Past.{past_at, GoesOn, named_behind, named_since}

-- ---- a turn ends

pub past_before : (past : List (List (List Moment))) (hs : List (List Moment)) (t : ℕ) → t < length past → past_at t (past ++ hs ∷ []) ≡ past_at t past
past_before [] hs t lt = absurd (omega arith)
past_before (p ∷ past) hs zero lt = refl
past_before (p ∷ past) hs (suc t) lt = past_before past hs t (omega (arith, lt))

pub past_last : (past : List (List (List Moment))) (hs : List (List Moment)) → past_at (length past) (past ++ hs ∷ []) ≡ hs
past_last [] hs = refl
past_last (p ∷ past) hs = past_last past hs

length_ended : (past : List (List (List Moment))) (hs : List (List Moment)) → length (past ++ hs ∷ []) ≡ length past + 1
length_ended past hs = length-append past (hs ∷ [])

pub remembered_ended : (hs : List (List Moment)) (past : List (List (List Moment))) (l l' : Ledger) → length l'.standing ≡ length l.standing → l'.turn ≡ length past + 1 → IsRemembered hs past l
    → ((t : ℕ) (h : ℕ → List Moment) → Remembers word_budget t h l → Remembers word_budget t h l') → Remembers word_budget (length past) (unit_histories hs) l'
    → IsRemembered hs (past ++ hs ∷ []) l'
remembered_ended hs past l l' units turn is later now = record {
  turn = turn ∙ sym (length_ended past hs);
  lengths = λ t lt. elim (cases_eq t (length past)) [
    | inl same ↦ rw (same, past_last past hs) refl
    | inr other ↦ let early : t < length past = omega (arith, lt, other, length_ended past hs) in rw (past_before past hs t early) (is.lengths t early)
  ];
  goes_on = λ t u lt. elim (cases_eq t (length past)) [
    | inl same ↦ rw (same, past_last past hs) (record { since = []; is = refl })
    | inr other ↦ let early : t < length past = omega (arith, lt, other, length_ended past hs) in rw (past_before past hs t early) (is.goes_on t u early)
  ];
  went_on = λ s t u le lt. elim (cases_eq t (length past)) [
    | inl same ↦ elim (cases_eq s (length past)) [
      | inl too ↦ rw (same, too, past_last past hs) (record { since = []; is = refl })
      | inr other ↦
          let early : s < length past = omega (arith, le, same, other) in
          rw (same, past_last past hs, past_before past hs s early) (is.goes_on s u early)
    ]
    | inr other ↦
        let early : t < length past = omega (arith, lt, other, length_ended past hs) in
        let earlier : s < length past = omega (arith, le, early) in
        rw (past_before past hs t early, past_before past hs s earlier) (is.went_on s t u le early)
  ];
  remembers = λ t lt. elim (cases_eq t (length past)) [
    | inl same ↦ rw (same, past_last past hs) now
    | inr other ↦
        let early : t < length past = omega (arith, lt, other, length_ended past hs) in
        rw (past_before past hs t early) (later t (unit_histories (past_at t past)) (is.remembers t early))
  ];
}

-- ---- a word was named as a turn ended

take_since : (since earlier : List Moment) → take (length (since ++ earlier) - length earlier) (since ++ earlier) ≡ since
take_since since earlier =
    ap (λ (n : ℕ). take n (since ++ earlier)) (let long = length-append since earlier in let e : length (since ++ earlier) - length earlier ≡ length since = omega (arith, long) in e)
    ∙ all since
  where
    all : (xs : List Moment) → take (length xs) (xs ++ earlier) ≡ xs
    all [] = refl
    all (x ∷ xs) = ap (λ (rest : List Moment). x ∷ rest) (all xs)

-- what stands behind the naming
pub behind_is : (earlier h : List Moment) (on : GoesOn earlier h) → named_behind earlier h ≡ on.since ++ Named ∷ earlier
behind_is earlier h on =
    ap (named_behind earlier) on.is ∙ ap (λ (front : List Moment). front ++ Named ∷ earlier) (take_since on.since earlier)

-- the past at a time, after the naming
pub since_before : (f : List (List Moment) → List (List Moment)) (past : List (List (List Moment))) (turn t : ℕ) → t < turn → turn < length past → past_at t (take turn past ++ map f (drop turn past)) ≡ past_at t past
since_before f [] turn t lt within = absurd (omega arith)
since_before f (p ∷ past) zero t lt within = absurd (omega arith)
since_before f (p ∷ past) (suc turn) zero lt within = refl
since_before f (p ∷ past) (suc turn) (suc t) lt within = since_before f past turn t (omega (arith, lt)) (omega (arith, within))

pub since_then : (f : List (List Moment) → List (List Moment)) (past : List (List (List Moment))) (turn t : ℕ) → turn ≤ t → t < length past → past_at t (take turn past ++ map f (drop turn past)) ≡ f (past_at t past)
since_then f [] turn t le within = absurd (omega arith)
since_then f (p ∷ past) zero t le within = get_or-map f (p ∷ past) t [] [] within
since_then f (p ∷ past) (suc turn) zero le within = absurd (omega arith)
since_then f (p ∷ past) (suc turn) (suc t) le within = since_then f past turn t (omega (arith, le)) (omega (arith, within))

pub length_since : (f : List (List Moment) → List (List Moment)) (past : List (List (List Moment))) (turn : ℕ) → length (take turn past ++ map f (drop turn past)) ≡ length past
length_since f [] zero = refl
length_since f [] (suc turn) = refl
length_since f (p ∷ past) zero = length-map (p ∷ past) f
length_since f (p ∷ past) (suc turn) = let rest = length_since f past turn in omega (arith, rest)

module _ (earlier : List Moment) (place : ℕ) where
  -- the named word, and the others
  named_word : (xs : List (List Moment)) → place < length xs → (on : GoesOn earlier (history_at place xs))
      → history_at place (befalls (named_behind earlier) place xs) ≡ on.since ++ Named ∷ earlier
  named_word xs within on = get_or-set_same xs place (named_behind earlier (history_at place xs)) [] within ∙ behind_is earlier (history_at place xs) on

  named_other : (xs : List (List Moment)) (u : ℕ) → u ≢ place → history_at u (befalls (named_behind earlier) place xs) ≡ history_at u xs
  named_other xs u other = get_or-set_other xs place u (named_behind earlier (history_at place xs)) [] other

  -- histories of a time before the naming, and of a time from it on, still go on to later ones
  on_from_before : (p xs : List (List Moment)) → place < length xs → GoesOn earlier (history_at place xs) → GoesOn (history_at place p) earlier
      → ((u : ℕ) → GoesOn (history_at u p) (history_at u xs)) → (u : ℕ) → GoesOn (history_at u p) (history_at u (befalls (named_behind earlier) place xs))
  on_from_before p xs within on before goes_on u = elim (cases_eq u place) [
    | inl same ↦
        rw (same, named_word xs within on)
        (record {
          since = on.since ++ Named ∷ before.since;
          is = ap (λ (h : List Moment). on.since ++ Named ∷ h) before.is ∙ sym (append_assoc on.since (Named ∷ before.since) (history_at place p));
        })
    | inr other ↦ rw (named_other xs u other) (goes_on u)
  ]

  on_from_after : (p xs : List (List Moment)) → place < length p → place < length xs → GoesOn earlier (history_at place p)
      → ((u : ℕ) → GoesOn (history_at u p) (history_at u xs)) → (u : ℕ) → GoesOn (history_at u (befalls (named_behind earlier) place p)) (history_at u (befalls (named_behind earlier) place xs))
  on_from_after p xs within_p within_xs on goes_on u =
      let later = goes_on place in
      let whole : GoesOn earlier (history_at place xs) = record {
        since = later.since ++ on.since;
        is = later.is ∙ ap (λ (h : List Moment). later.since ++ h) on.is ∙ sym (append_assoc later.since on.since earlier);
      } in
      elim (cases_eq u place) [
        | inl same ↦
            rw (same, named_word p within_p on, named_word xs within_xs whole)
            (record { since = later.since; is = append_assoc later.since on.since (Named ∷ earlier) })
        | inr other ↦ rw (named_other p u other, named_other xs u other) (goes_on u)
      ]

  -- the same flips stood
  stood_too : (p : List (List Moment)) (t : ℕ) (l : Ledger) → place < length p → GoesOn earlier (history_at place p) → Remembers word_budget t (unit_histories p) l
      → Remembers word_budget t (unit_histories (befalls (named_behind earlier) place p)) l
  stood_too p t l within on remembers = record {
    stood = λ i u lt. remembers.stood i u lt ∙ (elim (cases_eq u place) [
      | inl same ↦
          rw (same, named_word p within on)
          (ap (stands word_budget i) on.is ∙ sym (stands_named word_budget i earlier on.since))
      | inr other ↦ rw (named_other p u other) refl
    ]);
  }

module _ (hs : List (List Moment)) (past : List (List (List Moment))) (l : Ledger) (place turn : ℕ) (within : place < length hs) (ended : turn < length past) (is : IsRemembered hs past l) where
  pub was_named : WasNamed place (unit_histories (past_at turn past)) (unit_histories hs) (unit_histories (befalls (named_behind (history_at place (past_at turn past))) place hs))
  was_named = record {
    since = (is.goes_on turn place ended).since;
    before = (is.goes_on turn place ended).is;
    here = named_word (history_at place (past_at turn past)) place hs within (is.goes_on turn place ended);
    others = λ u other. named_other (history_at place (past_at turn past)) place hs u other;
  }

  pub remembered_named : (l' : Ledger) → length l'.standing ≡ length l.standing → l'.turn ≡ l.turn
      → ((t : ℕ) (h : ℕ → List Moment) → t < l.turn → Remembers word_budget t h l → Remembers word_budget t h l')
      → IsRemembered (befalls (named_behind (history_at place (past_at turn past))) place hs) (named_since turn place past) l'
  remembered_named l' units same_turn later =
      let e : List Moment = history_at place (past_at turn past) in
      let f : List (List Moment) → List (List Moment) = befalls (named_behind e) place in
      let long : length (named_since turn place past) ≡ length past = length_since f past turn in
      let inside : (t : ℕ) → t < length past → place < length (past_at t past) = λ t lt. omega (arith, within, is.lengths t lt) in
      record {
        turn = same_turn ∙ is.turn ∙ sym long;
        lengths = λ t lt'.
            let lt : t < length past = omega (arith, lt', long) in
            elim (cases_lt t turn) [
              | inl before ↦ rw (since_before f past turn t before ended) (is.lengths t lt ∙ sym (length-set hs place (named_behind e (history_at place hs))))
              | inr after ↦
                  rw (since_then f past turn t after lt)
                  (length-set (past_at t past) place (named_behind e (history_at place (past_at t past))) ∙ is.lengths t lt ∙ sym (length-set hs place (named_behind e (history_at place hs))))
            ];
        goes_on = λ t u lt'.
            let lt : t < length past = omega (arith, lt', long) in
            elim (cases_lt t turn) [
              | inl before ↦
                  rw (since_before f past turn t before ended)
                  (on_from_before e place (past_at t past) hs within (is.goes_on turn place ended) (is.went_on t turn place (omega (arith, before)) ended) (λ v. is.goes_on t v lt) u)
              | inr after ↦
                  rw (since_then f past turn t after lt)
                  (on_from_after e place (past_at t past) hs (inside t lt) within (is.went_on turn t place after lt) (λ v. is.goes_on t v lt) u)
            ];
        went_on = λ s t u le lt'.
            let lt : t < length past = omega (arith, lt', long) in
            elim (cases_lt t turn) [
              | inl before ↦
                  let early : s < turn = omega (arith, le, before) in
                  rw (since_before f past turn t before ended, since_before f past turn s early ended) (is.went_on s t u le lt)
              | inr after ↦ elim (cases_lt s turn) [
                | inl early ↦
                    rw (since_then f past turn t after lt, since_before f past turn s early ended)
                    (on_from_before e place (past_at s past) (past_at t past) (inside t lt) (is.went_on turn t place after lt) (is.went_on s turn place (omega (arith, early)) ended)
                    (λ v. is.went_on s t v le lt) u)
                | inr late ↦
                    let s_lt : s < length past = omega (arith, le, lt) in
                    rw (since_then f past turn t after lt, since_then f past turn s late s_lt)
                    (on_from_after e place (past_at s past) (past_at t past) (inside s s_lt) (inside t lt) (is.went_on turn s place late s_lt) (λ v. is.went_on s t v le lt) u)
              ]
            ];
        remembers = λ t lt'.
            let lt : t < length past = omega (arith, lt', long) in
            let now : Remembers word_budget t (unit_histories (past_at t past)) l' = later t (unit_histories (past_at t past)) (rw is.turn lt) (is.remembers t lt) in
            elim (cases_lt t turn) [
              | inl before ↦ rw (since_before f past turn t before ended) now
              | inr after ↦ rw (since_then f past turn t after lt) (stood_too e place (past_at t past) t l' (inside t lt) (is.went_on turn t place after lt) now)
            ];
      }

-- the cell of the word is as it was
pub cell_named : (earlier h : List Moment) (cell : CellState) → GoesOn earlier h → IsCellOf h cell → IsCellOf (named_behind earlier h) cell
cell_named earlier h cell on is =
    let same : standing word_budget (named_behind earlier h) ≡ standing word_budget h =
    ap (standing word_budget) (behind_is earlier h on) ∙ standing_named word_budget 0 earlier on.since ∙ ap (standing word_budget) (sym on.is) in
    record { toggled = is.toggled ∙ ap (turned word_bits) (sym same); hits = is.hits ∙ ap (length {A = Standing}) (sym same) }
