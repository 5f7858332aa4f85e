-- Others make their turns, and then a core its own: it comes to the place after that turn.
use Rattle.std.proofs.Common.{◌≡◌, ◌∙◌, ◌+◌, ◌-◌, ◌<◌, ◌==◌, ◌++◌, ℕ, zero, suc, true, List, [], ◌∷◌, Option, Some, None, length, slice_get, refl, ap, sym, subst, arith, inl, inr}
use Rattle.std.proofs.lemmas.Bool.{cases_lt, eq-eqb}
use Rattle.std.proofs.lemmas.List.{length-append}
use Rattle.std.specs.List.{AllByRecursion as Each, flat_map}
use Rattle.core_laws.proofs.ListLemmas.{get_second, each_get}
use Rattle.core_laws.proofs.OwnTurns.{own_turn_at_longer, own_turn_at_made}
use Rattle.core_laws.proofs.Runs.{run_own_turn}
use Rattle.core_parts.specs.Seat.{seat}
use Rattle.core_course.proofs.LaterSeat.{Reaches, at_seat}
use Rattle.lf_model.proofs.CourseLemmas.{IsAt, at_own_turn, IsOthers, course_later}
use Rattle.lf_model.specs.Course.Core.{Ground}
use Rattle.lf_model.specs.Course.Course.{stored_at, with_unseen, course}
use Rattle.lf_model.specs.Course.LocalStep.{local_step, local_steps}
use Rattle.lf_model.specs.Course.Progress.{Progress}
use Rattle.lf_model.specs.Course.Turned.{own_turn}
use Rattle.lf_model.specs.Records.OwnTurns.{IsRightTurn, OwnTurnAt}
use Rattle.lf_model.specs.declared.bus.Transfer.{Transfer}

module _ (g : Ground) where
  -- ---- others

  step_unseen : (addrs : List ℕ) (k : Progress) → local_step g (with_unseen addrs k) ≡ with_unseen addrs (local_step g k)
  unfolding local_step
  step_unseen addrs k = refl

  steps_unseen : (n : ℕ) (addrs : List ℕ) (k : Progress) → local_steps g n (with_unseen addrs k) ≡ with_unseen addrs (local_steps g n k)
  steps_unseen zero addrs k = refl
  steps_unseen (suc n) addrs k = ap (local_steps g n) (step_unseen addrs k) ∙ steps_unseen n addrs (local_step g k)

  others_is_none : (turn : ℕ) (ts : List Transfer) (found : Option Transfer) → (slice_get ts turn ≡ found) → ((t : Transfer) → found ≡ Some t → IsOthers g t) → OwnTurnAt g ts turn
  others_is_none turn ts None there other = rw there tt
  others_is_none turn ts (Some t) there other = rw there (λ own. let no = other t refl in let yes = eq-eqb g.core t.master own in absurd (cc))

  others_right : (ts us : List Transfer) → Each (IsOthers g) us → ((turn : ℕ) → turn < length ts → OwnTurnAt g ts turn) → (turn : ℕ) → turn < length (ts ++ us) → OwnTurnAt g (ts ++ us) turn
  others_right ts us others right turn within = elim (cases_lt turn (length ts)) [
    | inl less ↦ own_turn_at_longer g ts us turn less (right turn less)
    | inr past ↦
        let split : length ts + (turn - length ts) ≡ turn = omega arith in
        others_is_none turn (ts ++ us) (slice_get (ts ++ us) turn) refl
        (λ t there. each_get (IsOthers g) us (turn - length ts) t others
        (sym (get_second ts us (turn - length ts)) ∙ (ap (slice_get (ts ++ us)) split ∙ there)))
  ]

  -- it has to snoop what they stored
  pub after_others : (ts us : List Transfer) (n : ℕ) (k : Progress) → Each (IsOthers g) us → Reaches g ts n k → Reaches g (ts ++ us) n (with_unseen (flat_map stored_at us) k)
  after_others ts us n k others r = record {
    at = ap (λ (c : Progress). local_steps g (n - c.steps) c) (course_later g ts us others)
        ∙ (steps_unseen (n - (course g ts).steps) (flat_map stored_at us) (course g ts) ∙ ap (with_unseen (flat_map stored_at us)) r.at);
    steps = r.steps;
    has_run = r.has_run;
    right_turns = others_right ts us others r.right_turns;
  }

  -- ---- its own turn

  pub is_at : (ts : List Transfer) (n : ℕ) (k : Progress) → Reaches g ts n k → IsAt g ts (n - (course g ts).steps) k
  is_at ts n k r = subst (IsAt g ts (n - (course g ts).steps)) r.at (at_seat g ts n)

  none_left : (n : ℕ) → n - n ≡ 0
  none_left n = omega arith

  at_turn_end : (us : List Transfer) (j : Progress) → IsAt g us 0 j → seat g us j.steps ≡ j
  at_turn_end us j h = ap (λ (c : Progress). local_steps g (j.steps - c.steps) c) (sym h.at) ∙ ap (λ m. local_steps g m j) (none_left j.steps)

  pub after_turn : (ts : List Transfer) (n : ℕ) (k : Progress) (t : Transfer) → Reaches g ts n k → (g.core == t.master) ≡ true → t.step ≡ n
      → k.run.state.halt ≡ None → IsRightTurn g t k → Reaches g (ts ++ t ∷ []) (own_turn g t k).steps (own_turn g t k)
  after_turn ts n k t r own step going right =
      let next : t.step ≡ k.steps = step ∙ sym r.steps in
      record {
        at = at_turn_end (ts ++ t ∷ []) (own_turn g t k) (at_own_turn g ts (n - (course g ts).steps) k t (is_at ts n k r) own next);
        steps = refl;
        has_run = run_own_turn g t k going r.has_run;
        right_turns = λ turn within. elim (cases_lt turn (length ts)) [
          | inl less ↦ own_turn_at_longer g ts (t ∷ []) turn less (r.right_turns turn less)
          | inr past ↦
              let last : length ts ≡ turn = omega (arith, length-append ts (t ∷ [])) in
              subst (OwnTurnAt g (ts ++ t ∷ [])) last (own_turn_at_made g ts (n - (course g ts).steps) k t (is_at ts n k r) next (λ is_own. right))
        ];
      }
