-- A core has made as many turns as transfers on the bus are its own.
use Rattle.std.proofs.Common.{◌≡◌, ◌∙◌, ◌+◌, ◌-◌, ◌==◌, ℕ, zero, suc, Bool, true, false, List, [], ◌∷◌, length, fold, refl, ap, sym, arith, inl, inr}
use Rattle.std.proofs.lemmas.Bool.{cases_Bool, eqb-true, eq-eqb, eqb-false, ne_eqb}
use Rattle.lf_model.proofs.CourseLemmas.{IsAt, observe_own, observe_others}
use Rattle.lf_model.specs.Course.Core.{Ground}
use Rattle.lf_model.specs.Course.Course.{up_to, observe, course}
use Rattle.lf_model.specs.Course.LocalStep.{local_step, local_steps}
use Rattle.lf_model.specs.Course.Progress.{Progress, start}
use Rattle.lf_model.specs.Course.Turned.{own_turn}
use Rattle.lf_model.specs.Ledger.Steps.{own_transfers}
use Rattle.lf_model.specs.declared.bus.Transfer.{Transfer}

pub same_either_way : (a b : ℕ) → (a == b) ≡ (b == a)
same_either_way a b = elim (cases_Bool (b == a)) [
  | inl is_so ↦ rw is_so (eq-eqb a b (sym (eqb-true b a is_so)))
  | inr not_so ↦ rw not_so (ne_eqb a b (λ same. eqb-false b a not_so (sym same)))
]

module _ (g : Ground) where
  step_turns : (k : Progress) → (local_step g k).turns ≡ k.turns
  unfolding local_step
  step_turns k = refl

  steps_turns : (n : ℕ) (k : Progress) → (local_steps g n k).turns ≡ k.turns
  steps_turns zero k = refl
  steps_turns (suc n) k = steps_turns n (local_step g k) ∙ step_turns k

  turn_turns : (t : Transfer) (k : Progress) → (own_turn g t k).turns ≡ k.turns + 1
  unfolding own_turn
  turn_turns t k = refl

  counted : (t : Transfer) (ts : List Transfer) (k : Progress) (own : Bool) → (g.core == t.master) ≡ own
      → ((j : Progress) → (fold (observe g) j ts).turns ≡ j.turns + length (own_transfers g.core ts))
      → (fold (observe g) (observe g k t) ts).turns ≡ k.turns + length (own_transfers g.core (t ∷ ts))
  counted t ts k true own later =
      rw (same_either_way t.master g.core, own)
      (later (observe g k t) ∙ omega (arith, ap (λ (j : Progress). j.turns) (observe_own g t k own), turn_turns t (up_to g t k), steps_turns (t.step - k.steps) k))
  counted t ts k false other later =
      rw (same_either_way t.master g.core, other)
      (later (observe g k t) ∙ ap (λ (j : Progress). j.turns + length (own_transfers g.core ts)) (observe_others g t k other))

  counted_all : (ts : List Transfer) (k : Progress) → (fold (observe g) k ts).turns ≡ k.turns + length (own_transfers g.core ts)
  counted_all [] k = omega arith
  counted_all (t ∷ ts) k = counted t ts k (g.core == t.master) refl (counted_all ts)

  pub turns_counted : (ts : List Transfer) (n : ℕ) (k : Progress) → IsAt g ts n k → k.turns ≡ length (own_transfers g.core ts)
  turns_counted ts n k h = ap (λ (j : Progress). j.turns) h.at ∙ (steps_turns n (course g ts) ∙ (counted_all ts (start g) ∙ omega arith))
