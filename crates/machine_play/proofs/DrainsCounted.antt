-- A core has drained as many stores as transfers on the bus are its drains.
use Rattle.std.proofs.Common.{◌≡◌, ◌∙◌, ◌+◌, ◌-◌, ◌==◌, ℕ, zero, suc, Bool, true, false, List, [], ◌∷◌, cond, count_by, fold, map, refl, ap, sym, arith}
use Rattle.std.specs.Int.{from_bool}
use Rattle.core_laws.proofs.ListLemmas.{count_append}
use Rattle.core_laws.proofs.TurnCount.{same_either_way}
use Rattle.core_parts.specs.Seat.{seat}
use Rattle.lf_model.proofs.CourseLemmas.{observe_own, observe_others}
use Rattle.lf_model.specs.Course.Core.{Ground}
use Rattle.lf_model.specs.Course.Course.{up_to, observe, course}
use Rattle.lf_model.specs.Course.LocalStep.{local_step, local_steps}
use Rattle.lf_model.specs.Course.Progress.{Progress, start}
use Rattle.lf_model.specs.Course.Turned.{own_turn}
use Rattle.lf_model.specs.Ledger.Account.{without_length}
use Rattle.lf_model.specs.Ledger.Steps.{own_transfers}
use Rattle.lf_model.specs.declared.bus.Transfer.{Transfer}
use Rattle.machine_play.specs.CoreMade.{is_drain}

one_drain : (b : Bool) → cond b 1 0 + 0 ≡ from_bool b
one_drain true = refl
one_drain false = refl

drains_first : (t : Transfer) (ts : List Transfer) → count_by is_drain (t ∷ ts) ≡ from_bool (is_drain t) + count_by is_drain ts
drains_first t ts = omega (arith, count_append is_drain (t ∷ []) ts, one_drain (is_drain t))

module _ (g : Ground) where
  step_drains : (k : Progress) → (local_step g k).drained ≡ k.drained
  unfolding local_step
  step_drains k = refl

  steps_drains : (n : ℕ) (k : Progress) → (local_steps g n k).drained ≡ k.drained
  steps_drains zero k = refl
  steps_drains (suc n) k = steps_drains n (local_step g k) ∙ step_drains k

  turn_drains : (t : Transfer) (k : Progress) → (own_turn g t k).drained ≡ k.drained + from_bool (is_drain t)
  unfolding own_turn
  turn_drains t k = refl

  counted : (t : Transfer) (ts : List Transfer) (k : Progress) (own : Bool) → (g.core == t.master) ≡ own
      → ((j : Progress) → (fold (observe g) j ts).drained ≡ j.drained + count_by is_drain (own_transfers g.core ts))
      → (fold (observe g) (observe g k t) ts).drained ≡ k.drained + count_by is_drain (own_transfers g.core (t ∷ ts))
  counted t ts k true own later =
      rw (same_either_way t.master g.core, own)
      (later (observe g k t) ∙ omega (arith, ap (λ (j : Progress). j.drained) (observe_own g t k own), turn_drains t (up_to g t k), steps_drains (t.step - k.steps) k, drains_first t (own_transfers g.core ts)))
  counted t ts k false other later =
      rw (same_either_way t.master g.core, other)
      (later (observe g k t) ∙ ap (λ (j : Progress). j.drained + count_by is_drain (own_transfers g.core ts)) (observe_others g t k other))

  counted_all : (ts : List Transfer) (k : Progress) → (fold (observe g) k ts).drained ≡ k.drained + count_by is_drain (own_transfers g.core ts)
  counted_all [] k = omega arith
  counted_all (t ∷ ts) k = counted t ts k (g.core == t.master) refl (counted_all ts)

  pub drains_counted : (ts : List Transfer) (steps : ℕ) → (seat g ts steps).drained ≡ count_by is_drain (own_transfers g.core ts)
  drains_counted ts steps = steps_drains (steps - (course g ts).steps) (course g ts) ∙ (counted_all ts (start g) ∙ none_before (count_by is_drain (own_transfers g.core ts)))
    where
      none_before : (n : ℕ) → 0 + n ≡ n
      none_before n = omega arith

-- as a trace reports them too
pub drains_reported : (c : ℕ) (ts : List Transfer) → count_by is_drain (own_transfers c (map without_length ts)) ≡ count_by is_drain (own_transfers c ts)
drains_reported c [] = refl
drains_reported c (t ∷ ts) = by (t.master == c) refl (drains_reported c ts)
  where
    by : (own : Bool) → (t.master == c) ≡ own → count_by is_drain (own_transfers c (map without_length ts)) ≡ count_by is_drain (own_transfers c ts)
        → count_by is_drain (own_transfers c (map without_length (t ∷ ts))) ≡ count_by is_drain (own_transfers c (t ∷ ts))
    by true own rest = rw own (drains_first (without_length t) (own_transfers c (map without_length ts)) ∙ (ap (λ (n : ℕ). from_bool (is_drain t) + n) rest ∙ sym (drains_first t (own_transfers c ts))))
    by false other rest = rw other rest
