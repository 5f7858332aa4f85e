-- Along its course a core makes more steps and reads more numbers, never fewer.
use Rattle.std.proofs.Common.{◌+◌, ◌-◌, ◌≤◌, ◌==◌, ℕ, zero, suc, Bool, true, false, not, List, [], ◌∷◌, Option, Some, None, length, fold, sym, subst, arith, inl, inr, if◌then◌else◌}
use Rattle.std.proofs.lemmas.Bool.{cases_Bool}
use Rattle.core_laws.proofs.ListLemmas.{count_append}
use Rattle.lf_model.proofs.CourseLemmas.{observe_own, observe_others}
use Rattle.lf_model.specs.Course.Core.{Ground}
use Rattle.lf_model.specs.Course.Course.{up_to, observe}
use Rattle.lf_model.specs.Course.LocalStep.{is_last_stop, local_step, local_steps}
use Rattle.lf_model.specs.Course.Progress.{Progress}
use Rattle.lf_model.specs.Course.Turn.{is_past_steps}
use Rattle.lf_model.specs.Course.Turned.{retires_by, own_turn}
use Rattle.lf_model.specs.Effect.{Access, Effect}
use Rattle.lf_model.specs.Operation.{entry_reads}
use Rattle.lf_model.specs.Run.{Run, operation, with_access, reads_of, answer_to, effect_at_pc, answered}
use Rattle.lf_model.specs.declared.bus.Entry.{Entry}
use Rattle.lf_model.specs.declared.bus.Transfer.{Transfer}

pub record Grows (k j : Progress) : Type 0 where
  pub reads : reads_of k.run.ops ≤ reads_of j.run.ops
  pub steps : k.steps ≤ j.steps

pub grows_none : (k : Progress) → Grows k k
grows_none k = record { reads = omega arith; steps = omega arith }

pub grows_through : (i j k : Progress) → Grows i j → Grows j k → Grows i k
grows_through i j k first second = record { reads = omega (arith, first.reads, second.reads); steps = omega (arith, first.steps, second.steps) }

pub reads_more : (core got : ℕ) (x : Option Access) (ops : List Entry) → reads_of ops ≤ reads_of (with_access core got x ops)
reads_more core got None ops = omega arith
reads_more core got (Some a) ops = omega (arith, count_append entry_reads ops (operation core (length ops) got a ∷ []))

reads_if : (retires : Bool) (core : ℕ) (answers : List ℕ) (e : Effect) (r : Run) → reads_of r.ops ≤ reads_of (if retires then answered core answers r e else r).ops
reads_if true core answers e r = reads_more core (answer_to answers r.ops e.access) e.access r.ops
reads_if false core answers e r = omega arith

steps_if : (past : Bool) (steps : ℕ) → steps ≤ (if past then steps else steps + 1)
steps_if true steps = omega arith
steps_if false steps = omega arith

module _ (g : Ground) where
  pub grows_local_step : (k : Progress) → Grows k (local_step g k)
  unfolding local_step
  grows_local_step k = record { reads = reads_if (not (is_last_stop g k.steps)) g.core g.given.answers (effect_at_pc g.setup g.core k.run.state) k.run; steps = omega arith }

  pub grows_own_turn : (t : Transfer) (k : Progress) → Grows k (own_turn g t k)
  unfolding own_turn
  grows_own_turn t k = record { reads = reads_if (retires_by g t) g.core g.given.answers (effect_at_pc g.setup g.core k.run.state) k.run; steps = steps_if (is_past_steps g k) k.steps }

  pub grows_local_steps : (n : ℕ) (k : Progress) → Grows k (local_steps g n k)
  grows_local_steps zero k = grows_none k
  grows_local_steps (suc n) k = grows_through k (local_step g k) (local_steps g n (local_step g k)) (grows_local_step k) (grows_local_steps n (local_step g k))

  pub grows_observe : (t : Transfer) (k : Progress) → Grows k (observe g k t)
  grows_observe t k = elim (cases_Bool (g.core == t.master)) [
    | inl own ↦ subst (Grows k) (sym (observe_own g t k own))
        (grows_through k (up_to g t k) (own_turn g t (up_to g t k)) (grows_local_steps (t.step - k.steps) k) (grows_own_turn t (up_to g t k)))
    | inr other ↦ subst (Grows k) (sym (observe_others g t k other)) (record { reads = omega arith; steps = omega arith })
  ]

  pub grows_transfers : (k : Progress) (ts : List Transfer) → Grows k (fold (observe g) k ts)
  grows_transfers k [] = grows_none k
  grows_transfers k (t ∷ ts) = grows_through k (observe g k t) (fold (observe g) (observe g k t) ts) (grows_observe t k) (grows_transfers (observe g k t) ts)
