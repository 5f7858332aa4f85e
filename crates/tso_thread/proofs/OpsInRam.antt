-- Where Thread holds of all cores, every operation of the trace lies in RAM: it is made by an instruction, and an instruction whose
-- address is not in RAM makes none.
use Rattle.std.proofs.Common.{◌≡◌, ◌<◌, ℕ, zero, suc, Bool, true, false, List, [], ◌∷◌, length, map, get_or, Option, Some, None, inl, inr, refl, subst, arith}
use Rattle.std.specs.Prelude.{All, IsTrue, IsSomeAnd, IfSome}
use Rattle.std.specs.Option.{is_some}
use Rattle.std.specs.List.{AllByRecursion as Each}
use Rattle.std.proofs.lemmas.List.{get_or_default}
use Rattle.std.proofs.lemmas.Option.{option_and_then_some, same_Some, slice_get_cases, slice_get-get_or}
use Rattle.lf_model.proofs.EachLemmas.{each_append, each_at, each_unmap}
use Rattle.lf_model.specs.Effect.{Access}
use Rattle.lf_model.specs.ProgramOrder.{answers_of, program_order}
use Rattle.lf_model.specs.Once.{OnceAtCore}
use Rattle.lf_model.specs.Operation.{made}
use Rattle.lf_model.specs.Places.{FailsNowhere}
use Rattle.lf_model.specs.Records.CoreRules.{HasThread, ThreadAt, core_in_trace}
use Rattle.lf_model.specs.Run.{Run, operation, with_access, answer_to, answered, effect_at_pc, onward, run}
use Rattle.lf_model.specs.Start.{is_in_ram}
use Rattle.lf_model.specs.declared.bus.Entry.{Entry}
use Rattle.lf_model.specs.declared.setup.Setup.{Setup}
use Rattle.lf_model.specs.declared.trace.CoreResult.{CoreResult}
use Rattle.lf_model.specs.declared.trace.Op.{Op}
use Rattle.lf_model.specs.declared.trace.Trace.{Trace}
use Rattle.tso_thread.proofs.AccessFits.{access_fits}
use Rattle.tso_thread.proofs.ProgramOrder.{order_has}
use Rattle.tso_thread.specs.ReplayState.{no_op}

abbrev pub IsInside : ℕ → Entry → Type 0
IsInside ram e = IsTrue (is_in_ram ram e.addr e.len)

module _ (setup : Setup) (core : ℕ) (answers : List ℕ) where
  inside_access : (got : ℕ) (x : Option Access) (ops : List Entry) → ((a : Access) → x ≡ Some a → IsTrue (is_in_ram setup.config.ram a.addr a.len)) → Each (IsInside setup.config.ram) ops
      → Each (IsInside setup.config.ram) (with_access core got x ops)
  inside_access got None ops its all = all
  inside_access got (Some a) ops its all = each_append (IsInside setup.config.ram) ops (operation core (length ops) got a ∷ []) all (its a refl, tt)

  inside_onward : (q r : Run) (halted : Bool) → is_some q.state.halt ≡ halted → onward setup core answers q ≡ Some r → Each (IsInside setup.config.ram) q.ops → Each (IsInside setup.config.ram) r.ops
  inside_onward q r true e step all = absurd (let no_step = rw e at step in cc)
  inside_onward q r false e step all =
      let here : answered core answers q (effect_at_pc setup core q.state) ≡ r = same_Some _ _ (rw e at step) in
      subst (λ (x : Run). Each (IsInside setup.config.ram) x.ops) here
      (inside_access (answer_to answers q.ops (effect_at_pc setup core q.state).access) (effect_at_pc setup core q.state).access q.ops
      (λ a is. (access_fits setup core q.state a is).within) all)

  pub inside_run : (n : ℕ) (r : Run) → run setup core answers n ≡ Some r → Each (IsInside setup.config.ram) r.ops
  unfolding run
  inside_run zero r at_n = let e = same_Some _ _ at_n in subst (λ (x : Run). Each (IsInside setup.config.ram) x.ops) e tt
  inside_run (suc n) r at_n =
      option_and_then_some (onward setup core answers) (run setup core answers n) r at_n
      (λ p at_p onto. inside_onward p r (is_some p.state.halt) refl onto (inside_run n p at_p))

module _ (setup : Setup) where
  abbrev Inside : Op → Type 0
  Inside o = IsTrue (is_in_ram setup.config.ram o.addr o.len)

  inside_ops : (c n : ℕ) (ops : List Op) → IsSomeAnd (run setup c (answers_of ops) n) (λ q. q.ops ≡ map made ops) → All Inside ops
  inside_ops c n ops all = by (run setup c (answers_of ops) n) refl all
    where
      by : (r : Option Run) → run setup c (answers_of ops) n ≡ r → IsSomeAnd r (λ q. q.ops ≡ map made ops) → All Inside ops
      by None is h = absurd h
      by (Some q) is h =
          let each : Each (IsInside setup.config.ram) (map made ops) = subst (Each (IsInside setup.config.ram)) h (inside_run setup c (answers_of ops) n q is) in
          λ k d low. subst (λ (x : Option Op). IfSome x Inside) (slice_get-get_or ops k d low) (each_at Inside ops k (each_unmap (IsInside setup.config.ram) made ops each))

  pub all_in_ram : (trace : Trace) → FailsNowhere setup.config.cores (OnceAtCore trace.order) → All (λ o. o.core < setup.config.cores) trace.order → length trace.cores ≡ setup.config.cores
      → FailsNowhere setup.config.cores (ThreadAt setup trace) → All Inside trace.order
  all_in_ram trace once below shown thread i d low =
      let c = (get_or trace.order i no_op).core in
      let under : c < setup.config.cores = below i no_op low in
      elim (slice_get_cases trace.cores c).1 [
        | inl there ↦
            let h : HasThread setup (core_in_trace trace c there.0) = subst (λ (x : Option CoreResult). IfSome x (λ r. HasThread setup (core_in_trace trace c r))) there.2 (thread c under) in
            subst Inside (get_or_default trace.order i no_op d low)
            (order_has c trace.order (once c under) i low refl Inside (inside_ops c there.0.n (program_order c trace.order) h.same))
        | inr none ↦ absurd (omega (arith, none.0, shown, under))
      ]
