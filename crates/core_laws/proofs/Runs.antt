-- The run of a core is carried on by each instruction that retires. At the core's end it gives its thread and its result.
use Rattle.std.proofs.Common.{◌≡◌, ◌∙◌, ◌+◌, ◌≤◌, ◌++◌, ℕ, zero, suc, Bool, true, false, not, List, Some, None, length, map, refl, ap, sym, subst, add-one, arith, if◌then◌else◌}
use Rattle.std.proofs.lemmas.Option.{option_and_then_some, same_Some}
use Rattle.std.specs.Option.{is_some, IsSomeAnd, option_and_then}
use Rattle.core_laws.proofs.Growing.{reads_more}
use Rattle.core_laws.proofs.LaterGround.{answered_same}
use Rattle.core_laws.specs.RunSoFar.{HasRun}
use Rattle.lf_model.specs.Course.Core.{Ground}
use Rattle.lf_model.specs.Course.LocalStep.{is_last_stop, local_step}
use Rattle.lf_model.specs.Course.Progress.{Progress, start}
use Rattle.lf_model.specs.Course.Turned.{retires_by, own_turn}
use Rattle.lf_model.specs.ProgramOrder.{answers_of}
use Rattle.lf_model.specs.Operation.{made}
use Rattle.lf_model.specs.Records.CoreRules.{EndedCore, HasThread, ShowsState, ShowsResult, ground_of_ended}
use Rattle.lf_model.specs.Run.{Run, reads_of, answer_to, effect_at_pc, answered, onward, run}
use Rattle.lf_model.specs.declared.bus.Transfer.{Transfer}
use Rattle.lf_model.specs.declared.setup.Setup.{Setup}

-- ---- one instruction more

module _ (setup : Setup) (core : ℕ) (answers : List ℕ) where
  run_more : (n : ℕ) (r : Run) → r.state.halt ≡ None → run setup core answers n ≡ Some r
      → run setup core answers (n + 1) ≡ Some (answered core answers r (effect_at_pc setup core r.state))
  unfolding run
  run_more n r going h = rw (add-one n, h, going) refl

  run_if : (retires : Bool) (n : ℕ) (r : Run) → r.state.halt ≡ None → run setup core answers n ≡ Some r
      → run setup core answers (if retires then n + 1 else n) ≡ Some (if retires then answered core answers r (effect_at_pc setup core r.state) else r)
  run_if true n r going h = run_more n r going h
  run_if false n r going h = h

  onward_longer : (more : List ℕ) (q r : Run) (halted : Bool) → is_some q.state.halt ≡ halted → onward setup core answers q ≡ Some r → reads_of r.ops ≤ length answers
      → (reads_of q.ops ≤ length answers) × (onward setup core (answers ++ more) q ≡ Some r)
  onward_longer more q r true e step few = absurd (let no_step = rw e at step in cc)
  onward_longer more q r false e step few =
      let here : answered core answers q (effect_at_pc setup core q.state) ≡ r = same_Some _ _ (rw e at step) in
      let read : reads_of (answered core answers q (effect_at_pc setup core q.state)).ops ≤ length answers = subst (λ (x : Run). reads_of x.ops ≤ length answers) (sym here) few in (
        (let grows = reads_more core (answer_to answers q.ops (effect_at_pc setup core q.state).access) (effect_at_pc setup core q.state).access q.ops in omega (arith, grows, read)),
        rw e (ap Some (answered_same core answers more (effect_at_pc setup core q.state) q read ∙ here)),
      )

  -- numbers that are read later leave it
  pub run_longer : (more : List ℕ) (n : ℕ) (r : Run) → run setup core answers n ≡ Some r → reads_of r.ops ≤ length answers → run setup core (answers ++ more) n ≡ Some r
  unfolding run
  run_longer more zero r h few = h
  run_longer more (suc n) r h few = option_and_then_some (onward setup core answers) (run setup core answers n) r h (λ q before step.
      let longer = onward_longer more q r (is_some q.state.halt) refl step few in
      ap (option_and_then (onward setup core (answers ++ more))) (run_longer more n q before longer.0) ∙ longer.1)

-- ---- along the course

module _ (g : Ground) where
  pub run_start : HasRun g (start g)
  unfolding run
  run_start = refl

  pub run_local_step : (k : Progress) → k.run.state.halt ≡ None → HasRun g k → HasRun g (local_step g k)
  unfolding local_step
  run_local_step k going h = run_if g.setup g.core g.given.answers (not (is_last_stop g k.steps)) k.retired k.run going h

  pub run_own_turn : (t : Transfer) (k : Progress) → k.run.state.halt ≡ None → HasRun g k → HasRun g (own_turn g t k)
  unfolding own_turn
  run_own_turn t k going h = run_if g.setup g.core g.given.answers (retires_by g t) k.retired k.run going h

-- ---- at the end

module _ (setup : Setup) (c : EndedCore) (k : Progress) (h : HasRun (ground_of_ended setup c) k) (retired : k.retired ≡ c.result.n) where
  ran : run setup c.core (answers_of c.ops) c.result.n ≡ Some k.run
  ran = ap (run setup c.core (answers_of c.ops)) (sym retired) ∙ h

  -- the thread of a core
  pub thread : c.result.n ≤ setup.config.steps → k.run.ops ≡ map made c.ops → HasThread setup c
  thread within same = record { within = within; same = subst (λ found. IsSomeAnd found (λ q. q.ops ≡ map made c.ops)) (sym ran) same }

  -- and its result
  pub shows : ShowsState setup c k.run.state → ShowsResult setup c
  shows state = subst (λ found. IsSomeAnd found (λ q. ShowsState setup c q.state)) (sym ran) state
