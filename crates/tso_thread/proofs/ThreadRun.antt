-- A replayed core makes all operations of the trace, or its run comes to no thread.
use Rattle.std.proofs.Common.{◌≡◌, ◌∙◌, ◌<◌, ◌+◌, ◌-◌, ℕ, suc, List, map, true, Option, Some, None, refl, sym, ap, subst, arith}
use Rattle.std.specs.Prelude.{IsSomeAnd}
use Rattle.std.proofs.lemmas.Bool.{false≢true}
use Rattle.std.specs.Option.{is_some}
use Rattle.lf_model.specs.ProgramOrder.{answers_of}
use Rattle.lf_model.specs.Operation.{made}
use Rattle.lf_model.specs.Run.{Run, run}
use Rattle.lf_model.specs.declared.setup.Setup.{Setup}
use Rattle.lf_model.specs.declared.trace.Op.{Op}
use Rattle.tso_thread.proofs.ThreadReplay.{no_run}
use Rattle.tso_thread.specs.ThreadState.{run_in, Replays, IsAt, HasNoThread, MakesAll}
use Rattle.tso_thread.specs.declared.running.Thread.{Thread}

module _ (setup : Setup) (core : ℕ) (ops : List Op) where
  -- the run that makes all
  abbrev pub IsAll : Option Run → Type 0
  IsAll r = IsSomeAnd r (λ q. q.ops ≡ map made ops)

  pub none_after : (i n : ℕ) → HasNoThread setup core ops (i + 1) → i < n → MakesAll setup core ops n → ⊥
  none_after i n none low all = by (run setup core (answers_of ops) n) refl all
    where
      by : (r : Option Run) → run setup core (answers_of ops) n ≡ r → IsAll r → ⊥
      by None is h = h
      by (Some q) is h =
          let e : i + 1 + (n - (i + 1)) ≡ n = omega (arith, low) in
          none (n - (i + 1)) q (ap (run setup core (answers_of ops)) e ∙ is) h

  pub halted_after : (i n : ℕ) (q : Run) (tt_ : ℕ) → Replays setup core ops i q → q.state.halt ≡ Some tt_ → i < n → MakesAll setup core ops n → ⊥
  halted_after i n q tt_ so_far halted low all =
      let e : suc (i + (n - (i + 1))) ≡ n = omega (arith, low) in
      subst IsAll (sym (ap (run setup core (answers_of ops)) e) ∙ no_run setup core ops i q so_far tt_ (n - (i + 1)) halted) all

  pub halted_some : (i n : ℕ) (q : Run) → Replays setup core ops i q → is_some q.state.halt ≡ true → i < n → MakesAll setup core ops n → ⊥
  halted_some i n q so_far some low = by q.state.halt refl some
    where
      by : (halt : Option ℕ) → q.state.halt ≡ halt → is_some halt ≡ true → MakesAll setup core ops n → ⊥
      by None is h = absurd (false≢true h)
      by (Some tt_) is h = halted_after i n q tt_ so_far is low

-- ---- the loop

module _ (setup : Setup) (core : ℕ) (ops : List Op) (i n : ℕ) (low : i < n) (old : Thread) (at : IsAt setup core ops i (n - i) old) where
  left_is : n - i ≡ n - (i + 1) + 1
  left_is = omega (arith, low)

  at_more : IsAt setup core ops i (n - (i + 1) + 1) old
  at_more = subst (λ (left : ℕ). IsAt setup core ops i left old) left_is at

  pub goes_on : (new : Thread) → ((setup : Setup) (core : ℕ) (ops : List Op) (m left : ℕ) → IsAt setup core ops m (left + 1) old → IsAt setup core ops (m + 1) left new)
      → IsAt setup core ops (i + 1) (n - (i + 1)) new
  goes_on new goes = goes setup core ops i (n - (i + 1)) at_more

  pub ends_apart : ((setup : Setup) (core : ℕ) (ops : List Op) (m left : ℕ) → IsAt setup core ops m (left + 1) old → HasNoThread setup core ops (m + 1)) → MakesAll setup core ops n → ⊥
  ends_apart apart = none_after setup core ops i n (apart setup core ops i (n - (i + 1)) at_more) low

  pub ends_halted : is_some old.halt ≡ true → MakesAll setup core ops n → ⊥
  ends_halted some = halted_some setup core ops i n (run_in old) at.replays some low
