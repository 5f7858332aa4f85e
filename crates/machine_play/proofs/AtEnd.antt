-- Beside the trace that is gathered from an ended machine, each core has gone on to all that it made.
use Rattle.leon_core.specs.Moves.{store_steps}
use Rattle.std.proofs.Common.{◌≡◌, ◌∙◌, ◌+◌, ℕ, List, [], ◌∷◌, length, map, sum, sum_by, refl, ap, sym, arith}
use Rattle.std.proofs.lemmas.List.{append-nil}
use Rattle.std.proofs.lemmas.List.Sums.{sum-map, sum_by-append}
use Rattle.std.specs.List.{enumerate_from}
use Rattle.core_parts.specs.CoreValue.{CoreValue}
use Rattle.lf_model.specs.ProgramOrder.{program_order}
use Rattle.lf_model.specs.Ledger.Steps.{own_transfers}
use Rattle.lf_model.specs.Promise.Follows.{core_at_start, steps_of}
use Rattle.lf_model.specs.Promise.Turns.{CoreLeft}
use Rattle.lf_model.specs.declared.trace.CoreResult.{CoreResult}
use Rattle.lf_model.specs.declared.trace.Trace.{Trace}
use Rattle.machine_play.specs.CoreMade.{GoesOnTo, GoOnTo}
use Rattle.machine_play.specs.LeftOver.{left_in_all}
use Rattle.machine_play.specs.MachineMade.{core_made}
use Rattle.machine_play.proofs.OwnShares.{own_of}

-- the trace shows core c as it is: its number, its steps and its operations
pub record IsShown (trace : Trace) (c : ℕ) (r : CoreResult) (v : CoreValue) : Type 0 where
  pub number : v.arch.core ≡ c
  pub steps : r.steps ≡ v.steps
  pub ops : program_order c trace.order ≡ v.ops

module _ (trace : Trace) where
  -- all that it makes is what it made
  shown_goes : (c : ℕ) (r : CoreResult) (v : CoreValue) → IsShown trace c r v → GoesOnTo (core_at_start trace c r) (core_made trace.transfers v)
  shown_goes c r v is = record {
    none_made = refl;
    none_drained = refl;
    steps = omega (arith, is.steps);
    later_stores = [];
    stores = ap store_steps is.ops ∙ sym (append-nil (store_steps v.ops));
    stores_later = tt;
    later = [];
    transfers = ap (λ (k : ℕ). own_transfers k trace.transfers) (sym is.number) ∙ sym (append-nil (own_transfers v.arch.core trace.transfers));
    transfers_later = tt;
    all_made = λ none. is.steps;
    none_left = λ ended. refl;
  }

  -- of cores with numbers from k on
  abbrev pub started_from : ℕ → List CoreResult → List CoreLeft
  started_from k results = map (λ (x : ℕ × CoreResult). core_at_start trace x.0 x.1) (enumerate_from k results)

  abbrev pub AreShown : ℕ → List CoreResult → List CoreValue → Type 0
  AreShown k [] [] = Unit {0}
  AreShown k [] (v ∷ vs) = ⊥
  AreShown k (r ∷ rs) [] = ⊥
  AreShown k (r ∷ rs) (v ∷ vs) = IsShown trace k r v × AreShown (k + 1) rs vs

  pub all_go : (k : ℕ) (results : List CoreResult) (vs : List CoreValue) → AreShown k results vs → GoOnTo (started_from k results) (map (core_made trace.transfers) vs)
  all_go k [] [] are = tt
  all_go k [] (v ∷ vs) are = absurd are
  all_go k (r ∷ rs) [] are = absurd are
  all_go k (r ∷ rs) (v ∷ vs) are = (shown_goes k r v are.0, all_go (k + 1) rs vs are.1)

  -- the steps of all of them
  abbrev pub steps_in : List CoreResult → ℕ
  steps_in [] = 0
  steps_in (r ∷ rs) = r.steps + steps_in rs

  steps_by : (results : List CoreResult) → sum_by steps_of results ≡ steps_in results
  steps_by [] = refl
  steps_by (r ∷ rs) = omega (arith, steps_by rs, sum_by-append steps_of (r ∷ []) rs)

  pub steps_sum : (results : List CoreResult) → sum (map steps_of results) ≡ steps_in results
  steps_sum results = sum-map steps_of results ∙ steps_by results

  -- as much as is left before the first step
  pub left_at_first : (k : ℕ) (results : List CoreResult) → left_in_all (started_from k results) ≡ steps_in results + own_of k (length results) trace.transfers
  left_at_first k [] = refl
  left_at_first k (r ∷ rs) = omega (arith, left_at_first (k + 1) rs)
