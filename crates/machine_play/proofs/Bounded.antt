-- Each core makes as many steps at most as its configuration allows, and then at most eight drains: the headline has the first, and the
-- ledger the second.
use Rattle.std.proofs.Common.{◌≤◌, ℕ, Option, Some, None, IfSome, IsSomeAnd, Result, Ok, Err, IfOk, slice_get}
use Rattle.std.proofs.lemmas.Bool.{leb-true}
use Rattle.lf_model.specs.Ledger.Rule.{KeepsLedger}
use Rattle.lf_model.specs.Ledger.Steps.{HasSteps, own_transfers}
use Rattle.lf_model.specs.Promise.Headline.{Headline}
use Rattle.lf_model.specs.Records.CoreRules.{ShowsState, ShowsResult, core_in_trace}
use Rattle.lf_model.specs.Run.{Run}
use Rattle.lf_model.specs.declared.setup.Setup.{Setup}
use Rattle.lf_model.specs.declared.trace.CoreResult.{CoreResult}
use Rattle.lf_model.specs.declared.trace.Trace.{Trace}
use Rattle.machine_play.specs.Bounds.{IsBounded, AllBounded}

-- what follows from both facts of the value of an option, of the same value
both_some : {A : Type 0} (P Q R : A → Type 0) (o : Option A) → ((x : A) → P x → Q x → R x) → IfSome o P → IfSome o Q → IfSome o R
both_some P Q R None follows p q = tt
both_some P Q R (Some x) follows p q = follows x p q

-- what holds if there is a value with a fact
from_some : {A B : Type 0} (P : A → Type 0) (o : Option A) → ((x : A) → P x → B) → IsSomeAnd o P → B
from_some P None gives p = absurd p
from_some P (Some x) gives p = gives x p

-- and from both facts of a good answer
both_ok : {T E : Type 0} (P Q R : T → Type 0) (r : Result T E) → ((x : T) → P x → Q x → R x) → IfOk r P → IfOk r Q → IfOk r R
both_ok P Q R (Ok x) follows p q = follows x p q
both_ok P Q R (Err e) follows p q = tt

module _ (setup : Setup) (trace : Trace) (c : ℕ) (r : CoreResult) where
  within : ShowsResult setup (core_in_trace trace c r) → r.steps ≤ setup.config.steps
  within shows = from_some (λ (q : Run). ShowsState setup (core_in_trace trace c r) q.state) _ (λ q state. state.within) shows

  bounded : ShowsResult setup (core_in_trace trace c r) → HasSteps setup r (own_transfers c trace.transfers) → IsBounded setup trace c r
  bounded shows steps = record { steps = within shows; later = steps.drains; drains = leb-true _ _ steps.few }

pub all_bounded : (setup : Setup) (trace : Trace) → Headline setup trace → KeepsLedger setup trace → AllBounded setup trace
all_bounded setup trace headline ledger c inside =
    both_some (λ r. ShowsResult setup (core_in_trace trace c r)) (λ r. HasSteps setup r (own_transfers c trace.transfers)) (IsBounded setup trace c)
    (slice_get trace.cores c) (λ r. bounded setup trace c r) (headline.results c inside) (ledger.steps c inside)

pub ok_bounded : {E : Type 0} (setup : Setup) (r : Result Trace E) → IfOk r (Headline setup) → IfOk r (KeepsLedger setup) → IfOk r (AllBounded setup)
ok_bounded setup r headline ledger = both_ok (Headline setup) (KeepsLedger setup) (AllBounded setup) r (λ trace. all_bounded setup trace) headline ledger
