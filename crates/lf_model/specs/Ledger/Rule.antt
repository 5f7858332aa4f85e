-- The rule Ledger about a trace, and the first place at which it fails.
use Rattle.std.specs.Prelude.{ℕ, ◌≡◌, ◌⊎◌, length, Option, Some, None, IfSome, slice_get}
use Rattle.lf_model.specs.Ledger.Account.{Account, account_by_course, account_as_reported}
use Rattle.lf_model.specs.Ledger.Steps.{HasSteps, own_transfers}
use Rattle.lf_model.specs.Places.{FailsFirst, FailsNowhere}
use Rattle.lf_model.specs.declared.place.Place.{Place}
use Rattle.lf_model.specs.declared.place.Place.TheVariants.{Core, Order, Transfer, Flip, Final}
use Rattle.lf_model.specs.declared.setup.Setup.{Setup}
use Rattle.lf_model.specs.declared.trace.Trace.{Trace}

-- the steps of core c and its transfers are as they should be
abbrev pub StepsAt : Setup → Trace → ℕ → Type 0
StepsAt setup trace c = IfSome (slice_get trace.cores c) (λ r. HasSteps setup r (own_transfers c trace.transfers))

-- the ledger of a trace: the steps of all cores, and then all that it reports is what its masters give. Where the rule Once holds,
-- this is `LedgerFailsFirst setup trace None`. Without it the two may differ, since that goes over the places of the setup's cores
-- and of the trace's lists, and doesn't see that a list has another length.
pub record KeepsLedger (setup : Setup) (trace : Trace) : Type 0 where
  pub steps : FailsNowhere setup.config.cores (StepsAt setup trace)
  pub same : account_by_course setup trace ≡ account_as_reported trace

-- ---- the places of two accounts

abbrev pub SameCore : Account → Account → ℕ → Type 0
SameCore a b c = slice_get a.cores c ≡ slice_get b.cores c

abbrev pub SameOrder : Account → Account → ℕ → Type 0
SameOrder a b i = slice_get a.order i ≡ slice_get b.order i

abbrev pub SameTransfer : Account → Account → ℕ → Type 0
SameTransfer a b i = slice_get a.transfers i ≡ slice_get b.transfers i

abbrev pub SameFlip : Account → Account → ℕ → Type 0
SameFlip a b i = slice_get a.fates i ≡ slice_get b.fates i

abbrev pub SameFinal : Account → Account → ℕ → Type 0
SameFinal a b i = a.final ≡ b.final

-- ---- the first place

-- a rule over n places is tried before later ones: it fails first at one of its places, which is the answer, or at none, and then
-- the answer is the first place of the later rules
abbrev pub TriedBefore : (n : ℕ) → (ℕ → Type 0) → (ℕ → Place) → (Option Place → Type 0) → Option Place → Type 0
TriedBefore n Holds place Later answer = (FailsNowhere n Holds × Later answer) ⊎ ((i : ℕ) × FailsFirst n Holds (Some i) × (answer ≡ Some (place i)))

-- no rule is left: the answer is none
abbrev pub NoneLeft : Option Place → Type 0
NoneLeft answer = answer ≡ None

-- the rules of two accounts, place by place
abbrev pub DifferFirst : Setup → Trace → Account → Account → Option Place → Type 0
DifferFirst setup trace a b =
    TriedBefore setup.config.cores (SameCore a b) Core
    (TriedBefore (length trace.order) (SameOrder a b) Order
    (TriedBefore (length trace.transfers) (SameTransfer a b) Transfer
    (TriedBefore (length trace.fates) (SameFlip a b) Flip
    (TriedBefore 1 (SameFinal a b) (λ i. Final) NoneLeft))))

-- the first place at which the ledger of a trace fails, None where it fails nowhere: the steps of all cores come before all else
abbrev pub LedgerFailsFirst : Setup → Trace → Option Place → Type 0
LedgerFailsFirst setup trace =
    TriedBefore setup.config.cores (StepsAt setup trace) Core (DifferFirst setup trace (account_by_course setup trace) (account_as_reported trace))
