-- At which place the ledger of a trace fails first: where tests that compute pass at all places before it, and it fails there.
use Rattle.std.proofs.Common.{ℕ, ◌≡◌, ◌&&◌, nat_lt, Bool, true, arith, inl, inr, refl, length, slice_get, Some}
use Rattle.std.proofs.lemmas.Bool.{ltb-true, and_parts}
use Rattle.lf_model.proofs.SameAccount.{options, cores, places, turns}
use Rattle.lf_model.proofs.SameNames.{fates_same}
use Rattle.lf_model.specs.Ledger.Account.{Account, account_by_course, account_as_reported}
use Rattle.lf_model.specs.Ledger.Rule.{StepsAt, SameCore, SameOrder, SameTransfer, SameFlip, SameFinal, LedgerFailsFirst}
use Rattle.lf_model.specs.Ledger.Same.{same_option, same_core, same_place, same_turn}
use Rattle.lf_model.specs.Names.{same_fate}
use Rattle.lf_model.specs.Places.{FailsNowhere}
use Rattle.lf_model.specs.declared.place.Place.TheVariants.{Core, Order, Transfer, Flip, Final}
use Rattle.lf_model.specs.declared.setup.Setup.{Setup}
use Rattle.lf_model.specs.declared.trace.Trace.{Trace}
use Rattle.lf_worked.proofs.LedgerTest.{steps_at, steps_at-sound}
use Rattle.lf_worked.proofs.Numerals.{passes_below, passes_at}

-- ---- the places below one, kind by kind

abbrev pub steps_to : Setup → Trace → ℕ → Bool
steps_to setup trace n = passes_below (steps_at setup trace) n

abbrev core_at : Account → Account → ℕ → Bool
core_at a b c = same_option same_core (slice_get a.cores c) (slice_get b.cores c)

abbrev pub cores_to : Account → Account → ℕ → Bool
cores_to a b n = passes_below (core_at a b) n

abbrev place_at : Account → Account → ℕ → Bool
place_at a b i = same_option same_place (slice_get a.order i) (slice_get b.order i)

abbrev pub order_to : Account → Account → ℕ → Bool
order_to a b n = passes_below (place_at a b) n

abbrev turn_at : Account → Account → ℕ → Bool
turn_at a b i = same_option same_turn (slice_get a.transfers i) (slice_get b.transfers i)

abbrev pub transfers_to : Account → Account → ℕ → Bool
transfers_to a b n = passes_below (turn_at a b) n

abbrev fate_at : Account → Account → ℕ → Bool
fate_at a b i = same_option same_fate (slice_get a.fates i) (slice_get b.fates i)

abbrev pub fates_to : Account → Account → ℕ → Bool
fates_to a b n = passes_below (fate_at a b) n

steps_hold : (setup : Setup) (trace : Trace) (n : ℕ) → steps_to setup trace n ≡ true → FailsNowhere n (StepsAt setup trace)
steps_hold setup trace n passes c within = steps_at-sound setup trace c (passes_at (steps_at setup trace) n passes c within)

cores_hold : (a b : Account) (n : ℕ) → cores_to a b n ≡ true → FailsNowhere n (SameCore a b)
cores_hold a b n passes c within = options same_core cores (slice_get a.cores c) (slice_get b.cores c) (passes_at (core_at a b) n passes c within)

order_holds : (a b : Account) (n : ℕ) → order_to a b n ≡ true → FailsNowhere n (SameOrder a b)
order_holds a b n passes i within = options same_place places (slice_get a.order i) (slice_get b.order i) (passes_at (place_at a b) n passes i within)

transfers_hold : (a b : Account) (n : ℕ) → transfers_to a b n ≡ true → FailsNowhere n (SameTransfer a b)
transfers_hold a b n passes i within = options same_turn turns (slice_get a.transfers i) (slice_get b.transfers i) (passes_at (turn_at a b) n passes i within)

fates_hold : (a b : Account) (n : ℕ) → fates_to a b n ≡ true → FailsNowhere n (SameFlip a b)
fates_hold a b n passes i within = options same_fate fates_same (slice_get a.fates i) (slice_get b.fates i) (passes_at (fate_at a b) n passes i within)

-- ---- the first place

module _ (setup : Setup) (trace : Trace) where
  abbrev given : Account
  given = account_by_course setup trace

  abbrev reported : Account
  reported = account_as_reported trace

  abbrev pub steps_pass : Bool
  steps_pass = steps_to setup trace setup.config.cores

  abbrev pub cores_pass : Bool
  cores_pass = steps_pass && cores_to given reported setup.config.cores

  abbrev pub order_passes : Bool
  order_passes = cores_pass && order_to given reported (length trace.order)

  abbrev pub transfers_pass : Bool
  transfers_pass = order_passes && transfers_to given reported (length trace.transfers)

  abbrev pub fates_pass : Bool
  fates_pass = transfers_pass && fates_to given reported (length trace.fates)

  -- at the steps of a core
  pub fails_at_steps : (c : ℕ) → nat_lt c setup.config.cores ≡ true → steps_to setup trace c ≡ true → (StepsAt setup trace c → ⊥)
      → LedgerFailsFirst setup trace (Some (Core c))
  fails_at_steps c within before fails = inr (c, (ltb-true c _ within, fails, steps_hold setup trace c before), refl)

  -- at a core
  pub fails_at_core : (c : ℕ) → nat_lt c setup.config.cores ≡ true → steps_pass && cores_to given reported c ≡ true → (SameCore given reported c → ⊥)
      → LedgerFailsFirst setup trace (Some (Core c))
  fails_at_core c within before fails =
      let parts = and_parts steps_pass _ before in
      inl (steps_hold setup trace _ parts.0, inr (c, (ltb-true c _ within, fails, cores_hold given reported c parts.1), refl))

  -- at an operation
  pub fails_at_order : (i : ℕ) → nat_lt i (length trace.order) ≡ true → cores_pass && order_to given reported i ≡ true → (SameOrder given reported i → ⊥)
      → LedgerFailsFirst setup trace (Some (Order i))
  fails_at_order i within before fails =
      let parts = and_parts cores_pass _ before in
      let first = and_parts steps_pass _ parts.0 in
      inl (
        steps_hold setup trace _ first.0,
        inl (
          cores_hold given reported _ first.1,
          inr (i, (ltb-true i _ within, fails, order_holds given reported i parts.1), refl),
        ),
      )

  -- at a transfer
  pub fails_at_transfer : (i : ℕ) → nat_lt i (length trace.transfers) ≡ true → order_passes && transfers_to given reported i ≡ true
      → (SameTransfer given reported i → ⊥) → LedgerFailsFirst setup trace (Some (Transfer i))
  fails_at_transfer i within before fails =
      let parts = and_parts order_passes _ before in
      let second = and_parts cores_pass _ parts.0 in
      let first = and_parts steps_pass _ second.0 in
      inl (
        steps_hold setup trace _ first.0,
        inl (
          cores_hold given reported _ first.1,
          inl (
            order_holds given reported _ second.1,
            inr (i, (ltb-true i _ within, fails, transfers_hold given reported i parts.1), refl),
          ),
        ),
      )

  -- at a flip
  pub fails_at_flip : (i : ℕ) → nat_lt i (length trace.fates) ≡ true → transfers_pass && fates_to given reported i ≡ true → (SameFlip given reported i → ⊥)
      → LedgerFailsFirst setup trace (Some (Flip i))
  fails_at_flip i within before fails =
      let parts = and_parts transfers_pass _ before in
      let third = and_parts order_passes _ parts.0 in
      let second = and_parts cores_pass _ third.0 in
      let first = and_parts steps_pass _ second.0 in
      inl (
        steps_hold setup trace _ first.0,
        inl (
          cores_hold given reported _ first.1,
          inl (
            order_holds given reported _ second.1,
            inl (transfers_hold given reported _ third.1, inr (i, (ltb-true i _ within, fails, fates_hold given reported i parts.1), refl)),
          ),
        ),
      )

  -- at the end
  pub fails_at_end : fates_pass ≡ true → (SameFinal given reported 0 → ⊥) → LedgerFailsFirst setup trace (Some Final)
  fails_at_end before fails =
      let fourth = and_parts transfers_pass _ before in
      let third = and_parts order_passes _ fourth.0 in
      let second = and_parts cores_pass _ third.0 in
      let first = and_parts steps_pass _ second.0 in
      inl (
        steps_hold setup trace _ first.0,
        inl (
          cores_hold given reported _ first.1,
          inl (
            order_holds given reported _ second.1,
            inl (
              transfers_hold given reported _ third.1,
              inl (
                fates_hold given reported _ fourth.1,
                inr (0, (ltb-true 0 1 refl, fails, λ j below. absurd (omega (arith, below))), refl),
              ),
            ),
          ),
        ),
      )
