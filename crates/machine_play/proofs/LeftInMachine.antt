-- What is left to be made of a machine: a step or a turn makes some of it.
use Rattle.std.proofs.Common.{◌≡◌, ◌∙◌, ◌+◌, ◌-◌, ◌<◌, ◌≤◌, ◌==◌, ◌++◌, ℕ, zero, suc, Bool, true, false, not, List, [], ◌∷◌, Some, length, filter, slice_get, slice_set, refl, ap, arith}
use Rattle.std.proofs.lemmas.Bool.{eqb-false}
use Rattle.std.proofs.lemmas.List.{length-append}
use Rattle.std.proofs.lemmas.List.Filters.{length-filter_both}
use Rattle.ahb_bus.specs.BusOk.{IsOfMaster, BusOk}
use Rattle.ahb_bus.specs.BusState.{BusState, most_transfers}
use Rattle.core_parts.specs.CoreValue.{CoreValue}
use Rattle.lf_model.proofs.EachLemmas.{each_both}
use Rattle.lf_model.specs.Bus.Walk.{scrubber}
use Rattle.lf_model.specs.Ledger.Steps.{own_transfers}
use Rattle.lf_model.specs.Once.{HasMaster}
use Rattle.lf_model.specs.declared.bus.Transfer.{Transfer}
use Rattle.lf_model.specs.declared.bus.TurnKind.{TurnKind}
use Rattle.lf_model.specs.declared.bus.TurnKind.TheVariants.{Fetch, Load, Store, Atomic, Snoop, Look, Fix}
use Rattle.lf_model.specs.declared.setup.Setup.{Setup}
use Rattle.machine_play.specs.MachineValue.{MachineValue}
use Rattle.machine_play.specs.Moved.{steps_left, left_in}
use Rattle.run_trace.proofs.Lists.{filter_swap, each_pass, each_filter}
use Rattle.run_trace.proofs.Shares.{fewer, not_true, shared}

-- ---- the transfers of all masters

of_core : (cores master : ℕ) (kind : TurnKind) → HasMaster cores master kind → (master == scrubber) ≡ false → master < cores
of_core cores master Fetch has other = has
of_core cores master Load has other = has
of_core cores master Store has other = has
of_core cores master Atomic has other = has
of_core cores master Snoop has other = has
of_core cores master Look has other = absurd (eqb-false master scrubber other has)
of_core cores master Fix has other = absurd (eqb-false master scrubber other has)

abbrev is_scrub : Transfer → Bool
is_scrub t = t.master == scrubber

-- they are no more than their shares
pub few_made : (bus : BusState) → BusOk bus → length bus.transfers ≤ most_transfers bus.setup.config
few_made bus ok =
    let config = bus.setup.config in
    let ts = bus.transfers in
    let rest = filter (λ (t : Transfer). not (is_scrub t)) ts in
    let parts = length-filter_both is_scrub (λ (t : Transfer). not (is_scrub t)) (λ t. refl) ts in
    let few = shared (λ (t : Transfer). t.master) (config.steps + 8) config.cores rest
    (each_both (IsOfMaster config.cores) (λ t. not (is_scrub t) ≡ true) (λ t. t.master < config.cores) rest
    (λ t has other. of_core config.cores t.master t.kind has (not_true (is_scrub t) other))
    (each_filter (IsOfMaster config.cores) (λ t. not (is_scrub t)) ts ok.shares.masters)
    (each_pass (λ t. not (is_scrub t)) ts))
    (λ c within.
    let swapped = ap (λ (us : List Transfer). length us) (filter_swap (λ (t : Transfer). t.master == c) (λ t. not (is_scrub t)) ts) in
    let fewer_left = fewer (λ (t : Transfer). not (is_scrub t)) (own_transfers c ts) in
    omega (arith, swapped, fewer_left, ok.shares.core_share c within)) in
    omega (arith, parts, few, ok.shares.scrub_share)

-- ---- the steps of all cores

set_steps_left : (vs : List CoreValue) (n : ℕ) (old new : CoreValue) → slice_get vs n ≡ Some old
    → steps_left (slice_set vs n new) + (old.setup.config.steps - old.steps) ≡ steps_left vs + (new.setup.config.steps - new.steps)
set_steps_left [] n old new there = absurd (cc)
set_steps_left (v ∷ vs) zero old new there = let same : v ≡ old = cc in omega (arith, ap (λ (w : CoreValue). w.setup.config.steps - w.steps) same)
set_steps_left (v ∷ vs) (suc n) old new there = omega (arith, set_steps_left vs n old new there)

module _ (m : MachineValue) (n : ℕ) (old new : CoreValue) (there : slice_get m.cores n ≡ Some old) (same_setup : new.setup ≡ old.setup) where
  same_limit : new.setup.config.steps ≡ old.setup.config.steps
  same_limit = ap (λ (s : Setup). s.config.steps) same_setup

  -- a step without a turn
  pub step_less : new.steps ≡ old.steps + 1 → old.steps < old.setup.config.steps → left_in (record m { cores = slice_set m.cores n new }) < left_in m
  step_less steps less = omega (arith, set_steps_left m.cores n old new there, same_limit, steps, less)

  -- a turn
  pub turn_less : (bus : BusState) (t : Transfer) → old.steps ≤ new.steps → BusOk bus → bus.setup ≡ m.bus.setup → bus.transfers ≡ m.bus.transfers ++ t ∷ []
      → left_in (record m { cores = slice_set m.cores n new; bus = bus }) < left_in m
  turn_less bus t steps ok setup more =
      omega (arith, set_steps_left m.cores n old new there, same_limit, steps, few_made bus ok, ap (λ (s : Setup). most_transfers s.config) setup, one_more)
    where
      one_more : length bus.transfers ≡ length m.bus.transfers + 1
      one_more = ap (λ (us : List Transfer). length us) more ∙ length-append m.bus.transfers (t ∷ [])

-- ---- a turn of the scrubber

pub scrub_less : (m : MachineValue) (bus : BusState) (t : Transfer) → BusOk bus → bus.setup ≡ m.bus.setup → bus.transfers ≡ m.bus.transfers ++ t ∷ []
    → left_in (record m { bus = bus }) < left_in m
scrub_less m bus t ok setup more = omega (arith, few_made bus ok, ap (λ (s : Setup). most_transfers s.config) setup, one_more)
  where
    one_more : length bus.transfers ≡ length m.bus.transfers + 1
    one_more = ap (λ (us : List Transfer). length us) more ∙ length-append m.bus.transfers (t ∷ [])
