-- The error trap that a core meets is the one that its end names. Other steps and turns meet none and owe nothing.
use Rattle.std.proofs.Common.{◌≡◌, ◌+◌, ◌==◌, ℕ, false, [], Some, None, refl, arith}
use Rattle.std.specs.Prelude.{slice_index}
use Rattle.lf_model.specs.Caches.Slot.{history_at}
use Rattle.lf_model.specs.Course.Arrays.{begun}
use Rattle.lf_model.specs.Course.Attempt.{Attempt, attempt}
use Rattle.lf_model.specs.Course.Core.{Ground, r_register_access_error}
use Rattle.lf_model.specs.Course.LocalStep.{local_step}
use Rattle.lf_model.specs.Course.Outcome.Need.{NoTurn, RegisterStop}
use Rattle.lf_model.specs.Course.Progress.{Progress, next_needs}
use Rattle.lf_model.specs.Course.Syndromes.{syndromes_of}
use Rattle.lf_model.specs.Course.Turned.{turn_trap, bad_wanted, own_turn}
use Rattle.lf_model.specs.Flips.{syndrome}
use Rattle.lf_model.specs.Ledger.CoreAccount.{errors_reported}
use Rattle.lf_model.specs.Run.{effect_at_pc}
use Rattle.lf_model.specs.declared.bus.Transfer.{Transfer}
use Rattle.lf_model.specs.declared.bus.TurnKind.{TurnKind}
use Rattle.lf_model.specs.declared.bus.TurnKind.TheVariants.{Fetch, Load, Store, Atomic, Snoop, Look, Fix}
use Rattle.lf_model.specs.declared.trace.CoreEnd.TheVariants.{Stop}

no_register_trap : (kind : TurnKind) → (turn_trap kind == r_register_access_error) ≡ false
no_register_trap Fetch = refl
no_register_trap Load = refl
no_register_trap Store = refl
no_register_trap Atomic = refl
no_register_trap Snoop = refl
no_register_trap Look = refl
no_register_trap Fix = refl

module _ (g : Ground) (k : Progress) (none : k.errors ≡ []) where
  -- ---- a turn

  pub no_error_at_turn : (t : Transfer) → bad_wanted k.run.state.ctl.pc (effect_at_pc g.setup g.core k.run.state) t ≡ None → (own_turn g t k).errors ≡ []
  unfolding own_turn
  no_error_at_turn t good = rw (none, good) refl

  -- it met a bad word that it wants
  pub error_at_turn : (t : Transfer) (j turns : ℕ) → bad_wanted k.run.state.ctl.pc (effect_at_pc g.setup g.core k.run.state) t ≡ Some j → k.turns + 1 ≡ turns
      → (own_turn g t k).errors ≡ errors_reported (Stop (turn_trap t.kind) t.turn (slice_index (syndromes_of t) j)) (own_turn g t k).steps turns
  unfolding own_turn
  error_at_turn t j turns bad count = rw (none, bad, count, no_register_trap t.kind) refl

  -- ---- a step without a turn

  abbrev pub tried : Attempt
  tried = attempt g.setup.image k.run.state (effect_at_pc g.setup g.core k.run.state) (begun g.flips k.steps k.arrays)

  pub no_error_in_step : next_needs g k tried.outcome ≡ NoTurn → (local_step g k).errors ≡ []
  unfolding local_step
  no_error_in_step needed = rw (none, needed) refl

  pub owes_none_in_step : next_needs g k tried.outcome ≡ NoTurn → (local_step g k).owed ≡ k.owed
  unfolding local_step
  owes_none_in_step needed = rw needed (omega arith)

  -- it met a bad register cell
  pub error_in_step : (cell turns : ℕ) → next_needs g k tried.outcome ≡ RegisterStop cell
      → (local_step g k).errors ≡ errors_reported (Stop r_register_access_error cell (syndrome (history_at cell tried.arrays.cells))) (k.steps + 1) turns
  unfolding local_step
  error_in_step cell turns needed = rw (none, needed) refl
