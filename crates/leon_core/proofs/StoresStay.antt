-- A turn on the bus retires no store: one that is lost did retire, and an atomic is none.
use Rattle.std.proofs.Common.{◌≡◌, ◌∙◌, ◌++◌, ℕ, Bool, true, false, nat_le, List, [], ◌∷◌, map, filter, if◌then◌else◌, refl, ap}
use Rattle.std.proofs.lemmas.List.{append-nil}
use Rattle.std.proofs.lemmas.List.Elements.{filter-append}
use Rattle.core_laws.proofs.LostKinds.{lost_stays_store}
use Rattle.core_laws.specs.SeenSoFar.{lost_from, losing}
use Rattle.core_parts.specs.CoreValue.{CoreValue}
use Rattle.core_turns.specs.AfterTurn.{transferred, exchanged, atomic_op, drained, stores_lost}
use Rattle.leon_core.specs.Moves.{store_steps}
use Rattle.lf_model.specs.Course.Core.{is_store}
use Rattle.lf_model.specs.Course.Syndromes.{enters_log}
use Rattle.lf_model.specs.Promise.Follows.{step_of}
use Rattle.lf_model.specs.declared.bus.Transfer.{Transfer}
use Rattle.lf_model.specs.declared.step.Turn.{Turn}
use Rattle.lf_model.specs.declared.step.Turn.TheVariants.{Fetch, Load, Atomic, Drain, Snoop}
use Rattle.lf_model.specs.declared.trace.Op.{Op}

stores_losing : (n : ℕ) (ops : List Op) → store_steps (losing n ops) ≡ store_steps ops
stores_losing n [] = refl
stores_losing n (o ∷ ops) = by (is_store o) refl (stores_losing n ops)
  where
    stays : is_store (lost_from n o) ≡ is_store o
    stays = lost_stays_store o.kind (nat_le n o.k)

    by : (store : Bool) → is_store o ≡ store → store_steps (losing n ops) ≡ store_steps ops → store_steps (losing n (o ∷ ops)) ≡ store_steps (o ∷ ops)
    by true store rest = rw (stays, store) (ap (λ steps. o.step ∷ steps) rest)
    by false store rest = rw (stays, store) rest

stores_atomic : (addr len new got : ℕ) (v : CoreValue) → store_steps (v.ops ++ atomic_op addr len new got v ∷ []) ≡ store_steps v.ops
stores_atomic addr len new got v =
    ap (map step_of) (filter-append is_store v.ops (atomic_op addr len new got v ∷ []) ∙ append-nil (filter is_store v.ops))

pub stores_stay : (t : Transfer) (words : List ℕ) (got n : ℕ) (turn : Turn) (v : CoreValue) → store_steps (transferred t words got n turn v).ops ≡ store_steps v.ops
stores_stay t words got n (Fetch line why) v = refl
stores_stay t words got n (Load addr len why) v = refl
stores_stay t words got n (Atomic addr len new rd) v = by (enters_log t)
  where
    by : (enters : Bool) → store_steps (if enters then exchanged addr len new rd got v else v).ops ≡ store_steps v.ops
    by true = stores_atomic addr len new got v
    by false = refl
stores_stay t words got n (Drain why) v = by (enters_log t)
  where
    by : (enters : Bool) → store_steps (if enters then drained v else stores_lost n v).ops ≡ store_steps v.ops
    by true = refl
    by false = stores_losing n v.ops
stores_stay t words got n Snoop v = refl
