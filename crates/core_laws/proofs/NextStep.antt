-- A core that runs on: after an operation that retired it goes by what that read and stored too, and still by the step limit.
use Rattle.std.proofs.Common.{◌≡◌, ◌≤◌, ℕ, true, List, length, refl, arith}
use Rattle.std.specs.List.{list_all}
use Rattle.std.specs.List.{AllByRecursion as Each}
use Rattle.core_laws.proofs.LaterGround.{at_same}
use Rattle.core_laws.proofs.ListLemmas.{each_every}
use Rattle.core_laws.proofs.OwnTurns.{own_turn_at_same}
use Rattle.core_laws.specs.Running.{running, with_later, IsNoStop, IsBefore}
use Rattle.lf_model.proofs.CourseLemmas.{IsAt}
use Rattle.lf_model.specs.Course.Core.{Given}
use Rattle.lf_model.specs.Course.Course.{course}
use Rattle.lf_model.specs.Course.Progress.{Progress}
use Rattle.lf_model.specs.Records.BusRecord.{is_in_memory}
use Rattle.lf_model.specs.Records.OwnTurns.{OwnTurnAt}
use Rattle.lf_model.specs.Run.{reads_of}
use Rattle.lf_model.specs.declared.bus.Transfer.{Transfer}
use Rattle.lf_model.specs.declared.setup.Setup.{Setup}
use Rattle.lf_model.specs.declared.trace.CoreEnd.TheVariants.{Halt, Limit}

-- neither the limit nor a halt is a stop at a transfer
pub no_stop_at_limit : (core : ℕ) (ts : List Transfer) → Each (IsNoStop core Limit) ts
no_stop_at_limit core ts = each_every (IsNoStop core Limit) ts (λ t own. refl)

pub no_stop_at_halt : (core tt_ : ℕ) (ts : List Transfer) → Each (IsNoStop core (Halt tt_)) ts
no_stop_at_halt core tt_ ts = each_every (IsNoStop core (Halt tt_)) ts (λ t own. refl)

module _ (setup : Setup) (core : ℕ) (given later : Given) where
  before_limit : (k : Progress) → reads_of k.run.ops ≤ length given.answers → k.steps ≤ setup.config.steps → IsBefore given.answers Limit setup.config.steps k
  before_limit k read within = record { read = read; within = within; last = λ stop. absurd (cc) }

  -- it is where it was
  pub at_more : (ts : List Transfer) (n : ℕ) (k : Progress) → IsAt (running setup core given) ts n k → reads_of k.run.ops ≤ length given.answers → k.steps ≤ setup.config.steps
      → IsAt (running setup core (with_later given later)) ts n k
  at_more ts n k h read within =
      at_same setup core given later Limit setup.config.steps (omega arith) ts n k h (no_stop_at_limit core ts) (before_limit k read within)

  -- and its turns stay right
  pub own_turn_at_more : (ts : List Transfer) (turn : ℕ) → reads_of (course (running setup core given) ts).run.ops ≤ length given.answers
      → (course (running setup core given) ts).steps ≤ setup.config.steps → list_all (is_in_memory setup.config.ram) ts ≡ true
      → OwnTurnAt (running setup core given) ts turn → OwnTurnAt (running setup core (with_later given later)) ts turn
  own_turn_at_more ts turn read within in_memory h =
      own_turn_at_same setup core given later Limit setup.config.steps (omega arith) ts turn (no_stop_at_limit core ts) (before_limit (course (running setup core given) ts) read within) in_memory h
