-- A turn that is asked for, or the drain before it, counts no instruction and is one that a bus can make.
use Rattle.std.proofs.Common.{ℕ, Bool, true, false, cond, refl, arith}
use Rattle.lf_model.specs.Effect.{Site}
use Rattle.lf_model.specs.Step.{IsSound, Seen, Parts, drains_first}
use Rattle.lf_model.specs.declared.bus.Why.{Why}
use Rattle.lf_model.specs.declared.control.Arch.{Arch}
use Rattle.lf_model.specs.declared.step.Did.TheVariants.{Need}
use Rattle.lf_model.specs.declared.step.Turn.{Turn}
use Rattle.lf_model.specs.declared.step.Turn.TheVariants.{Drain}
use Rattle.v8_exec.specs.Accesses.{AsksTurn, Asks}
use Rattle.v8_exec.specs.Frame.{Counts}

module _ (why : Why) (turn : Turn) where
  pub need_counts : (parts : Parts) (a : Arch) (seen : Seen) (room : ℕ) → IsSound a → Counts (drains_first parts why (Need turn)) a a seen seen room room
  need_counts parts a seen room sound = by parts.waiting
    where
      by : (b : Bool) → Counts (cond b (Need (Drain why)) (Need turn)) a a seen seen room room
      by true = record { sound = sound; core = refl; n = omega arith; k = refl; site = refl; room = omega arith }
      by false = record { sound = sound; core = refl; n = omega arith; k = refl; site = refl; room = omega arith }

  pub need_asks : (parts : Parts) (site : Site) → AsksTurn site turn → Asks site (drains_first parts why (Need turn))
  need_asks parts site asks = by parts.waiting
    where
      by : (b : Bool) → Asks site (cond b (Need (Drain why)) (Need turn))
      by true = tt
      by false = asks
