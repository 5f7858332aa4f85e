-- A core whose instructions are made again: the run that it stands for, and how far it follows the operations of a trace.
use Rattle.std.specs.Prelude.{ℕ, ◌≡◌, ◌<◌, ◌≤◌, ◌+◌, ◌^◌, List, length, map, Some, IsSomeAnd}
use Rattle.lf_model.specs.Effects.{effect}
use Rattle.lf_model.specs.ProgramOrder.{answers_of}
use Rattle.lf_model.specs.Operation.{made}
use Rattle.lf_model.specs.Run.{Run, site_of, run, performed}
use Rattle.lf_model.specs.Step.{IsSound, Seen, Parts, state_of, run_seen, came_to}
use Rattle.lf_model.specs.declared.control.Arch.{Arch}
use Rattle.lf_model.specs.declared.instruction.Instr.{Instr}
use Rattle.lf_model.specs.declared.setup.Setup.{Setup}
use Rattle.lf_model.specs.declared.step.Did.TheVariants.{Need}
use Rattle.lf_model.specs.declared.step.Turn.TheVariants.{Atomic}
use Rattle.lf_model.specs.declared.trace.Op.{Op}
use Rattle.tso_thread.specs.ReplayInside.{seen_in, room_in}
use Rattle.tso_thread.specs.ReplayState.{IsFront}
use Rattle.tso_thread.specs.declared.running.Thread.{Thread}

-- the run that it stands for
abbrev pub run_in : Thread → Run
run_in t = record { state = record (state_of t.arch (seen_in t.replay)) { halt = t.halt }; ops = t.replay.made }

abbrev pub setup_in : Thread → Setup
setup_in t = t.replay.program.now.setup.now

-- it is this core of the setup, with these operations in the trace, and can make so many more instructions
pub record IsThreadOf (setup : Setup) (core : ℕ) (ops : List Op) (left : ℕ) (t : Thread) : Type 0 where
  pub site : (seen_in t.replay).site ≡ site_of setup core
  pub reads : t.replay.ops.now ≡ ops
  pub sound : IsSound t.arch
  pub number : t.arch.core ≡ core
  pub k : t.arch.k ≡ length t.replay.made
  pub n : t.arch.n + left < 2 ^ 32
  pub room : left ≤ room_in t.replay

-- after n instructions the run has made just the first operations of the trace
pub record Replays (setup : Setup) (core : ℕ) (ops : List Op) (n : ℕ) (q : Run) : Type 0 where
  pub ran : run setup core (answers_of ops) n ≡ Some q
  pub front : IsFront q.ops ops

-- the core after n instructions
pub record IsAt (setup : Setup) (core : ℕ) (ops : List Op) (n left : ℕ) (t : Thread) : Type 0 where
  pub is : IsThreadOf setup core ops left t
  pub replays : Replays setup core ops n (run_in t)

-- no run of n instructions or more makes just the operations of the trace
abbrev pub HasNoThread : Setup → ℕ → List Op → ℕ → Type 0
HasNoThread setup core ops n = (m : ℕ) (r : Run) → run setup core (answers_of ops) (n + m) ≡ Some r → r.ops ≡ map made ops → ⊥

-- the run gets to n instructions, and makes just the operations of the trace
abbrev pub MakesAll : Setup → ℕ → List Op → ℕ → Type 0
MakesAll setup core ops n = IsSomeAnd (run setup core (answers_of ops) n) (λ q. q.ops ≡ map made ops)

-- an atomic that needed its turn is made, and reads this number
pub record Exchanges (addr len new rd got : ℕ) (old next : Arch) (before after : Seen) : Type 0 where
  pub finishes : (i : Instr) (parts : Parts) → came_to parts (state_of old before) (effect before.site (state_of old before) i) ≡ Need (Atomic addr len new rd)
      → run_seen next after ≡ performed before.site.core got (effect before.site (state_of old before) i) (run_seen old before)
  pub sound : IsSound next
  pub core : next.core ≡ old.core
  pub n : next.n ≡ old.n + 1
  pub k : next.k ≡ old.k + 1
  pub site : after.site ≡ before.site
  pub ops : length after.ops ≡ length before.ops + 1
