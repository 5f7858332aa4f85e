-- A core's run as the replay has it, and the effect of its next instruction.
use Rattle.std.specs.Prelude.{ℕ, ◌<◌, ◌*◌, ◌^◌, ⊤, List, [], Option, Some, None}
use Rattle.lf_model.specs.Effect.{Access, Effect}
use Rattle.lf_model.specs.Run.{Run, answer_to, answered, effect_at_pc}
use Rattle.lf_model.specs.State.{reset}
use Rattle.lf_model.specs.declared.bus.Entry.{Entry}
use Rattle.lf_model.specs.declared.setup.Setup.{Setup}

-- answers: the numbers that its loads and atomics read, in program order
pub record Running : Type 0 where
  pub setup : Setup
  pub core : ℕ
  pub answers : List ℕ
  pub run : Run

-- a core at reset
abbrev pub start : Setup → ℕ → List ℕ → Running
start setup core answers = record { setup = setup; core = core; answers = answers; run = record { state = reset setup.image.entry core; ops = [] } }

-- the effect of its next instruction
abbrev pub next_effect : Running → Effect
next_effect r = effect_at_pc r.setup r.core r.run.state

-- the next answer is a number of as many bytes as the operation has
abbrev pub FitsAnswer : List ℕ → List Entry → Option Access → Type 0
FitsAnswer answers ops None = ⊤
FitsAnswer answers ops (Some x) = answer_to answers ops (Some x) < 2 ^ (8 * x.len)

-- one more instruction is made
abbrev pub retired : Running → Running
retired r = record r { run = answered r.core r.answers r.run (next_effect r) }
