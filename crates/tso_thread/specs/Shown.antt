-- What a result shows of a core, part by part.
use Rattle.std.specs.Prelude.{ℕ, ◌≡◌, ◌≤◌, ◌<◌, ◌+◌, ◌==◌, List, count_by, Option, IfSome, slice_get, slice_index, if◌then◌else◌}
use Rattle.lf_model.specs.Results.{halt_of, idle_steps, is_in_steps, IsEnd, LosesStores}
use Rattle.lf_model.specs.Operation.{is_lost}
use Rattle.lf_model.specs.State.{cell, psr_of}
use Rattle.lf_model.specs.declared.bus.Transfer.{Transfer}
use Rattle.lf_model.specs.declared.control.Arch.{Arch}
use Rattle.lf_model.specs.declared.setup.Setup.{Setup}
use Rattle.lf_model.specs.declared.trace.CoreEnd.{CoreEnd}
use Rattle.lf_model.specs.declared.trace.CoreResult.{CoreResult}
use Rattle.lf_model.specs.declared.trace.Op.{Op}

-- the value of register n in a window of these cells; register 0 is 0
abbrev pub register_in : List ℕ → ℕ → ℕ → ℕ
register_in cells window n = if n == 0 then 0 else slice_index cells (cell window n)

-- each register that has a value has that of the window
abbrev pub ShowsCells : List ℕ → ℕ → List (Option ℕ) → Type 0
ShowsCells cells window shown = (n : ℕ) → n < 32 → IfSome (slice_get shown n) (λ one. IfSome one (λ value. value ≡ register_in cells window n))

-- the state registers
pub record ShowsControl (a : Arch) (r : CoreResult) : Type 0 where
  pub psr : r.psr ≡ psr_of a.ctl
  pub wim : r.wim ≡ a.wim
  pub tbr : r.tbr ≡ a.ctl.tbr
  pub y : r.y ≡ a.y
  pub pc : r.pc ≡ a.ctl.pc
  pub npc : r.npc ≡ a.ctl.npc

-- the steps are enough, and no more than they may be
pub record ShowsSteps (setup : Setup) (transfers : List Transfer) (core : ℕ) (r : CoreResult) : Type 0 where
  pub ends : IsEnd setup r.steps r.end
  pub within : r.steps ≤ setup.config.steps
  pub bound : r.steps ≤ r.n + count_by (is_in_steps core r.steps) transfers + idle_steps r.end

-- the end: the trap type by which the core entered error mode, and lost stores only with an end that loses them
pub record ShowsEnd (halt : Option ℕ) (ops : List Op) (end : CoreEnd) : Type 0 where
  pub halt_is : halt ≡ halt_of end
  pub lost : 0 < count_by is_lost ops → LosesStores end
