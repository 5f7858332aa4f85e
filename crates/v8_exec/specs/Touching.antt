-- Which touches an instruction makes of the arrays of its core, in order, by what the parts of the core answer.
use Rattle.std.specs.Prelude.{ℕ, ◌≡◌, ◌==◌, List, [], ◌∷◌, ◌++◌, fold, Option, Some, None, is_some, if◌then◌else◌, Result, Ok, Err}
use Rattle.lf_model.specs.Course.Touches.{unless_bad, retire_touches}
use Rattle.lf_model.specs.Effect.{AccessKind, Access, Effect}
use Rattle.lf_model.specs.Effects.{effect}
use Rattle.lf_model.specs.Instructions.{registers_read}
use Rattle.lf_model.specs.State.{cell}
use Rattle.lf_model.specs.Step.{Seen, Parts, state_of, bad_register, first_bad}
use Rattle.lf_model.specs.declared.control.Arch.{Arch}
use Rattle.lf_model.specs.declared.instruction.Instr.{Instr}
use Rattle.lf_model.specs.declared.step.Did.{Did}
use Rattle.lf_model.specs.declared.step.Did.TheVariants.{Retired, Turned, Need, Halt, Stop}
use Rattle.lf_model.specs.declared.step.RegBad.{RegBad}
use Rattle.lf_model.specs.declared.touch.Touch.{Touch}
use Rattle.lf_model.specs.declared.touch.Touch.TheVariants.{ReadCell, LookData}

-- ---- registers

-- a register of the window is read; register 0 has no cell
unfoldable pub read_of : ℕ → ℕ → List Touch
read_of window n = if n == 0 then [] else ReadCell (cell window n) ∷ []

-- these registers are read, in order, up to and with the first that is bad
abbrev pub reads_of : Parts → ℕ → List ℕ → List Touch
reads_of parts window [] = []
reads_of parts window (n ∷ ns) = read_of window n ++ unless_bad (is_some (bad_register parts window n)) (reads_of parts window ns)

-- ---- once they are read, all of them good

-- a load looks its bytes up in the data cache, whether it hits or misses
abbrev pub looks_by : Access → AccessKind → List Touch
looks_by x AccessKind.Load = LookData x.addr x.len ∷ []
looks_by x AccessKind.Store = []
looks_by x AccessKind.Atomic = []

abbrev pub looks_of : Option Access → List Touch
looks_of None = []
looks_of (Some x) = looks_by x x.kind

-- only an instruction that retires updates the data cache, empties the caches or writes cells; one that halts the core writes
-- none. An atomic comes to the need of its turn, and its cells are written after that.
abbrev pub retires_of : Effect → Did → List Touch
retires_of e Retired = retire_touches e
retires_of e Turned = []
retires_of e (Need turn) = []
retires_of e (Halt tt_) = []
retires_of e (Stop tt_ place syn) = []

-- an instruction with this effect came to this
abbrev pub acts_of : Effect → Did → List Touch
acts_of e did = looks_of e.access ++ retires_of e did

-- ---- the whole

-- an instruction with this effect came to this: it read its registers, looked its load up unless one of them was bad, and retired
abbrev pub touches_of : Parts → ℕ → Effect → Did → List Touch
touches_of parts window e did =
    reads_of parts window e.reads ++ (unless_bad (is_some (first_bad parts window e.reads)) (looks_of e.access) ++ retires_of e did)

-- ---- instructions that answer the register that is bad

-- an instruction whose register is bad does no more than read
abbrev pub acts_after_reads : Effect → Result Did RegBad → List Touch
acts_after_reads e (Ok did) = acts_of e did
acts_after_reads e (Err bad) = []

-- an instruction reads its registers, and then does what it came to
abbrev pub Touches : {X : Type 0} → (X → Touch → X) → Instr → Parts → Result Did RegBad → Arch → Seen → X → X → Type 0
Touches touch i parts result old seen before after =
    after ≡ fold touch (fold touch before (reads_of parts old.ctl.cwp (registers_read i)))
    (acts_after_reads (effect seen.site (state_of old seen) i) result)
