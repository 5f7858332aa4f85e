-- What an instruction comes to in a step of its core, by what the parts of the core answer to it: registers that
-- read bad, a data cache that misses, and a store buffer that is full or where stores wait. Which error trap an
-- error gives, and when stores drain, is this machine's own.
use Rattle.std.specs.Prelude.{ℕ, ◌≡◌, ◌<◌, ◌%◌, ◌==◌, ◌∷◌, [], Bool, true, false, List, slice_index, slice_index_or, Option, Some, None, unwrap_or, if◌then◌else◌, Result, Ok, Err}
use Rattle.std.specs.Option.{option_or}
use Rattle.lf_model.specs.State.{State, cell}
use Rattle.lf_model.specs.Operation.{kind_reads}
use Rattle.lf_model.specs.Effect.{Site, AccessKind, Access, operation_kind, Effect}
use Rattle.lf_model.specs.Run.{Run, performed, with_access}
use Rattle.lf_model.specs.declared.bus.Entry.{Entry}
use Rattle.lf_model.specs.declared.bus.Why.{Why}
use Rattle.lf_model.specs.declared.bus.Why.TheVariants as whys
use Rattle.lf_model.specs.declared.control.Arch.{Arch}
use Rattle.lf_model.specs.declared.step.Look.{Look}
use Rattle.lf_model.specs.declared.step.Look.TheVariants.{Hit, Miss}
use Rattle.lf_model.specs.declared.step.RegBad.{RegBad}
use Rattle.lf_model.specs.declared.step.Turn.TheVariants.{Load, Atomic, Drain}
use Rattle.lf_model.specs.declared.step.Did.{Did}
use Rattle.lf_model.specs.declared.step.Did.TheVariants.{Retired, Turned, Need, Halt, Stop}

-- what a core shows an instruction: where it runs, the value of each register cell, the output and the operations
-- so far
pub record Seen : Type 0 where
  pub site : Site
  pub cells : List ℕ
  pub out : List ℕ
  pub ops : List Entry

-- what the parts of a core answer: of each register cell its syndrome if it reads bad, a look-up of the data cache at
-- an address and a length, whether the store buffer has no room, and whether a store waits in it
pub record Parts : Type 0 where
  pub bad : List (Option ℕ)
  pub look : ℕ → ℕ → Look
  pub full : Bool
  pub waiting : Bool

-- bounds of the state registers and of the core's number
pub record IsSound (a : Arch) : Type 0 where
  pub icc : a.ctl.icc < 16
  pub pil : a.ctl.pil < 16
  pub cwp : a.ctl.cwp < 8
  pub wim : a.wim < 256
  pub tbr : a.ctl.tbr % 16 ≡ 0
  pub core : a.core < 8

abbrev pub state_of : Arch → Seen → State
state_of a seen = record { cells = seen.cells; ctl = a.ctl; wim = a.wim; y = a.y; out = seen.out; halt = None }

abbrev pub run_seen : Arch → Seen → Run
run_seen a seen = record { state = state_of a seen; ops = seen.ops }

-- what the core shows once an operation is recorded that reads this number
abbrev pub recorded : ℕ → Access → Seen → Seen
recorded got a seen = record seen { ops = with_access seen.site.core got (Some a) seen.ops }

-- after a look-up of the data cache: a hit is a load
abbrev pub after_look : ℕ → ℕ → Look → Seen → Seen
after_look addr len (Hit value way) seen = recorded value (record { kind = AccessKind.Load; addr = addr; len = len; put = 0; rd = 0 }) seen
after_look addr len (Miss why) seen = seen

-- after a store, if the store buffer had room
abbrev pub after_store : ℕ → ℕ → ℕ → Bool → Seen → Seen
after_store addr len value true seen = recorded 0 (record { kind = AccessKind.Store; addr = addr; len = len; put = value; rd = 0 }) seen
after_store addr len value false seen = seen

-- a cell as it reads, by its syndrome if it reads bad
abbrev pub read_by : Option ℕ → List ℕ → ℕ → Result ℕ RegBad
read_by None cells c = Ok (slice_index cells c)
read_by (Some syn) cells c = Err (record { cell = c; syn = syn })

-- the syndrome of a cell, if it reads bad
abbrev pub syndrome_read : Parts → ℕ → Option ℕ
syndrome_read parts c = slice_index_or parts.bad c None

abbrev pub reading : Parts → List ℕ → ℕ → Result ℕ RegBad
reading parts cells c = read_by (syndrome_read parts c) cells c

abbrev pub bad_by : Option ℕ → ℕ → Option RegBad
bad_by None c = None
bad_by (Some syn) c = Some (record { cell = c; syn = syn })

-- register n of the window, if its cell reads bad; register 0 has none
abbrev pub bad_register : Parts → ℕ → ℕ → Option RegBad
bad_register parts window n = if n == 0 then None else bad_by (syndrome_read parts (cell window n)) (cell window n)

-- the first of these registers that reads bad
abbrev pub first_bad : Parts → ℕ → List ℕ → Option RegBad
first_bad parts window [] = None
first_bad parts window (n ∷ ns) = option_or (bad_register parts window n) (first_bad parts window ns)

-- where a store waits it drains first
abbrev pub drains_first : Parts → Why → Did → Did
drains_first parts why did = if parts.waiting then Need (Drain why) else did

-- a register read is bad: the core stops
abbrev pub stop_row : Parts → Option RegBad → Option Did
stop_row parts None = None
stop_row parts (Some bad) = Some (drains_first parts whys.End (Stop 0x20 bad.cell bad.syn))

-- an ordinary trap is taken: the core enters error mode, unless traps are enabled
abbrev pub trap_row : Parts → Bool → Option ℕ → Option Did
trap_row parts et None = None
trap_row parts et (Some tt_) = Some (if et then Retired else drains_first parts whys.End (Halt tt_))

-- a load misses the data cache
abbrev pub miss_row : Parts → Access → Look → Option Did
miss_row parts a (Hit value way) = None
miss_row parts a (Miss why) = Some (drains_first parts whys.Miss (Need (Load a.addr a.len why)))

-- a store finds the store buffer full; an atomic is a turn on the bus
abbrev pub kind_row : Parts → Access → AccessKind → Option Did
kind_row parts a AccessKind.Load = miss_row parts a (parts.look a.addr a.len)
kind_row parts a AccessKind.Store = if parts.full then Some (Need (Drain whys.Full)) else None
kind_row parts a AccessKind.Atomic = Some (drains_first parts whys.Atomic (Need (Atomic a.addr a.len a.put a.rd)))

abbrev pub access_row : Parts → Option Access → Option Did
access_row parts None = None
access_row parts (Some a) = kind_row parts a a.kind

-- STBAR or FLUSH, while a store waits
abbrev pub barrier_row : Parts → Option Why → Option Did
barrier_row parts None = None
barrier_row parts (Some why) = if parts.waiting then Some (Need (Drain why)) else None

-- the first row that holds
abbrev pub first_row : List (Option Did) → Option Did
first_row [] = None
first_row (row ∷ rows) = option_or row (first_row rows)

-- what an instruction comes to: the first row that holds, and else it retires
abbrev pub came_to : Parts → State → Effect → Did
came_to parts s e = unwrap_or (first_row (stop_row parts (first_bad parts s.ctl.cwp e.reads)
    ∷ trap_row parts s.ctl.et e.trap ∷ access_row parts e.access ∷ barrier_row parts e.barrier ∷ [])) Retired

-- the number that the operation reads
abbrev pub looked : Look → ℕ
looked (Hit value way) = value
looked (Miss why) = 0

abbrev pub answer_of : Parts → Option Access → ℕ
answer_of parts None = 0
answer_of parts (Some a) = if kind_reads (operation_kind a.kind) then looked (parts.look a.addr a.len) else 0

-- the run after it: the instruction is performed where it retires, and else all is as before. In error mode, too, the
-- registers and the operations are as before, and the answer tells the trap type.
abbrev pub run_after : ℕ → Parts → Did → Effect → Run → Run
run_after core parts Retired e r = performed core (answer_of parts e.access) e r
run_after core parts Turned e r = r
run_after core parts (Need turn) e r = r
run_after core parts (Halt tt_) e r = r
run_after core parts (Stop tt_ place syn) e r = r

-- what an instruction with this effect comes to and leaves
pub record Does (core : ℕ) (parts : Parts) (e : Effect) (did : Did) (old new : Run) : Type 0 where
  pub answer : did ≡ came_to parts old.state e
  pub leaves : new ≡ run_after core parts did e old

-- an instruction is counted where it retires, takes a trap, or halts the core
abbrev pub counted : Did → ℕ
counted Retired = 1
counted (Halt tt_) = 1
counted Turned = 0
counted (Need turn) = 0
counted (Stop tt_ place syn) = 0
